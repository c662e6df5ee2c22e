-- A refusal's line, or the form with as many values as there are.
use Rattle.report.specs.Lines.{line_of}
use Rattle.report.proofs.Laws.Lines.{all_said, line_refused}
use Rattle.report.proofs.lines.answer_line.Goals as goal

pub returns-then-n-ne0 : goal.returns-then-n-ne0
returns-then-n-ne0 c = rw (line_refused _ _ _ c.if-n-ne0.true) c.refused_line.ensures

pub returns : goal.returns
unfolding line_of
returns c = rw c.if-n-ne0.false (rw (c.min-said.ensures, all_said) at c.of.ensures)
