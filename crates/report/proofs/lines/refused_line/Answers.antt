-- As many values as there are.
use Rattle.std.proofs.Common.{arith}
use Rattle.report.proofs.Laws.Lines.{refused_two}
use Rattle.report.proofs.lines.refused_line.Goals as goal

pub returns-in_default : goal.returns-in_default
returns-in_default c = rw (refused_two _ _ _ _ c.args.n.values (λ e. omega (arith, e)) (λ e. omega (arith, e))) c.of-in_default.ensures
