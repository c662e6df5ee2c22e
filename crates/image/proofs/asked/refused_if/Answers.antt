-- The refusal where its test passes, else the counts as they were.
use Rattle.image.proofs.Laws.Answer.{next_given, next_skip}
use Rattle.image.proofs.asked.refused_if.Goals as goal

pub returns-then-bad : goal.returns-then-bad
returns-then-bad c = λ rs s past. next_given rs past.0 _ _ c.if-bad.true

pub returns-else-bad : goal.returns-else-bad
returns-else-bad c = λ rs s past. (next_skip rs past.0 _ _ c.if-bad.false, past.1)
