-- By what is left of the pattern behind its inputs.
use Rattle.image.proofs.Laws.Pattern.{left_behind, none_behind}
use Rattle.image.proofs.asked.is_too_high.Goals as goal

pub returns-then-inputs-lt64 : goal.returns-then-inputs-lt64
returns-then-inputs-lt64 c = left_behind c.args.x c.args.inputs

pub returns-else-inputs-lt64 : goal.returns-else-inputs-lt64
returns-else-inputs-lt64 c = none_behind c.args.x c.args.inputs c.ranges.x.fits c.if-inputs-lt64.false
