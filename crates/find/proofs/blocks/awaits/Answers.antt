-- An entry that is not none stays, and so does one on an absent pin.
use Rattle.std.proofs.Common.{sym, ◌∙◌}
use borrow.Author.Tests.{not-false}
use Rattle.image.specs.Image.{board_of}
use Rattle.find.proofs.Laws.Blocks.{settled, absent-same}
use Rattle.find.proofs.blocks.awaits.Goals as goal

pub returns-then-e-ne-NONE : goal.returns-then-e-ne-NONE
returns-then-e-ne-NONE c = λ off m n over. settled _ m n c.args.e over c.if-e-ne-NONE.true

pub returns : goal.returns
returns c =
    λ off m n over is.
    is ∙ absent-same (board_of c.args.trial.img.now) c.args.condition (sym c.is_absent.ensures ∙ not-false _ off) m n over
