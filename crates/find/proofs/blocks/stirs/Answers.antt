-- An entry that is not none stays, and so does one whose fault changes its line in no lane.
use Rattle.std.proofs.Common.{◌∙◌}
use borrow.Author.Tests.{not-false}
use Rattle.board.proofs.Fine.{fine_low}
use Rattle.image.specs.Image.{board_of}
use Rattle.find.proofs.Laws.Blocks.{settled, idle_same}
use Rattle.find.proofs.blocks.stirs.Goals as goal

pub returns-then-e-ne-NONE : goal.returns-then-e-ne-NONE
returns-then-e-ne-NONE c = λ off n over few. settled _ c.args.trial.base n c.args.e over c.if-e-ne-NONE.true

pub returns : goal.returns
returns c =
    let a = c.args in
    let b = board_of a.trial.img.now in
    λ off n over few is.
    is
    ∙ idle_same b (fine_low b a.trial.decoded.fine) a.condition c.requires.1.held a.trial.base c.own_words.result c.own_words.ensures n over few
    (c.is_dark.ensures (not-false _ off))
