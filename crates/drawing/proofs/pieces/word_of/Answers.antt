-- `drawing::pieces::word_of` meets its contract: the code's table has the words.
use Rattle.std.proofs.Common.{◌<◌, ◌-◌, arith}
use Rattle.drawing.specs.Inner.{piece_forms}
use Rattle.drawing.proofs.Laws.Pieces.{leads_to, word_form}
use Rattle.drawing.proofs.pieces.word_of.Goals as goal

pub returns : goal.returns
unfolding piece_forms
returns c =
    let inside : c.args.kind - 1 < 10 = omega arith in
    rw leads_to (word_form c.args.kind c.requires.0 c.requires.1)
