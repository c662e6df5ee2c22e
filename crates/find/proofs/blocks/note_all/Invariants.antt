-- The first k entries are noted, and the rest are as they were.
use Rattle.std.proofs.Common.{get_or}
use Rattle.board.proofs.Filling.{Storing}
use Rattle.image.specs.Image.{board_of}
use Rattle.find.specs.Inner.{Goes, test_of}
use Rattle.find.proofs.blocks.note_all.Given as goal

abbrev pub invariant-loop-k : goal.invariant-loop-k
invariant-loop-k l =
    Storing (λ j e. Goes (test_of l.at (board_of l.trial.img.now) j) l.trial.base l.trial.end (get_or l.fn.part j 0) e) l.fn.part l.k l.part
