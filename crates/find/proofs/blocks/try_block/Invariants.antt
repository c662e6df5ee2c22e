-- The lines of the first k entries are tried, and the rest are as they were.
use Rattle.std.proofs.Common.{◌≡◌, ◌-◌, length}
use Rattle.image.specs.Image.{board_of}
use Rattle.lanes.specs.Inner.{Block}
use Rattle.find.proofs.Laws.Parts.{Trying}
use Rattle.find.proofs.blocks.try_block.Given as goal

abbrev pub invariant-loop-k : goal.invariant-loop-k
invariant-loop-k l =
    Trying l.at (board_of l.trial.img.now) l.trial.base l.trial.end l.fn.todo l.fn.part l.any l.k l.todo l.part × Block (board_of l.trial.img.now) l.trial.base l.rows × (length l.changed ≡ length l.fn.changed)

abbrev pub decreases-loop-k : goal.decreases-loop-k
decreases-loop-k l = length l.fn.part - l.k
