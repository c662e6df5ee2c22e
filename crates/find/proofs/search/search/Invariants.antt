-- The patterns of the blocks so far are tried.
use Rattle.std.proofs.Common.{◌≡◌, ◌*◌, length, min}
use Rattle.image.specs.Image.{board_of}
use Rattle.lanes.specs.Inner.{Roomy}
use Rattle.find.specs.Inner.{Tried}
use Rattle.find.proofs.search.search.Given as goal

abbrev pub invariant-loop-block : goal.invariant-loop-block
invariant-loop-block l =
    Tried l.at (board_of l.img) 0 (min l.limit (512 * l.block)) (length l.initial.part) l.initial.todo l.initial.part l.todo l.part
    × Roomy (board_of l.img) l.rows
    × (length l.changed ≡ length l.initial.changed)
