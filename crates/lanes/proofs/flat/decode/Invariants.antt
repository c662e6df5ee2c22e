use Rattle.std.proofs.Common.{[]}
use Rattle.image.specs.Image.{board_of}
use Rattle.lanes.specs.Inner.{Decoded}
use Rattle.lanes.proofs.flat.decode.Given as goal

abbrev pub invariant-loop-i : goal.invariant-loop-i
invariant-loop-i l = Decoded (board_of l.board.img.now) l.i [] l.flat
