use Rattle.image.specs.Image.{board_of}
use Rattle.lanes.proofs.Laws.Flat.{Pins}
use Rattle.lanes.proofs.flat.decode_line.Given as goal

abbrev pub invariant-loop-j : goal.invariant-loop-j
invariant-loop-j l = Pins (board_of l.img) l.line l.j l.pins l.flat
