-- What the part holds so far is what grows behind the bytes before it.
use Rattle.board.specs.Row.{step}
use Rattle.board.specs.Gate.{faulty}
use Rattle.board.proofs.Filling.{Filling}
use Rattle.image.specs.Image.{board_of}
use Rattle.rows.proofs.fill.fill.Given as goal

abbrev pub invariant-loop-i : goal.invariant-loop-i
invariant-loop-i l = Filling (step (faulty l.condition l.x) (board_of l.img)) l.before l.initial.part l.i l.part
