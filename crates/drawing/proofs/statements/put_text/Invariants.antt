-- The statements so far stand in front of the target.
use Rattle.std.proofs.Common.{◌≡◌, length}
use Rattle.image.specs.Image.{board_of}
use Rattle.drawing.specs.Calls.{in_front}
use Rattle.drawing.specs.Statements.{statements}
use Rattle.drawing.proofs.statements.put_text.Given as goal

abbrev pub invariant-loop-j : goal.invariant-loop-j
invariant-loop-j l = record {
  is : l.at ≡ length (statements (board_of l.board.img.now) 0 l.j);
  put : l.target ≡ in_front (statements (board_of l.board.img.now) 0 l.j) l.initial.target;
}
