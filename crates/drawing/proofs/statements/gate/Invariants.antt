-- What is made, and the pins left with the end, is the gate's statement.
use Rattle.std.proofs.Common.{◌≡◌, ◌++◌, ◌+◌, ◌*◌, ◌≤◌}
use Rattle.board.specs.Board.{record_of}
use Rattle.image.specs.Image.{board_of}
use Rattle.drawing.specs.Form.{gate_text}
use Rattle.drawing.specs.Made.{made}
use Rattle.drawing.proofs.Laws.WriteGate.{pins_left}
use Rattle.drawing.proofs.statements.gate.Given as goal

abbrev pub invariant-loop-pin : goal.invariant-loop-pin
invariant-loop-pin l = record {
  short : l.made.length ≤ 32 + 52 * l.pin;
  whole : gate_text l.line (record_of (board_of l.img) l.line) ≡ made l.made ++ pins_left l.line (record_of (board_of l.img) l.line).pins l.pin;
}
