-- The sum so far is the length of the statements so far.
use Rattle.std.proofs.Common.{◌≡◌, ◌*◌, ◌≤◌, length}
use Rattle.image.specs.Image.{board_of}
use Rattle.drawing.specs.Statements.{statements}
use Rattle.drawing.proofs.statements.text_length.Given as goal

abbrev pub invariant-loop-j : goal.invariant-loop-j
invariant-loop-j l = record { short : l.length ≤ 288 * l.j; is : l.length ≡ length (statements (board_of l.board.img.now) 0 l.j) }
