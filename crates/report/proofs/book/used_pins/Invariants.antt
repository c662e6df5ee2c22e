-- What is counted and the pins of the lines left are the pins of all.
use Rattle.std.proofs.Common.{◌≡◌, ◌+◌, ◌*◌, ◌≤◌, drop}
use Rattle.image.specs.Image.{board_of}
use Rattle.report.specs.Book.{pins_of}
use Rattle.report.proofs.book.used_pins.Given as goal

abbrev pub invariant-loop-i : goal.invariant-loop-i
invariant-loop-i l = (l.used ≤ 4 * l.i) × (l.used + pins_of (drop l.i (board_of l.board.img.now).lines) ≡ pins_of (board_of l.board.img.now).lines)
