-- What is made, and the text of the bytes left, is the whole text.
use Rattle.std.proofs.Common.{◌≡◌, ◌++◌, ◌*◌, take, drop}
use Rattle.text.specs.Text.{each, two_digits}
use Rattle.text.proofs.hex.hex_text.Given as goal

abbrev pub invariant-loop-i : goal.invariant-loop-i
invariant-loop-i l = each two_digits l.bytes ≡ take (2 * l.i) l.out ++ each two_digits (drop l.i l.bytes)
