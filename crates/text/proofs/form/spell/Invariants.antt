-- What is made, and what the rest of the form spells, is the whole line.
use Rattle.std.proofs.Common.{◌≡◌, ◌++◌, ◌+◌, ◌*◌, ◌≤◌, length, take, drop}
use Rattle.text.specs.Text.{spelled}
use Rattle.text.proofs.form.spell.Given as goal

abbrev pub invariant-loop-byte : goal.invariant-loop-byte
invariant-loop-byte l = record {
  short : l.at + 20 * length l.left ≤ l.byte-index + 20 * length l.numbers;
  whole : spelled l.form l.numbers ≡ take l.at l.out ++ spelled (drop l.byte-index l.form) l.left;
}
