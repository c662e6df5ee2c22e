-- What is made, and the text of the numbers left, is the whole text.
use Rattle.std.proofs.Common.{◌≡◌, ◌++◌, ◌*◌, ◌≤◌, take, drop}
use Rattle.text.specs.Text.{each, spaced}
use Rattle.text.proofs.numbers.numbers_text.Given as goal

abbrev pub invariant-loop-number : goal.invariant-loop-number
invariant-loop-number l = record {
  short : l.at ≤ 21 * l.number-index;
  whole : each spaced l.numbers ≡ take l.at l.out ++ each spaced (drop l.number-index l.numbers);
}
