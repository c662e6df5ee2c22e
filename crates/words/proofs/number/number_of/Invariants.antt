-- The digits before `x` come to `value`.
use Rattle.std.proofs.Common.{◌≡◌, ◌^◌, ◌<◌, drop}
use Rattle.words.specs.Number.{numeral, number_of}
use Rattle.words.proofs.number.number_of.Given as goal

abbrev pub invariant-loop-x : goal.invariant-loop-x
invariant-loop-x l = (l.value < 2 ^ 64) × (number_of l.word ≡ numeral l.value (drop l.x-index l.word))
