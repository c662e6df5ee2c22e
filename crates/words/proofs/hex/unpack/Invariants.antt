-- The first `i` bytes are those of the word, the others as they were.
use Rattle.std.proofs.Common.{◌≡◌, ◌++◌, take, drop}
use Rattle.words.specs.Hex.{hex_bytes}
use Rattle.words.proofs.hex.unpack.Given as goal

abbrev pub invariant-loop-i : goal.invariant-loop-i
invariant-loop-i l = l.out ≡ take l.i (hex_bytes l.word) ++ drop l.i l.initial.out
