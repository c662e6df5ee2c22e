use Rattle.std.proofs.Common.{◌^◌}
use Rattle.image.specs.Image.{output_at}
use Rattle.reach.specs.Inner.{Handed}
use Rattle.reach.proofs.hand_own_bits.Given as goal

abbrev pub invariant-loop-j : goal.invariant-loop-j
invariant-loop-j l = Handed (output_at l.img) (λ k. 2 ^ k) l.j l.initial.numbers l.numbers
