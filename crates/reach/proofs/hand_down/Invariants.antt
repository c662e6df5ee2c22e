use Rattle.reach.specs.Inner.{Handed, pin_at}
use Rattle.reach.proofs.hand_down.Given as goal

abbrev pub invariant-loop-j : goal.invariant-loop-j
invariant-loop-j l = Handed (pin_at l.img l.at) (λ k. l.n) l.j l.initial.numbers l.numbers
