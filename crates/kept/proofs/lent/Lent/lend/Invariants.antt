-- What is gone through is fresh.
use Rattle.std.proofs.Common.{◌≡◌, ◌++◌, drop}
use Rattle.std.specs.Prelude.{replicate}
use Rattle.kept.proofs.lent.Lent.lend.Given as goal

abbrev pub invariant-loop-place : goal.invariant-loop-place
invariant-loop-place g l = l.front ≡ replicate l.place-index l.fresh ++ drop l.place-index l.initial.front
