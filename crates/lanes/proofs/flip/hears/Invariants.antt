use Rattle.std.proofs.Common.{◌≡◌, ℕ, ◌<◌, false, get_or}
use Rattle.lanes.specs.Inner.{is_changed}
use Rattle.lanes.proofs.flip.hears.Given as goal

abbrev pub invariant-loop-j : goal.invariant-loop-j
invariant-loop-j l = (k : ℕ) → k < l.j → is_changed l.line l.changed (get_or l.gate.pins k 0) ≡ false
