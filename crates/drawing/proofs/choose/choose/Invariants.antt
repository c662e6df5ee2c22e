-- Each piece before the one that is looked at has been tried, and the best of them kept.
use Rattle.std.proofs.Common.{ℕ, ◌+◌}
use Rattle.drawing.specs.Inner.{Run}
use Rattle.drawing.proofs.Laws.Tried.{Tried}
use Rattle.drawing.proofs.choose.choose.Given as goal

abbrev pub invariant-loop-which : goal.invariant-loop-which
invariant-loop-which l = (from to : ℕ) → Run from to l.forms → Tried from to l.k l.rest l.best (from + l.which)
