use Rattle.lanes.proofs.Laws.Lowest.{Dark}
use Rattle.lanes.proofs.eight.lowest.Given as goal

abbrev pub invariant-loop-w : goal.invariant-loop-w
invariant-loop-w l = Dark l.fn.e l.w
