-- The first l lines are marked as in the row.
use Rattle.std.proofs.Common.{◌≡◌, get_or}
use Rattle.board.specs.Lists.{on}
use Rattle.board.proofs.Filling.{Storing}
use Rattle.find.proofs.search.take_marks.Given as goal

abbrev pub invariant-loop-l : goal.invariant-loop-l
invariant-loop-l l = Storing (λ j m. on m ≡ on (get_or l.marks j 0)) l.initial.todo l.l l.todo
