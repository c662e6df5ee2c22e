-- The first k entries are none where their lines are marked, and the rest are as they were.
use Rattle.std.proofs.Common.{◌≡◌, cond, get_or}
use Rattle.board.specs.Lists.{on}
use Rattle.board.specs.Limits.{none_mark}
use Rattle.board.specs.Gate.{site}
use Rattle.board.specs.Book.{fault_at}
use Rattle.board.proofs.Filling.{Storing}
use Rattle.find.proofs.entries.clear.Given as goal

abbrev pub invariant-loop-k : goal.invariant-loop-k
invariant-loop-k l =
    Storing (λ j e. e ≡ cond (on (get_or l.marks (site (fault_at l.sort j)) 0)) none_mark (get_or l.initial.book j 0)) l.initial.book l.k l.book
