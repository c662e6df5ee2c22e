-- Of the first l lines those are marked too that have a bit in common.
use Rattle.std.proofs.Common.{[], ◌||◌, get_or, bit_and}
use Rattle.board.specs.Lists.{bit, on}
use Rattle.board.proofs.Filling.{Filling}
use Rattle.alter.proofs.marks.mark_common.Given as goal

abbrev pub invariant-loop-l : goal.invariant-loop-l
invariant-loop-l l =
    Filling (λ k before. bit (on (get_or l.initial.row k 0) || on (bit_and l.own (get_or l.numbers k 0)))) [] l.initial.row l.l l.row
