-- The last word is no longer than the line.
use Rattle.std.proofs.Common.{eqb}
use Rattle.words.proofs.Laws.Command.{last_short}
use Rattle.words.proofs.command.values_of.Goals as goal

pub overflow_sub-result : goal.overflow_sub-result
overflow_sub-result c = rw c.last_word-last.ensures (last_short (λ x. eqb x 32) c.args.line.now)
