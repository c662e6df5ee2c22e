-- Each of the two rows passes its test.
use Rattle.std.proofs.Common.{◌%◌, arith}
use Rattle.sets.proofs.Tables.{each, is_turned, turns_at}
use Rattle.sets.proofs.turn_row.Goals as goal

pub returns-then-way-eq0 : goal.returns-then-way-eq0
unfolding each is_turned
returns-then-way-eq0 c = turns_at 0 _ tt (c.args.way % 2) (omega arith)

pub returns-else-way-eq0 : goal.returns-else-way-eq0
unfolding each is_turned
returns-else-way-eq0 c = turns_at 1 _ tt (c.args.way % 2) (omega arith)
