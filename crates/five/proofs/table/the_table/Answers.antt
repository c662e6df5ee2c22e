-- The whole table passes the one test, which is computed here.
use Rattle.std.proofs.Common.{refl}
use Rattle.five.proofs.Laws.Table.{is_rule, table_ruled}
use Rattle.five.proofs.table.the_table.Goals as goal

pub returns : goal.returns
unfolding is_rule
returns c = table_ruled tt refl
