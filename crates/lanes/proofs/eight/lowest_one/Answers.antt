-- The trailing zeros are the place of the lowest 1.
use Rattle.std.proofs.Common.{arith}
use Rattle.lanes.proofs.Laws.Lowest.{lowest_one}
use Rattle.lanes.proofs.eight.lowest_one.Goals as goal

pub returns : goal.returns
returns c = rw c.from.ensures (lowest_one c.args.d (omega arith) c.requires)
