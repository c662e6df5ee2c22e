-- The two rows pass the test of parts.
use Rattle.sets.specs.Inner.{cell}
use Rattle.sets.proofs.Sets.{below}
use Rattle.sets.proofs.Tables.{is_parted, parted_is}
use Rattle.sets.proofs.split.Goals as goal

pub returns : goal.returns
unfolding below cell is_parted
returns c = parted_is _ _ tt c.args.s _ _ c.set_at-one.ensures c.set_at-other.ensures
