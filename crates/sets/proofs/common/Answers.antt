-- The 256 pairs of sets were gone through.
use Rattle.sets.proofs.Tables.{common_is}
use Rattle.sets.proofs.common.Goals as goal

pub returns : goal.returns
returns c = common_is c.args.s c.args.t
