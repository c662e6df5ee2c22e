-- A cell of the row.
use Rattle.sets.proofs.Tables.{forward_is}
use Rattle.sets.proofs.forward.Goals as goal

pub returns : goal.returns
returns c = forward_is c.args.o c.args.s c.args.t c.forward_row.result _ c.requires c.forward_row.ensures c.set_at.ensures
