-- A row is cut at four bits a set.
use Rattle.std.proofs.Common.{refl}
use Rattle.sets.specs.Inner.{cell}
use Rattle.sets.proofs.set_at.Goals as goal

pub returns : goal.returns
unfolding cell
returns c = refl
