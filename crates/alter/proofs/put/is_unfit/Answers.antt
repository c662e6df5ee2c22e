-- By what its calls give.
use Rattle.alter.specs.Patch.{unfit}
use Rattle.alter.proofs.put.is_unfit.Goals as goal

pub returns : goal.returns
unfolding unfit
returns c = rw (c.would_be_bad.ensures, c.byte-2.ensures.0, c.byte.ensures.0, c.record_place-at.ensures.0, c.requires.1)
