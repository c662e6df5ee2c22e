-- Refusals are tested in their order, and the answer is the search's.
use Rattle.image.proofs.Laws.Calls.{fault_accepted}
use Rattle.find.proofs.find.Goals as goal

pub smallest-requires : goal.smallest-requires
smallest-requires c =
    (fault_accepted c.args.img.now c.args.fault c.in_ok-counts.ensures.0).1
