-- An entry that is not awaited stays as it is.
use Rattle.image.proofs.Laws.Fine.{line_count_lem}
use Rattle.find.proofs.blocks.is_to_do.Goals as goal

pub awaits-requires : goal.awaits-requires
awaits-requires c =
    let fault = c.requires.faults c.loop-k.k c.loop-k-test.true in
    rw (c.fault.ensures, line_count_lem c.args.trial.img.now) fault.inside
