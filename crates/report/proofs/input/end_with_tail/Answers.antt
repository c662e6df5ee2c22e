-- The last twelve bytes alone decide how a long image is refused.
use Rattle.report.proofs.Laws.Tail.{refusal_kept}
use Rattle.report.proofs.input.end_with_tail.Goals as goal

pub returns : goal.returns
returns c =
    λ s long tail. refusal_kept s c.args.buf.now c.args.img.now _ _ c.requires.0 long c.requires.1 c.put.auto.out tail c.put.ensures.0 c.put.ensures.1
