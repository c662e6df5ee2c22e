-- The lines on the pins before j were handed the number.
use Rattle.std.proofs.Common.{◌<◌, length, refl}
use Rattle.reach.proofs.Laws.Hand.{handed_more}
use Rattle.reach.proofs.hand_down.Goals as goal

pub loop-j-preserved : goal.loop-j-preserved
loop-j-preserved c =
    let used = rw c.byte-count.ensures.0 at c.loop-j-test.true in
    let inside : c.word.result < length c.loop-j.numbers = rw (c.word.ensures.0, c.loop-j.invariant.long) (c.requires.1 c.loop-j.j used) in
    rw c.hand.ensures (handed_more _ c.word.result c.args.n inside c.loop-j.invariant c.word.ensures.0 refl)
