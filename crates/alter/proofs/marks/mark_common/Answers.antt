-- Of the first l lines those are marked too that have a bit in common.
use Rattle.std.proofs.Common.{[], arith}
use Rattle.std.proofs.Math.Nat.{le_refl}
use Rattle.board.proofs.Filling.{begun, stored_next, built}
use Rattle.alter.specs.Inner.{with_common}
use Rattle.alter.proofs.marks.mark_common.Goals as goal

pub loop-l-init : goal.loop-l-init
loop-l-init c = begun _ [] _

pub loop-l-preserved : goal.loop-l-preserved
loop-l-preserved c =
    let filling = c.loop-l.invariant in
    let l = c.loop-l.l in
    stored_next _ filling _ (omega (arith, filling.long, c.loop-l-test.true)) (rw (c.number.ensures, filling.rest l (le_refl l)))

pub returns : goal.returns
unfolding with_common
returns c = built _ c.loop-l.invariant (omega (arith, c.loop-l.invariant.long, c.loop-l-test.false))
