-- The lines of the outputs before j were handed their bits.
use Rattle.std.proofs.Common.{◌+◌, ◌*◌, ◌%◌, ◌≤◌, ◌<◌, ◌^◌, length, ◌∙◌, arith}
use Rattle.std.proofs.Math.Dec.{lit<}
use Rattle.std.proofs.Math.Nat.{one-mul}
use Rattle.std.proofs.Math.Pow.{shl_exact}
use Rattle.reach.proofs.Laws.Hand.{handed_more}
use Rattle.reach.proofs.hand_own_bits.Goals as goal

pub loop-j-preserved : goal.loop-j-preserved
loop-j-preserved c =
    let j = c.loop-j.j in
    let few : 1 + j ≤ 64 = omega (arith, c.requires.0) in
    let bit = shl_exact 1 j 64 (lit< tt) few ∙ one-mul (2 ^ j) in
    let inside : c.output.result < length c.loop-j.numbers = rw (c.output.ensures.0, c.loop-j.invariant.long) (c.requires.1 j c.loop-j-test.true) in
    rw c.hand.ensures (handed_more _ c.output.result (1 * 2 ^ j % 2 ^ 64) inside c.loop-j.invariant c.output.ensures.0 bit)
