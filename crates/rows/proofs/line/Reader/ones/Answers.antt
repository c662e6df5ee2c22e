-- After j pins the sum is that of the first j values read.
use Rattle.std.proofs.Common.{◌++◌, sym, ap, ◌∙◌, arith, rules}
use Rattle.std.proofs.Math.Seq.{take_all}
use Rattle.board.specs.Lists.{ones}
use Rattle.image.specs.Inner.{pins_at}
use Rattle.image.proofs.Laws.Line.{pins_length}
use Rattle.rows.proofs.Laws.Line.{ones_next}
use Rattle.rows.proofs.line.Reader.ones.Goals as goal

pub loop-j-preserved : goal.loop-j-preserved
loop-j-preserved c =
    let r = c.args.self.now in
    let row = r.before.now ++ r.part.now in
    let inside = rw (sym (pins_length r.img.now r.at row ∙ sym c.byte-count.ensures.0)) at c.loop-j-test.true in
    (search rules, ones_next _ c.loop-j.j _ _ inside c.loop-j.invariant.1 c.pin-sum.ensures.0)

pub returns : goal.returns
returns c =
    let r = c.args.self.now in
    let row = r.before.now ++ r.part.now in
    let xs = pins_at r.img.now r.at row in
    let all = pins_length r.img.now r.at row in
    (c.loop-j.invariant.1 ∙ ap ones (take_all c.loop-j.j xs (omega (arith, all, c.byte-count.ensures.0))), omega (arith, c.byte-count.ensures.1))
