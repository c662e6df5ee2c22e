-- `drawing::number::read_number` meets its contract: the bytes that were looked at are the number that they came to.
use Rattle.std.proofs.Common.{◌≡◌, ◌+◌, ◌<◌, get_or, arith}
use Rattle.drawing.proofs.Laws.Reading.{number_more}
use Rattle.drawing.proofs.number.read_number.Goals as goal

pub loop-x-preserved : goal.loop-x-preserved
loop-x-preserved c =
    let rest = c.args.rest.now in
    let l = c.loop-x in
    let d = c.in-Some.next in
    let small = c.in-Some.ensures.0 in
    let here : get_or rest l.length 0 ≡ 48 + d = rw l.invariant.here c.in-Some.ensures.1 in record {
      here = omega arith;
      so =
          number_more rest l.value l.length l.invariant.so d (omega arith) small here
          (λ (later : 0 < l.length) (nought : l.value ≡ 0). omega arith)
          (omega arith);
    }
