-- `drawing::stored::put_record` meets its contract: a kind, a count, and four numbers of two bytes.
use Rattle.std.proofs.Common.{◌≡◌, length, ◌∙◌, sym, append_assoc, append-nil, arith, rules}
use Rattle.text.specs.Text.{each}
use Rattle.drawing.proofs.Laws.Stored.{each-take}
use Rattle.drawing.proofs.stored.put_record.Goals as goal

pub loop-pin-init : goal.loop-pin-init
unfolding each
loop-pin-init c = record { end = omega arith; long = c.put-end.auto.out; put = c.put-end.ensures.1 ∙ sym (append-nil _) }

pub loop-pin-preserved : goal.loop-pin-preserved
loop-pin-preserved c =
    let l = c.loop-pin in
    let pins = c.args.pins in
    let four : length pins ≡ 4 = search rules in
    let put = c.put_word-end in
    record {
      end = omega arith;
      long = put.auto.out ∙ l.invariant.long;
      put = rw (each-take pins l.pin-index (omega arith), ← append_assoc) (rw l.invariant.put at put.ensures.1);
    }
