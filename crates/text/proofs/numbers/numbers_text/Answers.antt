-- `text::numbers::numbers_text` meets its contract: what is made, and the text of the numbers left, is the whole text.
use Rattle.std.proofs.Common.{◌<◌, ◌∙◌, append_assoc, length, take, arith, rules}
use Rattle.text.specs.Text.{spaced}
use Rattle.text.proofs.Laws.Made.{next, finished, one_more}
use Rattle.text.proofs.Laws.Each.{each_at, each_past}
use Rattle.text.proofs.numbers.numbers_text.Goals as goal

pub loop-number-preserved : goal.loop-number-preserved
loop-number-preserved c =
    let numbers = c.args.numbers.now in
    let l = c.loop-number in
    let room : l.at < length l.out = omega arith in record {
      short = omega arith;
      whole =
          next _ (take l.at l.out) _ l.invariant.whole _ _ _ (each_at spaced numbers l.number-index c.loop-number-test.true)
          (rw (one_more l.out l.at _ room) at c.put_number-at.ensures.2 ∙ append_assoc (take l.at l.out) _ _);
    }

pub returns : goal.returns
returns c =
    let l = c.loop-number in
    let whole = finished _ (take l.at l.out) _ l.invariant.whole (each_past spaced c.args.numbers.now l.number-index (omega arith)) in
    search rules
