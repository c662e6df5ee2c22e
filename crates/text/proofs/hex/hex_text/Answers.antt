-- `text::hex::hex_text` meets its contract: what is made, and the text of the bytes left, is the whole text.
use Rattle.std.proofs.Common.{◌+◌, ◌*◌, ◌<◌, length, take, arith, rules}
use Rattle.text.specs.Text.{two_digits}
use Rattle.text.proofs.Laws.Made.{next, finished, two_more}
use Rattle.text.proofs.Laws.Each.{each_at, each_past}
use Rattle.text.proofs.hex.hex_text.Goals as goal

pub loop-i-preserved : goal.loop-i-preserved
loop-i-preserved c =
    let bytes = c.args.bytes.now in
    let out = c.loop-i.out in
    let i = c.loop-i.i in
    let room : 2 * i + 1 < length out = omega arith in
    rw (← c.digit.ensures, ← c.digit-in-loop-i.ensures) at (next _ (take (2 * i) out) _ c.loop-i.invariant _ _ _ (each_at two_digits bytes i c.loop-i-test.true) (two_more out i _ _ room))

pub returns : goal.returns
returns c =
    let whole = finished _ (take (2 * c.loop-i.i) c.loop-i.out) _ c.loop-i.invariant (each_past two_digits c.args.bytes.now c.loop-i.i (omega arith)) in
    search rules
