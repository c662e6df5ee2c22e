-- Setting one value changes the sum by it alone, and setting none leaves it.
use Rattle.std.proofs.Common.{◌≡◌, ℕ, ◌+◌, ◌≤◌, ◌<◌, ◌++◌, length, set, sym, ap, ◌∙◌, arith}
use Rattle.std.proofs.Math.Seq.{set_out}
use Rattle.std.specs.Prelude.{Some}
use Rattle.board.specs.Lists.{ones}
use Rattle.image.specs.Inner.{pins_at}
use Rattle.image.proofs.Laws.Line.{pins_length}
use Rattle.rows.proofs.Laws.Line.{ones-set}
use Rattle.rows.proofs.line.Reader.ones_with.Goals as goal
use Rattle.rows.proofs.line.Reader.ones_with.Goals.{After-pin}

-- the sum with any value in the place of the pin's own
with : (c : After-pin) (v : ℕ) →
    let r = c.args.self.now in
    let vs = pins_at r.img.now r.at (r.before.now ++ r.part.now) in
    ones (set vs c.in-Some.pin v) + c.pin.result ≡ c.ones-sum.result + v
with c v =
    let r = c.args.self.now in
    let row = r.before.now ++ r.part.now in
    let vs = pins_at r.img.now r.at row in
    let inside : c.in-Some.pin < length vs = omega (arith, pins_length r.img.now r.at row, c.byte.ensures.0, c.if-pin-byte.true) in
    rw (c.pin.ensures.0, c.ones-sum.ensures.0) (ones-set vs c.in-Some.pin v inside)

pub overflow_sub-result : goal.overflow_sub-result
overflow_sub-result c = omega (arith, with (goal.at.overflow_sub-result c).After-pin 0)

pub returns-in-Some : goal.returns-in-Some
returns-in-Some c =
    let now = (goal.at.returns-in-Some c).After-pin in
    let is : c.args.held ≡ Some c.in-Some.pin = c.in-Some.is in
    rw is (omega (arith, with now c.args.stuck, with now 0))

pub returns-in_default : goal.returns-in_default
returns-in_default c =
    let r = c.args.self.now in
    let row = r.before.now ++ r.part.now in
    let vs = pins_at r.img.now r.at row in
    let past : length vs ≤ c.in-Some.pin = omega (arith, pins_length r.img.now r.at row, c.byte.ensures.0, c.if-pin-byte.false) in
    let is : c.args.held ≡ Some c.in-Some.pin = c.in-Some.is in
    rw is (c.ones-sum.ensures.0 ∙ sym (ap ones (set_out vs c.in-Some.pin c.args.stuck past)))
