-- `drawing::pins::read_pin` meets its contract: a number, and then one of the two pieces.
use Rattle.std.proofs.Common.{◌≡◌, ◌+◌, Err, Ok, arith, rules}
use Rattle.drawing.specs.declared.stop.Stop.{Stop}
use Rattle.drawing.specs.Inner.{pins_to}
use Rattle.drawing.proofs.Laws.Pins.{pins_to_lem, pin_none, pin_stops, pin_on, pin_is}
use Rattle.drawing.proofs.pins.read_pin.Goals as goal

pub returns-in_default : goal.returns-in_default
returns-in_default c = pin_none c.args.rest.now c.args.left c.requires c.in_default.ensures

pub returns-in_err-took : goal.returns-in_err-took
returns-in_err-took c =
    let rest = c.args.rest.now in
    let left = c.args.left in
    let n = c.in-Some.number in
    let (s, was, is) : (s : Stop) × (c.choose.result ≡ Err s) × (c.from_residual.result ≡ Err (record { along = n.length + s.along })) = search rules in
    rw is (pin_stops rest left n s.along c.requires c.in-Some.ensures (rw (c.tail.ensures, was) at (c.choose.ensures 3 (pins_to left) c.behind_pin.ensures)))

pub returns-then-took-eq0 : goal.returns-then-took-eq0
returns-then-took-eq0 c =
    let rest = c.args.rest.now in
    let left = c.args.left in
    let n = c.in-Some.number in
    let w = c.in_ok-took.took in
    let was : c.choose.result ≡ Ok w = search rules in
    let took = rw (c.tail.ensures, was) at (c.choose.ensures 3 (pins_to left) c.behind_pin.ensures) in
    let (inside, is) = pin_is rest n (pins_to left) (3 + w.which) w.length c.in-Some.ensures took in
    let last : 3 + w.which ≡ 3 = omega arith in
    (c.in-Some.ensures.few, inside, rw last at is)

pub returns : goal.returns
returns c =
    let rest = c.args.rest.now in
    let left = c.args.left in
    let n = c.in-Some.number in
    let w = c.in_ok-took.took in
    let was : c.choose.result ≡ Ok w = search rules in
    let leads = c.in-Some.ensures in
    let took = rw (c.tail.ensures, was) at (c.choose.ensures 3 (pins_to left) c.behind_pin.ensures) in
    let (inside, is) = pin_is rest n (pins_to left) (3 + w.which) w.length leads took in
    let (low, high, two) = pins_to_lem left in
    let next : 3 + w.which ≡ 4 = let most = took.1 in let other = c.if-took-eq0.false in omega arith in
    let more = two (rw next at took.1) in
    record {
      few = leads.few;
      two = more;
      inside = inside;
      is = rw next at is;
      on = λ m. pin_on rest left n w.length m more leads (rw next at took);
    }
