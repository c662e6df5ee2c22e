-- `drawing::pins::read_pins` meets its contract: one pin, and then fewer.
use Rattle.std.proofs.Common.{◌≡◌, ◌+◌, Err, Ok, [], ◌∷◌, refl, arith, rules}
use Rattle.std.proofs.lemmas.Grind.{common_steps}
use Rattle.drawing.specs.declared.stop.Stop.{Stop}
use Rattle.drawing.proofs.Laws.Pins.{pins_one, pins_more}
use Rattle.drawing.proofs.pins.+read_pins.Goals as goal

pub returns-in_err-found-in-More : goal.returns-in_err-found-in-More
returns-in_err-found-in-More t c =
    let w = c.in-More in
    let goes = rw w.is at c.in_ok-line.ensures in
    let (s, was, is) : (s : Stop) × (c.read_pins.result ≡ Err s) × (c.from_residual-in_err-found-in-More.result ≡ Err (record { along = w.length + s.along })) = grind (arith, common_steps) in
    rw is (goes.on s.along (rw (c.tail.ensures, was) at c.read_pins.ensures))

pub returns-in-Last : goal.returns-in-Last
returns-in-Last t c =
    let w = c.in-Last in
    let found = rw w.is at c.in_ok-line.ensures in
    (w.line ∷ [], pins_one c.args.rest.now c.args.left w.line w.length (w.line ∷ 0 ∷ 0 ∷ 0 ∷ []) c.requires found.0 found.1 found.2 refl)

pub returns-in_ok-found-in-More : goal.returns-in_ok-found-in-More
returns-in_ok-found-in-More t c =
    let w = c.in-More in
    let goes = rw w.is at c.in_ok-line.ensures in
    let p = c.in_ok-found-in-More.found in
    let was : c.read_pins.result ≡ Ok p = search rules in
    let (qs, has) = rw (c.tail.ensures, was) at c.read_pins.ensures in
    (w.line ∷ qs, pins_more c.args.rest.now c.args.left w.line w.length qs p.pins c.before-in-More.result p.count p.length goes has c.before-in-More.ensures)
