-- `drawing::line::gate_at` meets its contract: a word, and then up to four pins, or none where it is that of a tie.
use Rattle.std.proofs.Common.{◌≡◌, ◌+◌, ◌-◌, ◌≤◌, length, lit<, lit≤, Err, Ok, refl, arith, rules}
use Rattle.std.proofs.Math.ListN.{length-drop}
use Rattle.drawing.specs.declared.stop.Stop.{Stop}
use Rattle.drawing.specs.Inner.{piece_forms, piece_count}
use Rattle.drawing.proofs.Laws.Statements.{word_stops}
use Rattle.drawing.proofs.Laws.Lines.{word_inside, word_stop, tie_read, gate_read}
use Rattle.drawing.proofs.line.gate_at.Goals as goal

pub choose-requires : goal.choose-requires
unfolding piece_forms
choose-requires c = (5, piece_count, (lit< tt, lit≤ tt, refl))

pub map_err-requires : goal.map_err-requires
unfolding piece_forms
map_err-requires c = let chosen = c.choose.ensures 5 piece_count (lit< tt, lit≤ tt, refl) in search rules

pub overflow_add-next : goal.overflow_add-next
unfolding piece_forms
overflow_add-next c =
    let w = c.in_ok-took.took in
    let was : c.choose.result ≡ Ok w = search rules in
    let chosen = rw (c.tail.ensures, was) at (c.choose.ensures 5 piece_count (lit< tt, lit≤ tt, refl)) in
    let inside = word_inside c.args.rest.now c.args.at (5 + w.which) w.length c.requires chosen in
    search rules

pub overflow_add-kind : goal.overflow_add-kind
unfolding piece_forms
overflow_add-kind c =
    let w = c.in_ok-took.took in
    let was : c.choose.result ≡ Ok w = search rules in
    let chosen = rw was at (c.choose.ensures 5 piece_count (lit< tt, lit≤ tt, refl)) in
    omega (arith, chosen.1)

pub overflow_add-result : goal.overflow_add-result
unfolding piece_forms
overflow_add-result c =
    let w = c.in_ok-took.took in
    let took : c.choose.result ≡ Ok w = search rules in
    let chosen = rw (c.tail.ensures, took) at (c.choose.ensures 5 piece_count (lit< tt, lit≤ tt, refl)) in
    let p = c.in_ok-pins.field-0 in
    let found : c.read_pins.result ≡ Ok p = search rules in
    let (ps, has) = rw (c.tail-2.ensures, found) at c.read_pins.ensures in
    let rest = c.args.rest.now in
    let word = word_inside rest c.args.at (5 + w.which) w.length c.requires chosen in
    let pins = has.inside in
    let long = length-drop (c.args.at + w.length) rest in
    let inside : c.args.at + w.length + p.length ≤ length rest = omega arith in
    search rules

pub returns-in_err-took : goal.returns-in_err-took
unfolding piece_forms
returns-in_err-took c =
    let (s, was, is) : (s : Stop) × (c.choose.result ≡ Err s) × (c.from_residual.result ≡ Err (record { along = c.args.at + s.along })) = search rules in
    rw is (s.along, refl, word_stops (rw (c.tail.ensures, was) at (c.choose.ensures 5 piece_count (lit< tt, lit≤ tt, refl))))

pub returns-then-kind-ge-FIRST_TIE : goal.returns-then-kind-ge-FIRST_TIE
unfolding piece_forms
returns-then-kind-ge-FIRST_TIE c =
    let w = c.in_ok-took.took in
    let was : c.choose.result ≡ Ok w = search rules in
    let chosen = rw (c.tail.ensures, was) at (c.choose.ensures 5 piece_count (lit< tt, lit≤ tt, refl)) in
    let kind : 5 + w.which - 4 ≡ w.which + 1 = omega arith in
    rw kind at (tie_read c.args.rest.now c.args.at (5 + w.which) w.length c.requires chosen (omega arith) _ refl)

pub returns-in_err-pins : goal.returns-in_err-pins
unfolding piece_forms
returns-in_err-pins c =
    let w = c.in_ok-took.took in
    let took : c.choose.result ≡ Ok w = search rules in
    let chosen = rw (c.tail.ensures, took) at (c.choose.ensures 5 piece_count (lit< tt, lit≤ tt, refl)) in
    let (s, was, is) : (s : Stop) × (c.read_pins.result ≡ Err s) × (c.from_residual-in_err-pins.result ≡ Err (record { along = c.args.at + w.length + s.along })) = search rules in
    rw is (word_stop c.args.rest.now c.args.at (5 + w.which) w.length c.requires chosen (omega arith) s.along (rw (c.tail-2.ensures, was) at c.read_pins.ensures))

pub returns : goal.returns
unfolding piece_forms
returns c =
    let w = c.in_ok-took.took in
    let took : c.choose.result ≡ Ok w = search rules in
    let chosen = rw (c.tail.ensures, took) at (c.choose.ensures 5 piece_count (lit< tt, lit≤ tt, refl)) in
    let p = c.in_ok-pins.field-0 in
    let found : c.read_pins.result ≡ Ok p = search rules in
    let (ps, has) = rw (c.tail-2.ensures, found) at c.read_pins.ensures in
    let kind : 5 + w.which - 4 ≡ w.which + 1 = omega arith in
    rw kind at (gate_read c.args.rest.now c.args.at (5 + w.which) w.length c.requires chosen (omega arith) ps p.pins p.count p.length has)
