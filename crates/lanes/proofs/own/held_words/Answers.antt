-- The stuck value stands at the held pin's place, and the good words at the others'.
use Rattle.std.proofs.Common.{ℕ, ◌+◌, ◌*◌, get_or, refl, sym, ap, ◌∙◌, arith}
use Rattle.std.proofs.lemmas.Bool.{eq-eqb, ne_eqb}
use Rattle.lanes.specs.Inner.{gate_at}
use Rattle.lanes.proofs.Laws.Fill.{four_pins}
use Rattle.lanes.proofs.Laws.Own.{pin_held, stuck_stands}
use Rattle.lanes.proofs.own.held_words.Goals as goal

pub returns : goal.returns
returns c =
    let a = c.args in
    let is = a.trial.decoded in
    let h = c.requires.0 in
    let inside = c.requires.1 in
    let few = four_pins is a.line inside in
    let count = is.count a.line inside in
    let rows = a.rows.now in
    λ w l.
    pin_held is a.line inside (a.trial.base + 64 * w) a.pin a.stuck c.held_places.result rows c.gate_words.result w l c.requires.2 c.gate_words.ensures
    (ap (λ (x : ℕ). get_or rows (x + w) 0) (rw (eq-eqb a.pin a.pin refl) at (c.held_places.ensures a.pin (omega arith)))
    ∙ rw c.from.ensures (stuck_stands h.room a.stuck w c.requires.3 l))
    (λ j m ne.
    ap (λ (x : ℕ). get_or rows (x + w) 0) (rw (ne_eqb a.pin j (λ e. ne (sym e))) at (c.held_places.ensures j (omega arith)) ∙ c.good_places.ensures j (omega arith))
    ∙ h.good (get_or (gate_at a.trial.flat.now a.line).pins j 0) w (is.inside a.line j inside (omega arith)) l)
