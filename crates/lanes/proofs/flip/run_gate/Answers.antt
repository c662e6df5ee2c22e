-- At each pin's place stands what its line has with the change.
use Rattle.std.proofs.Common.{ℕ, ◌+◌, ◌*◌, get_or, sym, ap, ◌∙◌, arith}
use Rattle.board.specs.Row.{value}
use Rattle.image.specs.Image.{board_of}
use Rattle.lanes.specs.Words.{flipped_words}
use Rattle.lanes.specs.Inner.{gate_at, place_of}
use Rattle.lanes.proofs.Laws.Fill.{low_board, four_pins, pin_low, gate_kind, gate_of}
use Rattle.lanes.proofs.Laws.Pass.{loud_line}
use Rattle.lanes.proofs.flip.run_gate.Goals as goal

pub returns : goal.returns
returns c =
    let a = c.args in
    let b = board_of a.trial.img.now in
    let is = a.trial.decoded in
    let inside = c.requires.1 in
    let h = c.requires.2 in
    let low = low_board is a.i inside in
    let few = four_pins is a.i inside in
    let some = rw (is.count a.i inside) at c.requires.3 in
    let pin : ℕ → ℕ = λ j. get_or (gate_at a.trial.flat.now a.i).pins j 0 in
    λ w l.
    let turned_value : ℕ → ℕ = value (flipped_words a.line (a.trial.base + 64 * w)) b in
    gate_of is a.i inside turned_value c.places.result a.rows.now c.gate_words.result c.gate_words.ensures w l (λ j m.
    ap (λ (x : ℕ). get_or a.rows.now (x + w) 0) (c.places.ensures j (omega arith) ∙ ap (λ (n : ℕ). place_of n a.line a.changed.now (pin j)) h.long)
    ∙ h.reads (pin j) w (pin_low is a.i inside j m) l)
    ∙ sym (loud_line b low a.trial.base a.line a.i (λ e. omega arith) w (gate_kind is a.i inside some))
