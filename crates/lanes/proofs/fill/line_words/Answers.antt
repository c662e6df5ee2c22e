-- An input's words, or the gate's from the good words of its pins' lines.
use Rattle.std.proofs.Common.{ℕ, ◌+◌, ◌*◌, get_or, ap, ◌∙◌, arith}
use Rattle.board.specs.Row.{value}
use Rattle.image.specs.Image.{board_of}
use Rattle.lanes.specs.Words.{words, input_word}
use Rattle.lanes.specs.Inner.{gate_at}
use Rattle.lanes.proofs.Laws.Eight.{word_at}
use Rattle.lanes.proofs.Laws.Fill.{four_pins, pin_low, gate_of, good_input, good-gate}
use Rattle.lanes.proofs.fill.line_words.Goals as goal

pub returns-then-gate-eq0 : goal.returns-then-gate-eq0
returns-then-gate-eq0 c =
    let a = c.args in
    λ w l.
    word_at _ (λ v. input_word (a.trial.base + 64 * v) a.i) c.input_words.ensures w l
    ∙ good_input a.trial.decoded a.i c.requires.0 (a.trial.base + 64 * w) c.if-gate-eq0.true

pub returns : goal.returns
returns c =
    let a = c.args in
    let is = a.trial.decoded in
    let inside = c.requires.0 in
    let b = board_of a.trial.img.now in
    λ w l.
    let base = a.trial.base + 64 * w in
    gate_of is a.i inside (value (words base) b) c.good_places.result a.rows.now c.gate_words.result c.gate_words.ensures w l (λ j m.
    let few = four_pins is a.i inside in
    ap (λ (x : ℕ). get_or a.rows.now (x + w) 0) (c.good_places.ensures j (omega arith))
    ∙ c.requires.3 (get_or (gate_at a.trial.flat.now a.i).pins j 0) w (pin_low is a.i inside j m) l)
    ∙ good-gate is a.i inside base c.if-gate-eq0.false
