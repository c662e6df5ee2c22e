-- `drawing::statements::gate` meets its contract: what is made, and the pins left with the end, is the gate's statement.
use Rattle.std.proofs.Common.{◌≡◌, List, ℕ, ◌++◌, ◌+◌, ◌≤◌, ◌<◌, length, refl, sym, ap, ◌∙◌, arith}
use Rattle.std.proofs.Math.Dec.{lit≤}
use Rattle.board.specs.Board.{record_of}
use Rattle.image.specs.Bytes.{byte_at}
use Rattle.image.specs.Image.{board_of, record_place}
use Rattle.image.specs.Refusals.{Accepted}
use Rattle.image.proofs.Laws.Fine.{lines_few, line_count_lem}
use Rattle.drawing.specs.Form.{gate_text, Worded}
use Rattle.drawing.specs.Made.{made}
use Rattle.drawing.specs.Inner.{piece_forms, piece}
use Rattle.drawing.specs.Statements.{GateOf}
use Rattle.drawing.proofs.Laws.Pieces.{as_piece}
use Rattle.drawing.proofs.Laws.WriteGate.{line_kind, line_pin, tie_text, gate_begun, gate_more, pins_done}
use Rattle.drawing.proofs.Laws.ImageDrawn.{accepted_drawn}
use Rattle.drawing.proofs.statements.gate.Goals as goal

-- the gate can be drawn
worded : (s : List ℕ) (i : ℕ) → Accepted s → GateOf s i → Worded (record_of (board_of s) i)
worded s i ok gate = (accepted_drawn s ok).worded i gate.gate (rw line_count_lem gate.inside)

-- the kind that is read
kind_is : (s : List ℕ) (i place kind : ℕ) → GateOf s i → place ≡ record_place s i → kind ≡ byte_at s place → kind ≡ (record_of (board_of s) i).kind
kind_is s i place kind gate at_place is = rw at_place at is ∙ sym (line_kind s i gate.inside)

pub word_of-requires : goal.word_of-requires
word_of-requires c =
    let s = c.args.img.now in
    let i = c.args.line in
    let (ok, gate) = c.requires in
    let kind = kind_is s i c.record_place.result c.byte-kind.result gate c.record_place.ensures.0 c.byte-kind.ensures.0 in
    let known = worded s i ok gate in
    (omega (arith, kind, known.a_gate), omega (arith, kind, known.a_word))

-- there are at most four pins
four : (s : List ℕ) (i pins : ℕ) → Accepted s → GateOf s i → pins ≡ length (record_of (board_of s) i).pins → pins ≤ 4
four s i pins ok gate counts = rw counts (worded s i ok gate).four_pins

-- without pins that is all
pub returns-then-pins-eq0 : goal.returns-then-pins-eq0
unfolding piece_forms
returns-then-pins-eq0 c =
    let s = c.args.img.now in
    let i = c.args.line in
    let r = record_of (board_of s) i in
    let (ok, gate) = c.requires in
    let kind = kind_is s i c.record_place.result c.byte-kind.result gate c.record_place.ensures.0 c.byte-kind.ensures.0 in
    let named = rw (c.blank-made.ensures.0, as_piece 2 i _ refl) at c.add_piece.ensures.0 in
    let opened = rw (as_piece (4 + c.byte-kind.result) i _ c.word_of.ensures.0) at c.add_piece-2.ensures.0 in
    let none : length r.pins ≡ 0 = omega (arith, c.pin_count-pins.ensures) in
    rw kind at opened ∙ ap (λ (z : List ℕ). z ++ piece (4 + r.kind) i) named ∙ sym (tie_text i r (worded s i ok gate) none)

pub loop-pin-init : goal.loop-pin-init
unfolding piece_forms
loop-pin-init c =
    let s = c.args.img.now in
    let i = c.args.line in
    let r = record_of (board_of s) i in
    let (ok, gate) = c.requires in
    let kind = kind_is s i c.record_place.result c.byte-kind.result gate c.record_place.ensures.0 c.byte-kind.ensures.0 in
    let named = rw (c.blank-made.ensures.0, as_piece 2 i _ refl) at c.add_piece.ensures.0 in
    let opened = rw (as_piece (4 + c.byte-kind.result) i _ c.word_of.ensures.0) at c.add_piece-2.ensures.0 in
    let word = rw kind at opened in
    let some_pin : 1 ≤ length r.pins = omega (arith, c.pin_count-pins.ensures) in
    let number = line_pin s i gate.inside 0 some_pin in
    record { short = omega arith; whole = gate_begun i r (worded s i ok gate) some_pin _ _ _ named word (rw (c.pin_of.ensures, ← number) at c.add_number.ensures.0) }

pub add_piece-requires-in-loop-pin : goal.add_piece-requires-in-loop-pin
add_piece-requires-in-loop-pin c =
    let (ok, gate) = c.requires in
    let few = four c.args.img.now c.args.line c.pin_count-pins.result ok gate c.pin_count-pins.ensures in
    (lit≤ tt, omega arith)

pub pin_of-requires-in-loop-pin : goal.pin_of-requires-in-loop-pin
pin_of-requires-in-loop-pin c =
    let (ok, gate) = c.requires in
    let few = four c.args.img.now c.args.line c.pin_count-pins.result ok gate c.pin_count-pins.ensures in
    (omega (arith, gate.inside, lines_few _ ok), omega arith)

pub add_number-requires-in-loop-pin : goal.add_number-requires-in-loop-pin
add_number-requires-in-loop-pin c =
    let (ok, gate) = c.requires in
    let few = four c.args.img.now c.args.line c.pin_count-pins.result ok gate c.pin_count-pins.ensures in
    omega arith

pub loop-pin-preserved : goal.loop-pin-preserved
unfolding piece piece_forms
loop-pin-preserved c =
    let s = c.args.img.now in
    let i = c.args.line in
    let r = record_of (board_of s) i in
    let (ok, gate) = c.requires in
    let l = c.loop-pin in
    let used : l.pin < length r.pins = omega (arith, c.pin_count-pins.ensures) in
    let number = line_pin s i gate.inside l.pin used in record {
      short = omega arith;
      whole =
          gate_more i r.pins l.pin (gate_text i r) (made l.made) _ _ used l.invariant.whole c.add_piece-in-loop-pin.ensures.0
          (rw (c.pin_of-in-loop-pin.ensures, ← number) at c.add_number-in-loop-pin.ensures.0);
    }

pub add_piece-requires-3 : goal.add_piece-requires-3
add_piece-requires-3 c =
    let (ok, gate) = c.requires in
    let few = four c.args.img.now c.args.line c.pin_count-pins.result ok gate c.pin_count-pins.ensures in
    (lit≤ tt, omega arith)

pub returns : goal.returns
unfolding piece piece_forms
returns c =
    let s = c.args.img.now in
    let i = c.args.line in
    let r = record_of (board_of s) i in
    let l = c.loop-pin in
    let some_pin : 1 ≤ length r.pins = omega (arith, c.pin_count-pins.ensures) in
    let all : l.pin ≡ length r.pins = omega (arith, c.pin_count-pins.ensures) in
    c.add_piece-3.ensures.0 ∙ sym (rw (pins_done i r.pins l.pin all) at l.invariant.whole)
