-- A statement read piece by piece: what each step adds to what was read.
use mathlib.Core.Path.{◌≡◌, refl, sym, ap, ◌∙◌}
use mathlib.Core.List.{List, [], ◌++◌, append_assoc, append-nil}
use Prim.Native.Nat.{ℕ, ◌+◌, ◌-◌, ◌≤◌, ◌<◌}
use native.Mathlib.Nat.{add_assoc}
use native.Mathlib.Omega.{arith}
use lib.ListN.{length, drop, replicate, length-append, length-drop}
use lib.Seq.{drop-drop}
use Rattle.std.specs.Prelude.{Result, Ok, Err}
use Rattle.board.specs.Board.{Record}
use Rattle.text.specs.Text.{decimal}
use Rattle.drawing.specs.Form.{last_number}
use Rattle.drawing.specs.Inner.{piece_forms, piece_count, piece, Stops, Chosen, Pins, pins_rest, tie_piece, HasPins, Statement, input, output, gate, section, Sound, an_input, an_output, a_gate, statement_text, Begins, Lined, OutputAt, GateAt}
use Rattle.drawing.specs.declared.stop.Stop.{Stop}
use Rattle.drawing.specs.declared.line.Line.{Line}
use Rattle.drawing.specs.declared.line.Line.TheVariants.{Input, Output, Gate}
use Rattle.drawing.proofs.Laws.WriteGate.{input_text_lem}
use Rattle.drawing.proofs.Laws.Statements.{output_is, gate_is, takes_none, takes_some, worded, output_stops, gate_stops, word_behind}

-- a gate's pins behind its word
module _ (rest : List ℕ) (at which n : ℕ) (room : at ≤ length rest) (chosen : Chosen 5 piece_count 0 (drop at rest) (Ok (record { which = which; length = n }))) where
  pub word_inside : at + n ≤ length rest
  word_inside = omega (arith, chosen.3, length-drop at rest)

  pub word_stop : which < tie_piece → (m : ℕ) → Stops (Pins 4) (drop (at + n) rest) m → GateAt rest at (Err (record { along = at + n + m }))
  word_stop no_tie m stops = (n + m, add_assoc at n m, word_behind which n no_tie chosen (rw drop-drop stops))

  pub tie_read : tie_piece ≤ which → (pins : List ℕ) → pins ≡ replicate 4 0 → GateAt rest at (Ok (Gate (which - 4) 0 pins (at + n)))
  tie_read tied pins holds =
      let kind : which ≡ 4 + (which - 4) = omega (arith, chosen.0) in (
        [],
        worded which [] chosen.0 chosen.1 (takes_none tied),
        refl,
        holds,
        word_inside,
        chosen.4
            ∙ ap (λ (z : List ℕ). piece which 0 ++ z) (drop-drop n at rest)
            ∙ ap (λ (z : List ℕ). z ++ drop (at + n) rest) (ap (λ (j : ℕ). piece j 0) kind ∙ sym (append-nil (piece (4 + (which - 4)) 0))),
      )

  pub gate_read : which < tie_piece → (ps pins : List ℕ) (count more : ℕ) → HasPins (drop (at + n) rest) 4 ps pins count more → GateAt rest at (Ok (Gate (which - 4) count pins (at + n + more)))
  gate_read no_tie ps pins count more has =
      let low = chosen.0 in
      let high = chosen.1 in
      let kind : which ≡ 4 + (which - 4) = omega arith in
      let inside = has.inside in
      let long = length-drop (at + n) rest in
      let word = word_inside in (
        ps,
        worded which ps low high (takes_some no_tie has.some_pin has.few has.numbers),
        has.counts,
        has.holds,
        omega arith,
        chosen.4
            ∙ ap (λ (z : List ℕ). piece which 0 ++ z) (drop-drop n at rest ∙ has.is ∙ ap (λ (z : List ℕ). pins_rest ps ++ z) (drop-drop more (at + n) rest))
            ∙ sym (append_assoc (piece which 0) (pins_rest ps) (drop (at + n + more) rest))
            ∙ ap (λ (j : ℕ). piece j 0 ++ pins_rest ps ++ drop (at + n + more) rest) kind,
      )

-- an output's number, and what closes it
pub output_read : (rest : List ℕ) (at o n : ℕ) → at ≤ length rest → o ≤ last_number → n ≤ length (drop at rest) → drop at rest ≡ decimal o ++ piece 3 0 ++ drop n (drop at rest)
    → OutputAt rest at (Ok (Output o (at + n)))
output_read rest at o n room few inside is =
    (few, omega (arith, length-drop at rest), is ∙ ap (λ (z : List ℕ). decimal o ++ piece 3 0 ++ z) (drop-drop n at rest))

-- as long as a text is that stands in front
pub long_is : (rest t : List ℕ) (n : ℕ) → n ≤ length rest → rest ≡ t ++ drop n rest → n ≡ length t
long_is rest t n room is = omega (arith, ap length is, length-append t (drop n rest), length-drop n rest)

-- no statement is empty
pub text_some : (k : ℕ) (st : Statement) → Sound st → 0 < length (statement_text k st)
unfolding piece piece_forms
text_some k input an_input = rw input_text_lem (omega arith)
text_some k (output o) (an_output few) = rw (output_is k o) (omega arith)
text_some k (gate g) (a_gate w) = rw (gate_is k g w) (omega arith)

-- so a statement in front is one that was read
pub begun : (from k : ℕ) (rest : List ℕ) (st : Statement) (n : ℕ) → from ≤ section st → Sound st → n ≤ length rest → rest ≡ statement_text k st ++ drop n rest → Begins from k rest st n
begun from k rest st n allowed sound inside is =
    record { allowed = allowed; sound = sound; some_byte = rw (long_is rest (statement_text k st) n inside is) (text_some k st sound); inside = inside; is = is }

module _ (from k : ℕ) (rest : List ℕ) (n : ℕ) where
  pub input_lined : from ≤ 0 → n ≤ length rest → rest ≡ piece 0 k ++ drop n rest → Lined from k rest (Ok (Input n))
  input_lined low inside is = begun from k rest input n low an_input inside (is ∙ ap (λ (z : List ℕ). z ++ drop n rest) (sym (input_text_lem k)))

  pub output_lined : from ≤ 1 → n ≡ length (piece 1 k) → rest ≡ piece 1 k ++ drop n rest → (r : Result Line Stop) → OutputAt rest n r → Lined from k rest r
  output_lined low long is (Ok (Input e)) none-there = absurd none-there
  output_lined low long is (Ok (Gate kind count pins e)) none-there = absurd none-there
  output_lined low long is (Ok (Output o e)) (few, inside, so) =
      begun from k rest (output o) e low (an_output few) inside
      (is ∙ ap (λ (z : List ℕ). piece 1 k ++ z) so ∙ sym (append_assoc (piece 1 k) (decimal o ++ piece 3 0) (drop e rest))
      ∙ ap (λ (z : List ℕ). z ++ drop e rest) (sym (output_is k o)))
  output_lined low long is (Err stop) (j, e, stops) = rw e (output_stops from k rest n j low long is stops)

  pub gate_lined : from ≤ 2 → n ≡ length (piece 2 k) → rest ≡ piece 2 k ++ drop n rest → (r : Result Line Stop) → GateAt rest n r → Lined from k rest r
  gate_lined low long is (Ok (Input e)) none-there = absurd none-there
  gate_lined low long is (Ok (Output o e)) none-there = absurd none-there
  gate_lined low long is (Ok (Gate kind count pins e)) (ps, w, counts, holds, inside, so) =
      let g : Record = record { kind = kind; pins = ps } in (
        ps,
        begun from k rest (gate g) e low (a_gate w) inside
            (is ∙ ap (λ (z : List ℕ). piece 2 k ++ z) so ∙ sym (append_assoc (piece 2 k) (piece (4 + kind) 0 ++ pins_rest ps) (drop e rest))
            ∙ ap (λ (z : List ℕ). z ++ drop e rest) (sym (gate_is k g w))),
        counts,
        holds,
      )
  gate_lined low long is (Err stop) (j, e, stops) = rw e (gate_stops from k rest n j low long is stops)
