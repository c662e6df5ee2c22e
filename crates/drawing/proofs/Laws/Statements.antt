-- Statements from pieces and numbers, and where those that may follow stop going along with a text.
use mathlib.Core.Path.{◌≡◌, refl, sym, ap, ◌∙◌}
use mathlib.Core.Logic.{⊎_elim, ◌⊎◌, inl, inr}
use mathlib.Core.List.{List, [], ◌∷◌, ◌++◌, append_assoc, append-nil}
use Prim.Native.Nat.{ℕ, zero, suc, ◌+◌, ◌-◌, ◌≤◌, ◌<◌}
use native.Mathlib.Omega.{arith}
use lib.Dec.{lit≤, lit<, ltb}
use lib.ListN.{length, get_or, drop}
use borrow.Author.Tests.{lt-ltb, ltb-true, ltb-false}
use Rattle.std.specs.Prelude.{Ok}
use Rattle.board.specs.Lists.{◌among◌}
use Rattle.board.specs.Board.{Record}
use Rattle.board.proofs.Lists.{way}
use Rattle.text.specs.Text.{decimal, each}
use Rattle.drawing.specs.Form.{output_text, gate_text, last_number, Worded}
use Rattle.drawing.specs.Inner.{piece_forms, piece_count, piece, Stops, NoPiece, Chosen, PieceThen, pins_to, Pins, pins_rest, tie_piece, WordThen, GateRest, input, output, gate, an_input, an_output, a_gate, Statements}
use Rattle.drawing.proofs.Laws.WriteGate.{next_pin, word_piece, input_text_lem, output_text_lem, gate-text, tie_text}
use Rattle.drawing.proofs.Laws.Stops.{stops_same, piece_stops, piece-behind}
use Rattle.drawing.proofs.Laws.Pins.{pins_to_lem, pins_some}

-- the pins of a gate's text
regroup : (a b c d e : List ℕ) → a ++ b ++ (c ++ (d ++ e)) ≡ a ++ (b ++ c ++ d ++ e)
regroup a b c d e = simp append_assoc

pins_are : (k p : ℕ) (ps : List ℕ) → decimal p ++ (each (next_pin k) ps ++ piece 3 k) ≡ pins_rest (p ∷ ps)
unfolding piece piece_forms each
pins_are k p [] = refl
pins_are k p (q ∷ qs) =
    sym (regroup (decimal p) (piece 4 0) (decimal q) (each (next_pin k) qs) (piece 3 0)) ∙ ap (λ (z : List ℕ). decimal p ++ piece 4 0 ++ z) (pins_are k q qs)

-- an output's text, and a gate's
pub output_is : (k o : ℕ) → output_text o ≡ piece 1 k ++ (decimal o ++ piece 3 0)
unfolding piece piece_forms
output_is k o = output_text_lem o

pub gate_is : (k : ℕ) (g : Record) → Worded g → gate_text k g ≡ piece 2 k ++ (piece (4 + g.kind) 0 ++ pins_rest g.pins)
gate_is k g w =
    let word : piece (4 + g.kind) k ≡ piece (4 + g.kind) 0 = word_piece k g w ∙ sym (word_piece 0 g w) in
    go g.pins refl ∙ ap (λ (z : List ℕ). piece 2 k ++ (z ++ pins_rest g.pins)) word
  where
    go : (ps : List ℕ) → g.pins ≡ ps → gate_text k g ≡ piece 2 k ++ (piece (4 + g.kind) k ++ pins_rest g.pins)
    go [] e = tie_text k g w (ap length e) ∙ rw (e, append-nil)
    go (p ∷ ps) e =
        let pins = ap (λ (z : List ℕ). decimal (get_or z 0 0) ++ (each (next_pin k) (drop 1 z) ++ piece 3 k)) e ∙ pins_are k p ps ∙ ap pins_rest (sym e) in
        gate-text k g w (rw e (omega arith)) ∙ ap (λ (z : List ℕ). piece 2 k ++ (piece (4 + g.kind) k ++ z)) pins

-- the texts of up to so many pins are those of pins
pub pins_list : (left : ℕ) (v : List ℕ) → Pins left v
    → (ps : List ℕ) × (1 ≤ length ps) × (length ps ≤ left) × ((p : ℕ) → p among ps → p ≤ last_number) × (v ≡ pins_rest ps)
pins_list zero v none-there = absurd none-there
pins_list (suc left) v (n, few, u, (which, low, high, w, follows, e), is) =
    ⊎_elim
    (λ (which3, ends). (
      n ∷ [],
      lit≤ tt,
      omega arith,
      (λ p. ⊎_elim (λ (same : p ≡ n). rw same few) (λ none-there. absurd none-there)),
      is ∙ ap (λ (z : List ℕ). decimal n ++ z) (e ∙ ap (λ (j : ℕ). piece j 0 ++ w) which3 ∙ ap (λ (z : List ℕ). piece 3 0 ++ z) ends ∙ append-nil (piece 3 0)),
    ))
    (λ (which4, more). behind n few u which w e is which4 (pins_list left w more))
    follows
  where
    behind : (n : ℕ) → n ≤ last_number → (u : List ℕ) (which : ℕ) (w : List ℕ) → u ≡ piece which 0 ++ w → v ≡ decimal n ++ u → which ≡ 4
        → (ps : List ℕ) × (1 ≤ length ps) × (length ps ≤ left) × ((p : ℕ) → p among ps → p ≤ last_number) × (w ≡ pins_rest ps)
        → (ps : List ℕ) × (1 ≤ length ps) × (length ps ≤ suc left) × ((p : ℕ) → p among ps → p ≤ last_number) × (v ≡ pins_rest ps)
    behind n few u which w e is which4 ([], some_pin, few_pins, numbers, so) = absurd (omega arith)
    behind n few u which w e is which4 (q ∷ qs, some_pin, few_pins, numbers, so) = (
      n ∷ q ∷ qs,
      omega arith,
      omega arith,
      (λ p. ⊎_elim (λ (same : p ≡ n). rw same few) (λ later. numbers p later)),
      is ∙ ap (λ (z : List ℕ). decimal n ++ z) (e ∙ ap (λ (j : ℕ). piece j 0 ++ w) which4 ∙ ap (λ (z : List ℕ). piece 4 0 ++ z) so)
          ∙ sym (append_assoc (decimal n) (piece 4 0) (pins_rest (q ∷ qs))),
    )

pub list_pins : (left : ℕ) (ps : List ℕ) → 1 ≤ length ps → length ps ≤ left → ((p : ℕ) → p among ps → p ≤ last_number) → Pins left (pins_rest ps)
list_pins left [] l few numbers = absurd (omega arith)
list_pins zero (p ∷ ps) l few numbers = absurd (omega arith)
list_pins (suc left) (p ∷ []) l few numbers =
    (p, numbers p (inl refl), piece 3 0, (3, lit≤ tt, (pins_to_lem (suc left)).0, [], inl (refl, refl), sym (append-nil (piece 3 0))), refl)
list_pins (suc left) (p ∷ q ∷ qs) l few numbers =
    let two : 1 < suc left = omega arith in
    let five : pins_to (suc left) ≡ 5 = rw (lt-ltb 1 (suc left) two) in (
      p,
      numbers p (inl refl),
      piece 4 0 ++ pins_rest (q ∷ qs),
      (4, lit≤ tt, rw five (lit< tt), pins_rest (q ∷ qs), inr (refl, list_pins left (q ∷ qs) (omega arith) (omega arith) (λ r later. numbers r (inr later))), refl),
      append_assoc (decimal p) (piece 4 0) (pins_rest (q ∷ qs)),
    )

-- so what may follow a word is the pins that it takes
abbrev Taken : ℕ → List ℕ → Type 0
Taken which ps = (which < tie_piece → 1 ≤ length ps) × (tie_piece ≤ which → ps ≡ []) × (length ps ≤ 4) × ((p : ℕ) → p among ps → p ≤ last_number)

pub takes_none : {which : ℕ} → tie_piece ≤ which → Taken which []
takes_none tied = ((λ low. absurd (omega arith)), (λ high. refl), lit≤ tt, λ p there. absurd there)

pub takes_some : {which : ℕ} {ps : List ℕ} → which < tie_piece → 1 ≤ length ps → length ps ≤ 4 → ((p : ℕ) → p among ps → p ≤ last_number) → Taken which ps
takes_some low some_pin few numbers = ((λ l. some_pin), (λ tied. absurd (omega arith)), few, numbers)

word_list : (which : ℕ) (v : List ℕ) → WordThen which v → (ps : List ℕ) × Taken which ps × (v ≡ pins_rest ps)
word_list which v =
    ⊎_elim
    (λ (tied, none). ([], takes_none tied, none))
    (λ (low, pins). let (ps, some_pin, few, numbers, is) = pins_list 4 v pins in (ps, takes_some low some_pin few numbers, is))

list_word : (which : ℕ) (ps : List ℕ) → Taken which ps → WordThen which (pins_rest ps)
list_word which ps (some_pin, none, few, numbers) =
    ⊎_elim
    (λ e. let low = ltb-true which tie_piece e in inr (low, list_pins 4 ps (some_pin low) few numbers))
    (λ e. let tied = ltb-false which tie_piece e in inl (tied, ap pins_rest (none tied)))
    (way (ltb which tie_piece))

-- what may follow the first piece of a statement
abbrev Behind : ℕ → List ℕ → Type 0
Behind which v = ((which ≡ 0) × (v ≡ [])) ⊎ (((which ≡ 1) × Pins 1 v) ⊎ ((which ≡ 2) × GateRest v))

-- the one pin of an output
one_pin : (v : List ℕ) → Pins 1 v → (p : ℕ) × (p ≤ last_number) × (v ≡ decimal p ++ piece 3 0)
one_pin v pins = go (pins_list 1 v pins)
  where
    go : (ps : List ℕ) × (1 ≤ length ps) × (length ps ≤ 1) × ((p : ℕ) → p among ps → p ≤ last_number) × (v ≡ pins_rest ps)
        → (p : ℕ) × (p ≤ last_number) × (v ≡ decimal p ++ piece 3 0)
    go ([], some_pin, few, numbers, is) = absurd (omega arith)
    go (p ∷ [], some_pin, few, numbers, is) = (p, numbers p (inl refl), is)
    go (p ∷ q ∷ qs, some_pin, few, numbers, is) = absurd (omega arith)

-- a gate from its word and its pins
pub worded : (which : ℕ) (ps : List ℕ) → 5 ≤ which → which < piece_count → Taken which ps → Worded (record { kind = which - 4; pins = ps })
worded which ps low high (some_pin, none, few, numbers) = record {
  a_gate = omega arith;
  a_word = omega arith;
  some_pin = λ l. some_pin (omega arith);
  four_pins = few;
  no_pin = λ l. none (omega arith);
  numbers = numbers;
}

-- so the statements that may follow are the pieces and what may follow them
to_statement : (from k : ℕ) (s : List ℕ) → PieceThen from 3 k Behind s → Statements from k s
to_statement from k s (which, low, high, v, follows, e) =
    ⊎_elim
    (λ (w0, ends).
    (input, rw w0 at low, an_input, e ∙ ap (λ (j : ℕ). piece j k ++ v) w0 ∙ ap (λ (z : List ℕ). piece 0 k ++ z) ends ∙ append-nil (piece 0 k) ∙ sym (input_text_lem k)))
    (⊎_elim
    (λ (w1, pins).
    let (o, few, is) = one_pin v pins in
    (output o, rw w1 at low, an_output few, e ∙ ap (λ (j : ℕ). piece j k ++ v) w1 ∙ ap (λ (z : List ℕ). piece 1 k ++ z) is ∙ sym (output_is k o)))
    (λ (w2, (word, five, last, u, pins, is)).
    let (ps, taken, so) = word_list word u pins in
    let g : Record = record { kind = word - 4; pins = ps } in
    let w = worded word ps five last taken in
    let kind : word ≡ 4 + (word - 4) = omega arith in (
      gate g,
      rw w2 at low,
      a_gate w,
      e ∙ ap (λ (j : ℕ). piece j k ++ v) w2
          ∙ ap (λ (z : List ℕ). piece 2 k ++ z) (is ∙ ap (λ (z : List ℕ). piece word 0 ++ z) so ∙ ap (λ (j : ℕ). piece j 0 ++ pins_rest ps) kind) ∙ sym (gate_is k g w),
    )))
    follows

from_statement : (from k : ℕ) (s : List ℕ) → Statements from k s → PieceThen from 3 k Behind s
from_statement from k s (input, low, an_input, e) = (0, low, lit< tt, [], inl (refl, refl), e ∙ input_text_lem k ∙ sym (append-nil (piece 0 k)))
from_statement from k s (output o, low, an_output few, e) =
    let pins = list_pins 1 (o ∷ []) (lit≤ tt) (lit≤ tt) (λ p. ⊎_elim (λ (same : p ≡ o). rw same few) (λ none-there. absurd none-there)) in
    (1, low, lit< tt, decimal o ++ piece 3 0, inr (inl (refl, pins)), e ∙ output_is k o)
from_statement from k s (gate g, low, a_gate w, e) =
    let least = w.a_gate in
    let most = w.a_word in
    let pins = list_word (4 + g.kind) g.pins ((λ l. w.some_pin (omega arith)), (λ l. w.no_pin (omega arith)), w.four_pins, w.numbers) in
    (2, low, lit< tt, piece (4 + g.kind) 0 ++ pins_rest g.pins, inr (inr (refl, (4 + g.kind, omega arith, omega arith, pins_rest g.pins, pins, refl))), e ∙ gate_is k g w)

-- something may follow each word
word_some : (which : ℕ) → (v : List ℕ) × WordThen which v
word_some which =
    ⊎_elim
    (λ e. let (v, is) = pins_some 4 (lit< tt) in (v, inr (ltb-true which tie_piece e, is)))
    (λ e. ([], inl (ltb-false which tie_piece e, refl)))
    (way (ltb which tie_piece))

-- where they stop: before the end of the first piece, and behind it
behind_some : (from which : ℕ) → from ≤ which → which < 3 → (v : List ℕ) × Behind which v
behind_some from zero low high = ([], inl (refl, refl))
behind_some from (suc zero) low high = let (v, is) = pins_some 1 (lit< tt) in (v, inr (inl (refl, is)))
behind_some from (suc (suc zero)) low high =
    let (v, is) = word_some 5 in (piece 5 0 ++ v, inr (inr (refl, (5, lit≤ tt, lit< tt, v, is, refl))))
behind_some from (suc (suc (suc n))) low high = absurd (omega arith)

pub line_stops : {from k : ℕ} {rest : List ℕ} {m : ℕ} → NoPiece from 3 k rest m → Stops (Statements from k) rest m
line_stops {from} {k} nowhere = stops_same (to_statement from k) (from_statement from k) (piece_stops nowhere (behind_some from))

module _ (from k : ℕ) (rest : List ℕ) (n m : ℕ) where
  behind : (which : ℕ) → from ≤ which → which < 3 → n ≡ length (piece which k) → rest ≡ piece which k ++ drop n rest → Stops (Behind which) (drop n rest) m
      → Stops (Statements from k) rest (n + m)
  behind which low high long is stops = rw long (stops_same (to_statement from k) (from_statement from k) (piece-behind k which low high (lit≤ tt) (rw long at is) (rw long at stops)))

  pub output_stops : from ≤ 1 → n ≡ length (piece 1 k) → rest ≡ piece 1 k ++ drop n rest → Stops (Pins 1) (drop n rest) m → Stops (Statements from k) rest (n + m)
  output_stops low long is stops =
      behind 1 low (lit< tt) long is
      (stops_same (λ s so. inr (inl (refl, so)))
      (λ s. ⊎_elim (λ (w, so). absurd (omega arith)) (⊎_elim (λ (w, so). so) (λ (w, so). absurd (omega arith)))) stops)

  pub gate_stops : from ≤ 2 → n ≡ length (piece 2 k) → rest ≡ piece 2 k ++ drop n rest → Stops GateRest (drop n rest) m → Stops (Statements from k) rest (n + m)
  gate_stops low long is stops =
      behind 2 low (lit< tt) long is
      (stops_same (λ s so. inr (inr (refl, so)))
      (λ s. ⊎_elim (λ (w, so). absurd (omega arith)) (⊎_elim (λ (w, so). absurd (omega arith)) (λ (w, so). so))) stops)

-- a gate's, from its word on
pub word_stops : {rest : List ℕ} {m : ℕ} → NoPiece 5 piece_count 0 rest m → Stops GateRest rest m
word_stops nowhere = piece_stops nowhere (λ which low high. word_some which)

pub word_behind : {rest : List ℕ} {m : ℕ} (which n : ℕ) → which < tie_piece → Chosen 5 piece_count 0 rest (Ok (record { which = which; length = n })) → Stops (Pins 4) (drop n rest) m
    → Stops GateRest rest (n + m)
word_behind {rest} {m} which n no_tie (low, high, long, inside, is) stops =
    let pins : Stops (WordThen which) (drop n rest) m =
    stops_same (λ s so. inr (no_tie, so)) (λ s. ⊎_elim (λ (tied, none). absurd (omega arith)) (λ (l, so). so)) stops in
    rw long (piece-behind 0 {K = WordThen} which low high (lit≤ tt) (rw long at is) (rw long at pins))
