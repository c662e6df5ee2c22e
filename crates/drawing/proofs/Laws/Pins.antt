-- Pins of a statement: where the texts of up to so many pins stop going along with a text.
use mathlib.Core.Path.{◌≡◌, refl, sym, ap, ◌∙◌}
use mathlib.Core.Logic.{⊎_elim, ◌⊎◌, inl, inr}
use mathlib.Core.Bool.{true, false}
use mathlib.Core.List.{List, [], ◌∷◌, ◌++◌, append_assoc}
use Prim.Native.Nat.{ℕ, zero, suc, ◌+◌, ◌-◌, ◌≤◌, ◌<◌}
use native.Mathlib.Nat.{add_assoc}
use native.Mathlib.Omega.{arith}
use lib.Dec.{ltb, eqb, lit≤}
use lib.ListN.{length, take, drop, replicate, length-drop}
use lib.Seq.{take-take, drop-drop}
use borrow.Author.Tests.{ltb-true, eqb-true, eqb-false}
use Rattle.std.specs.Prelude.{None, Ok}
use Rattle.board.proofs.Lists.{way}
use Rattle.text.specs.Text.{decimal}
use Rattle.drawing.specs.Form.{last_number}
use Rattle.drawing.specs.Inner.{piece_forms, piece, Stops, NoPiece, Digit, Leads, Counted, Chosen, PieceThen, pins_to, Pins, pins_rest, HasPins, GoesOn}
use Rattle.drawing.specs.declared.number.Number.{Number}
use Rattle.drawing.proofs.Laws.Stops.{stops_same, piece_stops, piece-behind, number_stops, number_behind}

-- what may follow a pin
abbrev Behind : ℕ → ℕ → List ℕ → Type 0
Behind left which v = ((which ≡ 3) × (v ≡ [])) ⊎ ((which ≡ 4) × Pins left v)

-- which pieces they are
pub pins_to_lem : (left : ℕ) → (4 ≤ pins_to left) × (pins_to left ≤ 5) × (4 < pins_to left → 1 < left)
pins_to_lem left =
    ⊎_elim
    (λ (e : ltb 1 left ≡ true). rw e (lit≤ tt, lit≤ tt, λ l. ltb-true 1 left e))
    (λ (e : ltb 1 left ≡ false). rw e (lit≤ tt, lit≤ tt, λ l. absurd (omega arith)))
    (way (ltb 1 left))

-- there are texts of pins
pub pins_some : (left : ℕ) → 0 < left → (v : List ℕ) × Pins left v
pins_some zero l = absurd (omega arith)
pins_some (suc left) l =
    (decimal 0 ++ (piece 3 0 ++ []), (0, lit≤ tt, piece 3 0 ++ [], (3, lit≤ tt, (pins_to_lem (suc left)).0, [], inl (refl, refl), refl), refl))

-- and each of the pieces may be followed
follows : (left which : ℕ) → 3 ≤ which → which < pins_to (suc left) → (v : List ℕ) × Behind left which v
follows left which a b =
    ⊎_elim
    (λ (e : eqb which 3 ≡ true). ([], inl (eqb-true which 3 e, refl)))
    (λ (e : eqb which 3 ≡ false).
    let other = eqb-false which 3 e in
    let (low, high, two) = pins_to_lem (suc left) in
    let which4 : which ≡ 4 = omega arith in
    let more : 1 < suc left = two (omega arith) in
    let (v, is) = pins_some left (omega arith) in
    (v, inr (which4, is)))
    (way (eqb which 3))

-- a piece begins with no digit
begins : (left n : ℕ) (u : List ℕ) → PieceThen 3 (pins_to (suc left)) 0 (Behind left) u → (c : ℕ) × (x : List ℕ) × (u ≡ c ∷ x) × (Digit c → ⊥)
unfolding piece piece_forms
begins left n u (which, a, b, v, is, e) =
    ⊎_elim
    (λ (w, none). (41, 10 ∷ v, e ∙ ap (λ (j : ℕ). piece j 0 ++ v) w, λ digit. let low = digit.low in absurd (omega arith)))
    (λ (w, more). (44, 32 ∷ 110 ∷ v, e ∙ ap (λ (j : ℕ). piece j 0 ++ v) w, λ digit. let low = digit.low in absurd (omega arith)))
    is

-- a text that has no pin
pub pin_none : (rest : List ℕ) (left : ℕ) → 0 < left → Counted rest None → Stops (Pins left) rest 0
pin_none rest zero l none-there = absurd (omega arith)
pin_none rest (suc left) l none-there =
    number_stops {K = λ p. PieceThen 3 (pins_to (suc left)) 0 (Behind left)} none-there
    (piece 3 0 ++ [], (3, lit≤ tt, (pins_to_lem (suc left)).0, [], inl (refl, refl), refl))

-- one behind whose number it goes on with neither piece
pub pin_stops : (rest : List ℕ) (left : ℕ) (n : Number) (m : ℕ) → 0 < left → Leads rest n → NoPiece 3 (pins_to left) 0 (drop n.length rest) m
    → Stops (Pins left) rest (n.length + m)
pin_stops rest zero n m l leads nowhere = absurd (omega arith)
pin_stops rest (suc left) n m l leads nowhere =
    rw leads.long
    (number_behind {K = λ p. PieceThen 3 (pins_to (suc left)) 0 (Behind left)} n.value leads.few leads.is leads.ends (begins left)
    (piece_stops nowhere (follows left)))

-- one that goes on with another pin
pub pin_on : (rest : List ℕ) (left : ℕ) (n : Number) (length_is m : ℕ) → 1 < left → Leads rest n → Chosen 3 (pins_to left) 0 (drop n.length rest) (Ok (record { which = 4; length = length_is }))
    → Stops (Pins (left - 1)) (drop (n.length + length_is) rest) m → Stops (Pins left) rest (n.length + length_is + m)
pin_on rest zero n l m two leads chosen stops = absurd (omega arith)
pin_on rest (suc left) n l m two leads (low, high, long, inside, is) stops =
    let fewer : suc left - 1 ≡ left = omega arith in
    let (least, most, more) = pins_to_lem (suc left) in
    let inner : Stops (Behind left 4) (drop l (drop n.length rest)) m =
    stops_same (λ s so. inr (refl, so)) (λ s so. ⊎_elim (λ (w, none). absurd (omega arith)) (λ (w, so). so) so) (rw (sym fewer, drop-drop) stops) in
    rw (leads.long, long, add_assoc)
    (number_behind {K = λ p. PieceThen 3 (pins_to (suc left)) 0 (Behind left)} n.value leads.few leads.is leads.ends (begins left)
    (piece-behind 0 4 low high (omega arith) is inner))

-- the number and the piece that a text begins with, together
pub pin_is : (rest : List ℕ) (n : Number) (to which l : ℕ) → Leads rest n → Chosen 3 to 0 (drop n.length rest) (Ok (record { which = which; length = l }))
    → (n.length + l ≤ length rest) × (rest ≡ decimal n.value ++ piece which 0 ++ drop (n.length + l) rest)
pin_is rest n to which l leads (low, high, long, inside, is) =
    let room = leads.inside in
    let size = length-drop n.length rest in (
      omega arith,
      leads.is ∙ ap (λ (z : List ℕ). decimal n.value ++ z) (is ∙ ap (λ (z : List ℕ). piece which 0 ++ z) (drop-drop l n.length rest))
          ∙ sym (append_assoc (decimal n.value) (piece which 0) (drop (n.length + l) rest)),
    )

-- one pin, and one before others
pub pins_one : (rest : List ℕ) (left p n : ℕ) (pins : List ℕ) → 0 < left → p ≤ last_number → n ≤ length rest → rest ≡ decimal p ++ piece 3 0 ++ drop n rest
    → pins ≡ p ∷ 0 ∷ 0 ∷ 0 ∷ [] → HasPins rest left (p ∷ []) pins 1 n
pins_one rest left p n pins l few inside is holds =
    record {
      some_pin = lit≤ tt;
      few = omega arith;
      numbers = λ q. ⊎_elim (λ e. rw e few) (λ none. absurd none);
      counts = refl;
      holds = holds;
      inside = inside;
      is = is;
    }

pub pins_more : (rest : List ℕ) (left p n : ℕ) (qs pins new : List ℕ) (count more : ℕ) → GoesOn rest left p n → HasPins (drop n rest) (left - 1) qs pins count more
    → new ≡ p ∷ take 3 pins → HasPins rest left (p ∷ qs) new (count + 1) (n + more)
pins_more rest left p n [] pins new count more goes has holds = let some_pin = has.some_pin in absurd (omega arith)
pins_more rest left p n (q ∷ qs) pins new count more goes has holds =
    let few = has.few in
    let two = goes.two in
    let counts = has.counts in
    let room = goes.inside in
    let inside = has.inside in
    let size = length-drop n rest in
    record {
      some_pin = omega arith;
      few = omega arith;
      numbers = λ r. ⊎_elim (λ e. rw e goes.few) (λ later. has.numbers r later);
      counts = omega arith;
      holds = holds ∙ ap (λ (z : List ℕ). p ∷ take 3 z) has.holds ∙ ap (λ (z : List ℕ). p ∷ z) (take-take 3 4 ((q ∷ qs) ++ replicate 4 0) (lit≤ tt));
      inside = omega arith;
      is = goes.is ∙ ap (λ (z : List ℕ). decimal p ++ piece 4 0 ++ z) (has.is ∙ ap (λ (z : List ℕ). pins_rest (q ∷ qs) ++ z) (drop-drop more n rest))
          ∙ sym (append_assoc (decimal p ++ piece 4 0) (pins_rest (q ∷ qs)) (drop (n + more) rest));
    }
