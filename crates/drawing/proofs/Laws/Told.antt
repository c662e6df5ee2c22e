-- A statement is told by its text.
use mathlib.Core.Path.{◌≡◌, refl, sym, ap, ◌∙◌}
use mathlib.Core.Logic.{⊎_elim, inl, inr}
use mathlib.Core.Bool.{true}
use mathlib.Core.List.{List, [], ◌∷◌, ◌++◌, append_assoc, append_cancel_left}
use Prim.Native.Nat.{ℕ, ◌+◌, ◌≤◌, ◌<◌}
use native.Mathlib.Nat.{le_refl}
use native.Mathlib.Omega.{arith}
use lib.Dec.{eqb}
use lib.ListN.{length, take, length-append}
use borrow.Author.Tests.{eqb-true, eqb-false}
use Rattle.board.specs.Lists.{◌among◌}
use Rattle.board.specs.Board.{Record}
use Rattle.board.proofs.Lists.{way}
use Rattle.text.specs.Text.{decimal}
use Rattle.drawing.specs.Form.{last_number, Worded, output_text, gate_text}
use Rattle.drawing.specs.Inner.{piece_forms, piece, Digit, pins_rest, Statement, input, output, gate, section, Sound, an_output, a_gate, statement_text}
use Rattle.drawing.proofs.Laws.Decimal.{Digits, no_more, one_more, decimal_digits, decimal_told}
use Rattle.drawing.proofs.Laws.Stops.{pieces_differ}
use Rattle.drawing.proofs.Laws.Statements.{output_is, gate_is}
use Rattle.drawing.proofs.Laws.Feed.{statement_split}

-- digits, and then a byte that is no digit
digits_split : {a b : List ℕ} (c d : ℕ) (x y : List ℕ) → Digits a → Digits b → (Digit c → ⊥) → (Digit d → ⊥) → a ++ c ∷ x ≡ b ++ d ∷ y → (a ≡ b) × (c ∷ x ≡ d ∷ y)
digits_split c d x y no_more no_more other another e = (refl, e)
digits_split c d x y no_more (one_more f b digit more) other another e = let here : c ≡ f = cc in absurd (other (rw here digit))
digits_split c d x y (one_more f a digit more) no_more other another e = let here : f ≡ d = cc in absurd (another (rw here at digit))
digits_split c d x y (one_more f a digit more) (one_more g b second rest) other another e =
    let here : f ≡ g = cc in
    let (same, after) = digits_split c d x y more rest other another (cc) in
    (cc, after)

number_split : (m n c d : ℕ) (x y : List ℕ) → m ≤ last_number → n ≤ last_number → (Digit c → ⊥) → (Digit d → ⊥) → decimal m ++ c ∷ x ≡ decimal n ++ d ∷ y
    → (m ≡ n) × (c ∷ x ≡ d ∷ y)
number_split m n c d x y few small other another e =
    let (same, after) = digits_split c d x y (decimal_digits m) (decimal_digits n) other another e in
    (decimal_told m n few small same, after)

-- pins are told by their text
abbrev Few : List ℕ → Type 0
Few ps = (p : ℕ) → p among ps → p ≤ last_number

pins_byte : (p : ℕ) (ps : List ℕ) → 0 < length (pins_rest (p ∷ ps))
unfolding piece piece_forms
pins_byte p [] = rw length-append (omega arith)
pins_byte p (q ∷ qs) = rw (length-append, length-append) (omega arith)

pins_told : (ps qs : List ℕ) → Few ps → Few qs → pins_rest ps ≡ pins_rest qs → ps ≡ qs
unfolding piece piece_forms
pins_told [] [] few small e = refl
pins_told [] (q ∷ qs) few small e = absurd (omega (arith, pins_byte q qs, ap length e))
pins_told (p ∷ ps) [] few small e = absurd (omega (arith, pins_byte p ps, ap length e))
pins_told (p ∷ []) (q ∷ []) few small e =
    let (same, after) = number_split p q 41 41 _ _ (few p (inl refl)) (small q (inl refl)) (λ digit. omega arith) (λ digit. omega arith) e in
    cc
pins_told (p ∷ []) (q ∷ r ∷ rs) few small e =
    let (same, after) =
    number_split p q 41 44 _ _ (few p (inl refl)) (small q (inl refl)) (λ digit. omega arith) (λ digit. omega arith)
    (e ∙ append_assoc (decimal q) (piece 4 0) (pins_rest (r ∷ rs))) in
    let differ : ◌≡◌ {A = ℕ} 41 44 = cc in
    absurd (omega arith)
pins_told (p ∷ t ∷ ts) (q ∷ []) few small e =
    let (same, after) =
    number_split p q 44 41 _ _ (few p (inl refl)) (small q (inl refl)) (λ digit. omega arith) (λ digit. omega arith)
    (sym (append_assoc (decimal p) (piece 4 0) (pins_rest (t ∷ ts))) ∙ e) in
    let differ : ◌≡◌ {A = ℕ} 44 41 = cc in
    absurd (omega arith)
pins_told (p ∷ t ∷ ts) (q ∷ r ∷ rs) few small e =
    let (same, after) =
    number_split p q 44 44 _ _ (few p (inl refl)) (small q (inl refl)) (λ digit. omega arith) (λ digit. omega arith)
    (sym (append_assoc (decimal p) (piece 4 0) (pins_rest (t ∷ ts))) ∙ e ∙ append_assoc (decimal q) (piece 4 0) (pins_rest (r ∷ rs))) in
    let more : t ∷ ts ≡ r ∷ rs =
    pins_told (t ∷ ts) (r ∷ rs) (λ n m. few n (inr m)) (λ n m. small n (inr m))
    (append_cancel_left (piece 4 0) (pins_rest (t ∷ ts)) (pins_rest (r ∷ rs)) after) in
    cc

-- so is an output, and a gate by its word and its pins
output_told : (k o p : ℕ) → o ≤ last_number → p ≤ last_number → output_text o ≡ output_text p → o ≡ p
output_told k o p few small e =
    let pins = append_cancel_left (piece 1 k) (pins_rest (o ∷ [])) (pins_rest (p ∷ [])) (sym (output_is k o) ∙ e ∙ output_is k p) in
    let same = pins_told (o ∷ []) (p ∷ []) (one few) (one small) pins in
    cc
  where
    one : {n : ℕ} → n ≤ last_number → Few (n ∷ [])
    one small m = ⊎_elim (λ (e : m ≡ _). rw e small) (λ none-there. absurd none-there)

made : ℕ → List ℕ → Record
made kind pins = record { kind = kind; pins = pins }

gate_told : (k : ℕ) (g h : Record) → Worded g → Worded h → gate_text k g ≡ gate_text k h → g ≡ h
unfolding made
gate_told k g h w v e =
    let words =
    append_cancel_left (piece 2 k) (piece (4 + g.kind) 0 ++ pins_rest g.pins) (piece (4 + h.kind) 0 ++ pins_rest h.pins)
    (sym (gate_is k g w) ∙ e ∙ gate_is k h v) in
    ⊎_elim
    (λ (q : eqb g.kind h.kind ≡ true).
    let kind = eqb-true g.kind h.kind q in
    let pins =
    append_cancel_left (piece (4 + h.kind) 0) (pins_rest g.pins) (pins_rest h.pins)
    (ap (λ (j : ℕ). piece (4 + j) 0 ++ pins_rest g.pins) (sym kind) ∙ words) in
    ap (λ (j : ℕ). made j g.pins) kind ∙ ap (made h.kind) (pins_told g.pins h.pins w.numbers v.numbers pins))
    (λ q.
    let other = eqb-false g.kind h.kind q in
    let n = length (piece (4 + g.kind) 0) in
    absurd
    (pieces_differ (4 + g.kind) (4 + h.kind) (omega (arith, w.a_word)) (omega (arith, v.a_word)) (λ same. other (omega arith)) 0 n _ _ (le_refl n) (ap (take n) words)))
    (way (eqb g.kind h.kind))

-- and any statement
pub statement_told : (k : ℕ) (st other : Statement) → Sound st → Sound other → statement_text k st ≡ statement_text k other → st ≡ other
statement_told k st other sound also e = go st other sound also e (statement_split k st other [] [] sound also (ap (λ (z : List ℕ). z ++ []) e)).2
  where
    go : (st other : Statement) → Sound st → Sound other → statement_text k st ≡ statement_text k other → section st ≡ section other → st ≡ other
    go input input sound also e same = refl
    go (output o) (output p) (an_output few) (an_output small) e same = ap output (output_told k o p few small e)
    go (gate g) (gate h) (a_gate w) (a_gate v) e same = ap gate (gate_told k g h w v e)
    go input (output p) sound also e same = absurd (omega arith)
    go input (gate h) sound also e same = absurd (omega arith)
    go (output o) input sound also e same = absurd (omega arith)
    go (output o) (gate h) sound also e same = absurd (omega arith)
    go (gate g) input sound also e same = absurd (omega arith)
    go (gate g) (output p) sound also e same = absurd (omega arith)
