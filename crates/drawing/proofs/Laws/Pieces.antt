-- The pieces of the form: what the code's table has of them.
use mathlib.Core.Path.{◌≡◌, refl, sym, ap, ◌∙◌}
use mathlib.Core.Logic.{⊎_elim}
use mathlib.Core.Bool.{Bool, true, false, ◌&&◌}
use mathlib.Core.List.{List, [], ◌∷◌, map}
use denote.Ref.{Bor}
use Prim.Native.Nat.{ℕ, zero, suc, ◌+◌, ◌-◌, ◌≤◌, ◌<◌, min}
use native.Mathlib.Nat.{not-suc-le-zero}
use native.Mathlib.Omega.{arith}
use lib.Dec.{T, eqb, ltb, leb, leb→le, lit≤}
use lib.Seq.{get_or-take, get_or-drop, take-take}
use lib.ListN.{length-map, length-take, length-drop, take, drop, length, get_or}
use mir.Facts.{and_yes}
use borrow.Author.Tests.{eqb-true, eqb-false, ltb-true, ltb-false}
use Rattle.board.proofs.Lists.{way}
use Rattle.std.proofs.lemmas.List.{get_or-map, drop-take}
use Rattle.board.specs.Limits.{last_kind}
use Rattle.text.specs.Text.{Written, spelled}
use Rattle.drawing.specs.Inner.{piece_forms, piece_count, piece, Run, pins_to}

-- a test that passes at every place below n
abbrev pub every_below : (ℕ → Bool) → ℕ → Bool
every_below t zero = true
every_below t (suc n) = t n && every_below t n

pub at_each : (t : ℕ → Bool) (n : ℕ) → T (every_below t n) → (i : ℕ) → i < n → T (t i)
at_each t zero p i h = absurd (not-suc-le-zero h)
at_each t (suc n) p i h =
    let (here, below) = and_yes (t n) (every_below t n) p in
    ⊎_elim
    (λ e. rw (eqb-true i n e) here)
    (λ e. let other = eqb-false i n e in at_each t n below i (omega arith))
    (way (eqb i n))

-- what the references of a table lead to
pub leads_to : (forms : List (Bor (List ℕ))) (i : ℕ) (d : Bor (List ℕ)) → i < length forms → (get_or forms i d).now ≡ get_or (map (λ (b : Bor (List ℕ)). b.now) forms) i []
leads_to forms i d inside = sym (get_or-map (λ (b : Bor (List ℕ)). b.now) forms i d [] inside)

-- the form of a piece is short
pub form_short : (which : ℕ) → which < piece_count → length (get_or piece_forms which []) ≤ 10
unfolding piece_forms
form_short which h = leb→le _ _ (at_each (λ w. leb (length (get_or piece_forms w [])) 10) piece_count tt which h)

-- a form with its number is a piece
pub as_piece : (which k : ℕ) (form : List ℕ) → form ≡ get_or piece_forms which [] → spelled form (k ∷ []) ≡ piece which k
unfolding piece
as_piece which k form e = rw e refl

-- the forms of a run, one by one
module _ (from to : ℕ) (forms : List (Bor (List ℕ))) (run : Run from to forms) where
  pub run_long : length forms ≡ to - from
  unfolding piece_forms
  run_long =
      let long = ap length run.2 in
      omega (arith, simp (length-map, length-take, length-drop) at long)

  pub run_form : (i : ℕ) (d : Bor (List ℕ)) → i < length forms → (get_or forms i d).now ≡ get_or piece_forms (from + i) []
  run_form i d inside =
      let long = run_long in
      leads_to forms i d inside ∙ ap (λ (z : List (List ℕ)). get_or z i []) run.2 ∙ get_or-take (to - from) (drop from piece_forms) i [] (omega arith)
      ∙ get_or-drop from piece_forms i []

  run_short : (i : ℕ) (d : Bor (List ℕ)) → i < length forms → length (get_or forms i d).now ≤ 10
  run_short i d inside = let long = run_long in rw (run_form i d inside) (form_short (from + i) (omega (arith, run.1)))

  pub run_room : (i : ℕ) (d : Bor (List ℕ)) → i < length forms → length (get_or forms i d).now + 20 ≤ 32
  run_room i d inside = omega (arith, run_short i d inside)

  pub run_written : (i : ℕ) (d : Bor (List ℕ)) (k n : ℕ) (out : List ℕ) → i < length forms → Written n out (spelled (get_or forms i d).now (k ∷ [])) → Written n out (piece (from + i) k)
  run_written i d k n out inside written = rw (as_piece (from + i) k (get_or forms i d).now (run_form i d inside)) at written

-- a part of the first three pieces, and of the two that may follow a pin
pub part_statements : (from : ℕ) → from < 3 → take (3 - from) (drop from (take 3 piece_forms)) ≡ take (3 - from) (drop from piece_forms)
part_statements from l =
    let three : from + (3 - from) ≡ 3 = omega arith in
    let front = rw three at (drop-take from (3 - from) piece_forms) in
    rw front (take-take (3 - from) (3 - from) (drop from piece_forms) (omega arith))

pub part_pins : (left : ℕ) → 0 < left → take (min left 2) (take 2 (drop 3 piece_forms)) ≡ take (pins_to left - 3) (drop 3 piece_forms)
part_pins left l =
    ⊎_elim
    (λ (e : ltb 1 left ≡ true).
    let more = ltb-true 1 left e in
    let two : min left 2 ≡ 2 = omega arith in
    rw (two, e) (take-take 2 2 (drop 3 piece_forms) (lit≤ tt)))
    (λ (e : ltb 1 left ≡ false).
    let fewer = ltb-false 1 left e in
    let one : min left 2 ≡ 1 = omega arith in
    rw (one, e) (take-take 1 2 (drop 3 piece_forms) (lit≤ tt)))
    (way (ltb 1 left))

-- the form of a word, and that it is short
pub word_form : (kind : ℕ) → 1 ≤ kind → kind ≤ last_kind
    → (get_or (take 10 (drop 5 piece_forms)) (kind - 1) [] ≡ get_or piece_forms (4 + kind) []) × (length (get_or (take 10 (drop 5 piece_forms)) (kind - 1) []) ≤ 12)
word_form kind low high =
    let place : 5 + (kind - 1) ≡ 4 + kind = omega arith in
    let is = get_or-take 10 (drop 5 piece_forms) (kind - 1) [] (omega arith) ∙ get_or-drop 5 piece_forms (kind - 1) [] in
    let same = rw place at is in
    (same, rw same (omega (arith, form_short (4 + kind) (omega arith))))
