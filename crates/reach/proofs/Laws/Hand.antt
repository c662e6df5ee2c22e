-- Numbers handed to lines one after the other: a line has the bits that it had, and those that it is handed.
use mathlib.Core.Path.{◌≡◌, refl, ◌∙◌}
use mathlib.Core.Logic.{◌⊎◌, inl, inr, ⊎_elim, ◌↔◌}
use mathlib.Core.List.{List}
use mathlib.Core.Bool.{true, false}
use Prim.Native.Nat.{ℕ, ◌+◌, ◌<◌}
use native.Mathlib.Nat.{not-suc-le-zero}
use native.Mathlib.Omega.{arith}
use lib.Bits.{bit_or}
use lib.Dec.{eqb}
use lib.ListN.{length, get_or, set, length-set}
use lib.Seq.{get_or-set_same, get_or-set_other}
use borrow.Author.Tests.{eqb-true, eqb-false}
use Rattle.board.specs.Gate.{bit_of}
use Rattle.board.proofs.Lists.{way}
use Rattle.reach.specs.Inner.{HasBit, Handed}
use Rattle.reach.proofs.Laws.Bits.{or_has}

-- nothing handed yet
pub none_handed : (to n : ℕ → ℕ) (old : List ℕ) → Handed to n 0 old old
none_handed to n old = record { long = refl; has = λ l j. (inl, ⊎_elim (λ h. h) (λ w. absurd (not-suc-le-zero w.1))) }

-- one line more
module _ (now : List ℕ) (line v : ℕ) (inside : line < length now) where
  set_has : (l j : ℕ) → HasBit (set now line (bit_or (get_or now line 0) v)) l j ↔ (HasBit now l j ⊎ ((l ≡ line) × (bit_of v j ≡ 1)))
  set_has l j =
      ⊎_elim
      (λ (t : eqb l line ≡ true).
      let same = eqb-true l line t in
      let (one, both) = or_has (get_or now line 0) v j in
      rw (same, get_or-set_same now line (bit_or (get_or now line 0) v) 0 inside)
      (λ h. ⊎_elim inl (λ e. inr (refl, e)) (one h), λ h. both (⊎_elim inl (λ w. inr w.1) h)))
      (λ (t : eqb l line ≡ false).
      let other = eqb-false l line t in
      rw (get_or-set_other now line l (bit_or (get_or now line 0) v) 0 other) (inl, ⊎_elim (λ h. h) (λ w. absurd (other w.0))))
      (way (eqb l line))

  pub handed_more : {to n : ℕ → ℕ} {m : ℕ} {old : List ℕ} → Handed to n m old now → line ≡ to m → v ≡ n m
      → Handed to n (m + 1) old (set now line (bit_or (get_or now line 0) v))
  handed_more {to} {n} {m} {old} so is gives = record { long = length-set now line _ ∙ so.long; has = λ l j. (from l j, back l j) }
    where
      from : (l j : ℕ) → HasBit (set now line (bit_or (get_or now line 0) v)) l j → HasBit old l j ⊎ ((k : ℕ) × (k < m + 1) × (l ≡ to k) × (bit_of (n k) j ≡ 1))
      from l j h =
          ⊎_elim
          (λ b. ⊎_elim inl (λ w. inr (w.0, omega (arith, w.1), w.2, w.3)) ((so.has l j).0 b))
          (λ w. inr (m, omega arith, w.0 ∙ is, rw gives at w.1))
          ((set_has l j).0 h)

      back : (l j : ℕ) → HasBit old l j ⊎ ((k : ℕ) × (k < m + 1) × (l ≡ to k) × (bit_of (n k) j ≡ 1)) → HasBit (set now line (bit_or (get_or now line 0) v)) l j
      back l j (inl h) = (set_has l j).1 (inl ((so.has l j).1 (inl h)))
      back l j (inr (k, few, at, e)) =
          (set_has l j).1
          (⊎_elim
          (λ (t : eqb k m ≡ true). let same = eqb-true k m t in inr (at ∙ rw (same, is), rw (gives, ← same) e))
          (λ (t : eqb k m ≡ false). inl ((so.has l j).1 (inr (k, omega (arith, eqb-false k m t), at, e))))
          (way (eqb k m)))
