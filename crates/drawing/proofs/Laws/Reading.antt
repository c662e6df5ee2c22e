-- Reading byte by byte: how far a word goes along with a text, and a number digit by digit.
use mathlib.Core.Path.{◌≡◌, refl, sym, ap, ◌∙◌}
use mathlib.Core.Logic.{⊎_elim, ◌⊎◌, inl, inr}
use mathlib.Core.Bool.{true, false}
use mathlib.Core.List.{List, [], ◌∷◌, ◌++◌}
use Prim.Native.Nat.{ℕ, suc, ◌+◌, ◌*◌, ◌-◌, ◌≤◌, ◌<◌}
use native.Mathlib.Nat.{add-zero}
use native.Mathlib.Numerals.{add-one}
use native.Mathlib.Omega.{arith}
use lib.Dec.{ltb, eqb}
use lib.ListN.{length, get_or, take, drop, take-append-drop, drop_of_length-le}
use lib.Seq.{take-suc, length-take-le, get_or-drop}
use borrow.Author.Tests.{ltb-true, ltb-false, eqb-true, eqb-false}
use Rattle.std.specs.List.{prefix_len, zip}
use Rattle.board.proofs.Lists.{way}
use Rattle.text.specs.Text.{decimal}
use Rattle.drawing.specs.Form.{last_number}
use Rattle.drawing.specs.Inner.{Common, Digit, Leads}
use Rattle.drawing.proofs.Laws.Decimal.{decimal-one, decimal_more}

-- a word and a text go along as long as each pair of bytes is the same
pub common_is : (rest word : List ℕ) → Common rest word (prefix_len (λ (p : ℕ × ℕ). eqb p.0 p.1) (zip rest word))
common_is [] word = record { inside = omega arith; part = omega arith; same = refl; most = λ l e. let n = ap length e in omega (arith, length-take-le 1 word l) }
common_is (r ∷ rest) [] = record { inside = omega arith; part = omega arith; same = refl; most = λ l e. absurd (omega arith) }
common_is (r ∷ rest) (w ∷ word) =
    ⊎_elim
    (λ (e : eqb r w ≡ true). rw e (more (eqb-true r w e) (common_is rest word)))
    (λ (e : eqb r w ≡ false). rw e (none_more (eqb-false r w e)))
    (way (eqb r w))
  where
    more : {m : ℕ} → r ≡ w → Common rest word m → Common (r ∷ rest) (w ∷ word) (1 + m)
    more {m} e common =
        let one : 1 + m ≡ suc m = omega arith in
        rw one
        (record {
          inside = let inside = common.inside in omega arith;
          part = let part = common.part in omega arith;
          same = let same = common.same in cc;
          most = λ l share. common.most (omega arith) (cc);
        })

    none_more : (r ≡ w → ⊥) → Common (r ∷ rest) (w ∷ word) 0
    none_more other = record { inside = omega arith; part = omega arith; same = refl; most = λ l share. other (cc) }

-- the first i bytes of a text are no digit yet, or a number's
pub record Sofar (rest : List ℕ) (v i : ℕ) : Type 0 where
  pub none_yet : i ≡ 0 → v ≡ 0
  pub few : v ≤ last_number
  pub is : 0 < i → take i rest ≡ decimal v

module _ (rest : List ℕ) (v i : ℕ) (before : Sofar rest v i) where
  pub number_more : (d : ℕ) → i < length rest → d < 10 → get_or rest i 0 ≡ 48 + d → ((0 < i) → v ≡ 0 → ⊥) → 10 * v + d ≤ last_number → Sofar rest (10 * v + d) (i + 1)
  number_more d room small here goes few =
      record {
        none_yet = λ e. absurd (omega arith);
        few = few;
        is = λ over.
            ⊎_elim
            (λ first.
            let later = ltb-true 0 i first in
            rw (add-one, take-suc rest i 0 room, before.is later, here) (sym (decimal_more v d (not_nought v (goes later)) small few)))
            (λ first.
            let i0 : i ≡ 0 = let l = ltb-false 0 i first in omega arith in
            let v0 : v ≡ 0 = before.none_yet i0 in
            let d0 : 10 * v + d ≡ d = omega arith in
            rw (add-one, take-suc rest i 0 room, here, i0, d0) (sym (decimal-one d small)))
            (way (ltb 0 i));
      }
    where
      not_nought : (v : ℕ) → (v ≡ 0 → ⊥) → 0 < v
      not_nought v no_zero = omega arith

  pub counted : i ≤ length rest → 0 < i → ((c : ℕ) (x : List ℕ) → drop i rest ≡ c ∷ x → Digit c → ((0 < i) × (v ≡ 0)) ⊎ (last_number < 10 * v + (c - 48)))
      → Leads rest (record { value = v; length = i })
  counted room over stops =
      record {
        few = before.few;
        long = sym (length-take-le i rest room) ∙ ap length (before.is over);
        inside = room;
        is = sym (take-append-drop i rest) ∙ ap (λ (z : List ℕ). z ++ drop i rest) (before.is over);
        ends = λ c x e digit. ⊎_elim (λ (later, nought). inl nought) (λ over. inr over) (stops c x e digit);
      }

-- the byte that the rest of a text begins with
pub head_at : (rest : List ℕ) (i c : ℕ) (x : List ℕ) → drop i rest ≡ c ∷ x → get_or rest i 0 ≡ c
head_at rest i c x e = sym (ap (λ (n : ℕ). get_or rest n 0) (add-zero i)) ∙ sym (get_or-drop i rest 0 0) ∙ ap (λ (z : List ℕ). get_or z 0 0) e

-- and none at its end
pub at_end : (rest : List ℕ) (i c : ℕ) (x : List ℕ) → length rest ≤ i → drop i rest ≡ c ∷ x → ⊥
at_end rest i c x over e = let none_left : length (c ∷ x) ≡ 0 = sym (ap length e) ∙ ap length (drop_of_length-le rest over) in omega arith
