-- The table of the gate rule is right at each of its entries: one test over the whole table, which is computed, and one lemma that takes
-- it to an entry.
use mathlib.Core.Path.{◌≡◌, ◌∙◌}
use mathlib.Core.Logic.{⊎_elim}
use mathlib.Core.Bool.{Bool, true, ◌&&◌}
use mathlib.Core.List.{List, [], ◌∷◌}
use Prim.Native.Nat.{ℕ, zero, suc, ◌+◌, ◌/◌, ◌%◌, ◌<◌}
use native.Mathlib.Nat.{add-zero, zero-add, add-suc, suc-add, le_of_suc-le-suc, not-suc-le-zero}
use native.Mathlib.Omega.{arith}
use lib.Dec.{T, eqb, ltb, eqb→eq, ltb→lt}
use mir.Facts.{and_yes}
use lib.ListN.{length, get_or, get_or-eq_default}
use borrow.Author.Tests.{ltb-true, ltb-false}
use Rattle.board.specs.Gate.{kinds}
use Rattle.board.specs.Five.{every_filling, gate5}
use Rattle.board.proofs.Lists.{way}
use Rattle.five.specs.Table.{kind_of, slot, Ruled}

-- the test passes at each entry of the list and its place, counted from i
abbrev pub every : (ℕ → ℕ → Bool) → ℕ → List ℕ → Bool
every f i [] = true
every f i (x ∷ xs) = f i x && every f (suc i) xs

pub from : (f : ℕ → ℕ → Bool) (xs : List ℕ) (i : ℕ) → T (every f i xs) → (k d : ℕ) → k < length xs → T (f (i + k) (get_or xs k d))
from f [] i t k d h = absurd (not-suc-le-zero h)
from f (x ∷ xs) i t zero d h = rw add-zero (and_yes (f i x) (every f (suc i) xs) t).0
from f (x ∷ xs) i t (suc k) d h = rw (add-suc, ← (suc-add i k)) (from f xs (suc i) (and_yes (f i x) (every f (suc i) xs) t).1 k d (le_of_suc-le-suc h))

-- a list whose entries are all below a bound
pub get_or_below : (n : ℕ) (xs : List ℕ) → T (every (λ i x. ltb x n) 0 xs) → (k d : ℕ) → d < n → get_or xs k d < n
get_or_below n xs t k d h =
    ⊎_elim
    (λ e. ltb→lt _ n (from (λ i x. ltb x n) xs 0 t k d (ltb-true k _ e)))
    (λ e. rw (get_or-eq_default xs d (ltb-false k _ e)) h)
    (way (ltb k (length xs)))

-- the rule at a place: its section is the place by 625, and its pins are the four digits to the base 5
abbrev pub rule_at : ℕ → ℕ
rule_at k = gate5 (kind_of (k / 625)) (k / 125 % 5 ∷ k / 25 % 5 ∷ k / 5 % 5 ∷ k % 5 ∷ [])

unfoldable pub is_rule : ℕ → ℕ → Bool
unfolding every_filling kinds
is_rule k x = eqb x (rule_at k)

-- the one lemma: a table that passes the test agrees with the rule at every entry
pub table_ruled : {table : List ℕ} → T (every is_rule 0 table) → length table ≡ 1875 → Ruled table
unfolding is_rule
table_ruled {table} t n =
    record {
      entries =
          λ section a b c d hs ha hb hc hd.
          let k = slot section a b c d in
          let e0 : k / 625 ≡ section = omega arith in
          let e1 : k / 125 % 5 ≡ a = omega arith in
          let e2 : k / 25 % 5 ≡ b = omega arith in
          let e3 : k / 5 % 5 ≡ c = omega arith in
          let e4 : k % 5 ≡ d = omega arith in
          eqb→eq (get_or table k 2) (rule_at k) (rw zero-add at (from is_rule table 0 t k 2 (omega arith))) ∙ rw (e0, e1, e2, e3, e4);
    }
