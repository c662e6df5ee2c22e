-- The lowest 1: trailing zeros are its place, and the lowest lane of eight words is the lowest of the first word that has one.
use mathlib.Core.Path.{◌≡◌, refl, sym, ap, ◌∙◌}
use mathlib.Core.Logic.{⊎_elim}
use mathlib.Core.List.{List}
use mathlib.Core.Bool.{true, false}
use Prim.Native.Nat.{ℕ, zero, suc, ◌+◌, ◌*◌, ◌/◌, ◌%◌, ◌^◌, ◌≤◌, ◌<◌, zero-le, suc-le-suc}
use native.Mathlib.Nat.{le_of_suc-le-suc, not-suc-le-zero, mod-lt, pow-suc, div-div-eq-div-mul, pow-succ', div-one}
use native.Mathlib.Omega.{arith}
use lib.Dec.{ltb, lit<}
use lib.Count.{count_trailing_zeros, under}
use lib.ListN.{get_or}
use borrow.Author.Tests.{ltb-true, ltb-false}
use Rattle.board.specs.Gate.{bit_of}
use Rattle.board.proofs.Lists.{way}
use Rattle.lanes.specs.Words.{lane}
use Rattle.lanes.specs.Inner.{LowestOne, Lowest}
use Rattle.reach.proofs.Laws.Bits.{zero_bit}

-- the next bit of a number is that bit of its half
bit_next : (n j : ℕ) → bit_of n (suc j) ≡ bit_of (n / 2) j
bit_next n j = ap (λ (m : ℕ). n / m % 2) (pow-succ' 2 j) ∙ ap (λ (m : ℕ). m % 2) (sym (div-div-eq-div-mul n 2 (2 ^ j)))

-- the place of the lowest 1 of a number of k digits
record LowestOf (k n z : ℕ) : Type 0 where
  inside : z < k
  one : bit_of n z ≡ 1
  none_below : (q : ℕ) → q < z → bit_of n q ≡ 0

lowest_step : (k n z : ℕ) (r : ℕ) → n % 2 ≡ r → r < 2 → (r ≡ 0 → LowestOf k (n / 2) z) → LowestOf (suc k) n (under r z)
lowest_step k n z zero e l half =
    record {
      inside = suc-le-suc (half refl).inside;
      one = bit_next n z ∙ (half refl).one;
      none_below = passed;
    }
  where
    passed : (q : ℕ) → q < suc z → bit_of n q ≡ 0
    passed zero m = ap (λ (x : ℕ). x % 2) (div-one n) ∙ e
    passed (suc q) m = bit_next n q ∙ (half refl).none_below q (le_of_suc-le-suc m)
lowest_step k n z (suc r) e l half =
    record {
      inside = suc-le-suc zero-le;
      one = ap (λ (x : ℕ). x % 2) (div-one n) ∙ omega arith;
      none_below = λ q m. absurd (not-suc-le-zero m);
    }

lowest_is : (k n : ℕ) → n < 2 ^ k → 0 < n → LowestOf k n (count_trailing_zeros k n)
unfolding count_trailing_zeros
lowest_is zero n h p = absurd (omega arith)
lowest_is (suc k) n h p =
    lowest_step k n (count_trailing_zeros k (n / 2)) (n % 2) refl (mod-lt n (lit< tt)) (λ e. lowest_is k (n / 2) (omega (arith, pow-suc 2 k)) (omega arith))

pub lowest_one : (d : ℕ) → d < 2 ^ 64 → (d ≡ 0 → ⊥) → LowestOne d (count_trailing_zeros 64 d)
lowest_one d few ne = let h = lowest_is 64 d few (omega arith) in record { inside = h.inside; one = h.one; none_below = h.none_below }

-- the first n words are dark
abbrev pub Dark : List ℕ → ℕ → Type 0
Dark e n = (w : ℕ) → w < n → get_or e w 0 ≡ 0

pub dark_next : (e : List ℕ) (n : ℕ) → Dark e n → get_or e n 0 ≡ 0 → Dark e (n + 1)
dark_next e n dark here w l =
    ⊎_elim
    (λ (q : ltb w n ≡ true). dark w (ltb-true w n q))
    (λ (q : ltb w n ≡ false). let le = ltb-false w n q in let same : w ≡ n = omega arith in rw same here)
    (way (ltb w n))

-- the lanes of dark words
dark_lanes : (e : List ℕ) (n : ℕ) → Dark e n → (k : ℕ) → k < 64 * n → lane e k ≡ 0
dark_lanes e n dark k l = rw (dark (k / 64) (omega arith)) (zero_bit (k % 64))

pub all_dark : (e : List ℕ) (n : ℕ) → 8 ≤ n → Dark e n → Lowest e 512
all_dark e n l dark = record { few = omega arith; dark = λ k m. dark_lanes e n dark k (omega arith); lit = λ m. absurd (omega arith) }

pub first_lit : (e : List ℕ) (n z : ℕ) → n < 8 → Dark e n → LowestOne (get_or e n 0) z → Lowest e (64 * n + z)
first_lit e n z l dark h =
    let inside = h.inside in
    let word : (64 * n + z) / 64 ≡ n = omega arith in
    let place : (64 * n + z) % 64 ≡ z = omega arith in
    record {
      few = omega arith;
      dark = λ k m.
          ⊎_elim
          (λ (q : ltb k (64 * n) ≡ true). dark_lanes e n dark k (ltb-true k (64 * n) q))
          (λ (q : ltb k (64 * n) ≡ false).
          let le = ltb-false k (64 * n) q in
          let same : k / 64 ≡ n = omega arith in
          rw same (h.none_below (k % 64) (omega arith)))
          (way (ltb k (64 * n)));
      lit = λ m. rw (word, place) h.one;
    }
