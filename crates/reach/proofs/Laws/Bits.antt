-- The bits of a number: those that two numbers have in common or together, that of a power of two, and that a number which is not 0 has one.
use mathlib.Core.Path.{◌≡◌, refl, sym, ap, ◌∙◌}
use mathlib.Core.Logic.{◌⊎◌, inl, inr, ⊎_elim, ◌↔◌}
use mathlib.Core.Bool.{true, false}
use Prim.Native.Nat.{ℕ, zero, suc, ◌+◌, ◌/◌, ◌%◌, ◌^◌, ◌<◌, min, max}
use native.Mathlib.Nat.{mod-lt, div-eq_of_lt, div-one, one-mul, not-suc-le-zero, zero-div, zero-lt-suc}
use native.Mathlib.Numerals.{one-add}
use native.Mathlib.Omega.{arith}
use lib.Arith.{digits_mod, bin_ind}
use lib.Bits.{bit_and, bit_or, and_step, or_step, and_shr, or_shr, shifted_half, shifted_even}
use lib.Dec.{eqb, lit<}
use lib.Pow.{pow-lt, shl-shr, shr-shr}
use borrow.Author.Tests.{eqb-true, eqb-false}
use Rattle.board.specs.Gate.{bit_of}
use Rattle.board.proofs.Lists.{way}

pub bit_low : (w j : ℕ) → bit_of w j < 2
bit_low w j = mod-lt (w / 2 ^ j) (lit< tt)

pub zero_bit : (j : ℕ) → bit_of 0 j ≡ 0
zero_bit j = rw zero-div

pub and_bit : (v w j : ℕ) → bit_of (bit_and v w) j ≡ min (bit_of v j) (bit_of w j)
and_bit v w j = rw (and_shr v w j, and_step (v / 2 ^ j) (w / 2 ^ j)) (digits_mod _ (omega (arith, bit_low v j)))

pub or_bit : (v w j : ℕ) → bit_of (bit_or v w) j ≡ max (bit_of v j) (bit_of w j)
or_bit v w j = rw (or_shr v w j, or_step (v / 2 ^ j) (w / 2 ^ j)) (digits_mod _ (omega (arith, bit_low v j, bit_low w j)))

-- two numbers together have the bits that either has
pub or_has : (v w j : ℕ) → (bit_of (bit_or v w) j ≡ 1) ↔ ((bit_of v j ≡ 1) ⊎ (bit_of w j ≡ 1))
or_has v w j = (
  λ e.
      ⊎_elim
      (λ (t : eqb (bit_of v j) 1 ≡ true). inl (eqb-true (bit_of v j) 1 t))
      (λ (t : eqb (bit_of v j) 1 ≡ false). inr (omega (arith, sym (or_bit v w j) ∙ e, eqb-false (bit_of v j) 1 t, bit_low v j, bit_low w j)))
      (way (eqb (bit_of v j) 1)),
  ⊎_elim (λ e. or_bit v w j ∙ omega (arith, e, bit_low w j)) (λ e. or_bit v w j ∙ omega (arith, e, bit_low v j)),
)

-- 2 ^ k has bit k, and no other
pub own_bit : (k : ℕ) → bit_of (2 ^ k) k ≡ 1
own_bit k = ap (λ (q : ℕ). q % 2) (rw one-mul at (shl-shr 1 k))

pub only_bit : (k j : ℕ) → bit_of (2 ^ k) j ≡ 1 → j ≡ k
only_bit zero zero e = refl
only_bit zero (suc j) e = omega (arith, sym (ap (λ (q : ℕ). q % 2) (div-eq_of_lt (pow-lt {i = 0} (zero-lt-suc j)))) ∙ e)
only_bit (suc k) zero e = omega (arith, sym (ap (λ (q : ℕ). q % 2) (div-one (2 ^ suc k)) ∙ rw one-mul at (shifted_even 1 k)) ∙ e)
only_bit (suc k) (suc j) e =
    let half : 2 ^ suc k / 2 ^ suc j ≡ 2 ^ k / 2 ^ j = sym (rw one-add at (shr-shr (2 ^ suc k) 1 j)) ∙ ap (λ (q : ℕ). q / 2 ^ j) (rw (one-mul, one-mul) at (shifted_half 1 k)) in
    ap suc (only_bit k j (sym (ap (λ (q : ℕ). q % 2) half) ∙ e))

-- a number that is not 0 has a bit
pub some_bit : (w : ℕ) → 0 < w → (j : ℕ) × (bit_of w j ≡ 1)
some_bit = bin_ind (λ (w : ℕ). 0 < w → (j : ℕ) × (bit_of w j ≡ 1)) (λ l. absurd (not-suc-le-zero l)) (λ w half l.
    ⊎_elim
    (λ (o : eqb (w % 2) 1 ≡ true). (0, rw div-one (eqb-true (w % 2) 1 o)))
    (λ (o : eqb (w % 2) 1 ≡ false).
    let (j, e) = half (omega (arith, eqb-false (w % 2) 1 o)) in
    (1 + j, ap (λ (q : ℕ). q % 2) (sym (shr-shr w 1 j)) ∙ e))
    (way (eqb (w % 2) 1)))
