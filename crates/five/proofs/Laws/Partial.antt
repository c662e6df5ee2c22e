-- A partial pattern's bits tried from below have a value bit where no input is named just where there is one.
use mathlib.Core.Path.{◌≡◌, refl, ap, ◌∙◌}
use mathlib.Core.Bool.{Bool, true, false, ◌||◌}
use Prim.Native.Nat.{ℕ, zero, suc, ◌+◌}
use native.Mathlib.Nat.{add-zero, zero-add}
use native.Mathlib.Omega.{arith}
use Rattle.std.specs.List.{list_any, range_with_len}
use Rattle.five.specs.Partial.{is_stray, stray_below}

or_none : (a : Bool) → (a || false) ≡ a
or_none true = refl
or_none false = refl

or_in_turn : (a b c : Bool) → (a || (b || c)) ≡ ((a || b) || c)
or_in_turn true b c = refl
or_in_turn false b c = refl

-- one number more is tried behind those before it
any_next : (t : ℕ → Bool) (a n : ℕ) → list_any t (range_with_len a (suc n)) ≡ (list_any t (range_with_len a n) || t (a + n))
any_next t a zero = rw add-zero (or_none (t a))
any_next t a (suc n) =
    let e : a + 1 + n ≡ a + suc n = omega arith in
    ap (λ u. t a || u) (any_next t (a + 1) n) ∙ rw e (or_in_turn (t a) (list_any t (range_with_len (a + 1) n)) (t (a + suc n)))

pub any_stray : (named values n : ℕ) → list_any (is_stray named values) (range_with_len 0 n) ≡ stray_below named values n
any_stray named values zero = refl
any_stray named values (suc n) = any_next (is_stray named values) 0 n ∙ rw (zero-add, any_stray named values n)
