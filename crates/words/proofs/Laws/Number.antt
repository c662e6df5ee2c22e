-- The number of digits, one digit more at a time, and what a word is read as.
use Rattle.std.proofs.Common.{◌≡◌, refl, ◌∙◌, Bool, true, false, ◌&&◌, Option, Some, None, List, [], ◌∷◌, ℕ, suc, ◌+◌, ◌*◌, ◌-◌, ◌^◌, ◌≤◌, ◌<◌, length, get_or, drop, drop-cons, add-one, arith, Bor, MatchOption, option_and_then}
use Rattle.std.specs.Option.{option_map}
use Rattle.std.specs.Char.{is_ascii_digit}
use native.Mathlib.Nat.{le_refl, le_trans}
use lib.Seq.{drop-length}
use borrow.Author.Tests.{le-ltb, lt-ltb}
use Rattle.words.specs.Number.{value_from, numeral, number_of}

and_false : (t : Bool) → (t && false) ≡ false
and_false true = refl
and_false false = refl

-- more digits make a number no smaller
value_grows : (xs : List ℕ) (v : ℕ) → v ≤ value_from v xs
unfolding value_from
value_grows [] v = le_refl v
value_grows (x ∷ xs) v = let more : v ≤ 10 * v + (x - 48) = omega arith in le_trans more (value_grows xs (10 * v + (x - 48)))

-- all is what the digits from i on are read as
module _ (w : List ℕ) (i v : ℕ) (all : Option ℕ) (room : i < length w) (before : all ≡ numeral v (drop i w)) where
  pub digit_more : is_ascii_digit (get_or w i 0) ≡ true → all ≡ numeral (10 * v + (get_or w i 0 - 48)) (drop (i + 1) w)
  unfolding value_from
  digit_more q = before ∙ rw (add-one, drop-cons w i 0 room, q)

  pub digit_not : is_ascii_digit (get_or w i 0) ≡ false → all ≡ None
  digit_not q = before ∙ rw (drop-cons w i 0 room, q)

  pub digit_wide : 2 ^ 64 ≤ 10 * v + (get_or w i 0 - 48) → all ≡ None
  unfolding value_from
  digit_wide wide =
      let whole : 2 ^ 64 ≤ value_from v (drop i w) = rw (drop-cons w i 0 room) (le_trans wide (value_grows (drop (suc i) w) (10 * v + (get_or w i 0 - 48)))) in
      before ∙ rw (le-ltb (value_from v (drop i w)) (2 ^ 64) whole) (rw and_false)

-- all is what no digits behind those that came to v are read as
pub no_more : (w : List ℕ) (i v : ℕ) (all : Option ℕ) → i ≡ length w → all ≡ numeral v (drop i w) → v < 2 ^ 64 → all ≡ Some v
unfolding value_from
no_more w i v all end before fits = before ∙ rw (end, drop-length, lt-ltb v (2 ^ 64) fits)

-- what a word is read as, where there is one
pub number_of_word : (word : Option (Bor (List ℕ))) (got : Option (List ℕ)) (r : Option ℕ) → option_map (λ x. x.now) word ≡ got
    → MatchOption word (r ≡ None) (λ x. r ≡ number_of x.now) → r ≡ option_and_then number_of got
number_of_word None got r is e = rw (← is) e
number_of_word (Some x) got r is e = rw (← is) e
