-- Numbers: decimal digits that fit 64 bits.
use Rattle.std.specs.Prelude.{◌≡◌, Bool, cond, ◌&&◌, not, Option, Some, None, unwrap_or, option_and_then, List, [], ◌∷◌, ℕ, ◌+◌, ◌*◌, ◌-◌, ◌^◌, eqb, ltb, length, slice_get}
use denote.Param.Members.{Mut}
use denote.Ref.{Bor}
use Rattle.std.specs.Fn.{Called}
use Rattle.std.specs.List.{list_all}
use Rattle.std.specs.Char.{is_ascii_digit}

-- each call of f, at a byte, answers what p does, and leaves f as it is
abbrev pub Tests : {F : Type 0} → Mut F (Bor ℕ × Unit {0}) Bool → (ℕ → Bool) → F → Type 0
Tests {F} g p f = (x : Bor ℕ) (b : Bool) (after : F) → Called g f (x, tt) b after → (after ≡ f) × (b ≡ p x.now)

-- one byte or more, each of which passes the test
abbrev pub is_all : (ℕ → Bool) → List ℕ → Bool
is_all t w = not (eqb (length w) 0) && list_all t w

-- the value of digits behind those that came to v
unfoldable pub value_from : ℕ → List ℕ → ℕ
value_from v [] = v
value_from v (x ∷ xs) = value_from (10 * v + (x - 48)) xs

-- what digits behind those that came to v are read as; and a word: a number is one or more decimal digits whose value fits 64 bits
abbrev pub numeral : ℕ → List ℕ → Option ℕ
numeral v w = cond (list_all is_ascii_digit w && ltb (value_from v w) (2 ^ 64)) (Some (value_from v w)) None

unfoldable pub number_of : List ℕ → Option ℕ
number_of w = cond (eqb (length w) 0) None (numeral 0 w)

-- the number of the word at a place, counted from 0; 0 where it is none
abbrev pub number_at : List (List ℕ) → ℕ → ℕ
number_at ws i = unwrap_or (option_and_then number_of (slice_get ws i)) 0
