-- Text as bytes.
use Rattle.std.specs.Prelude.{◌≡◌, List, [], ◌∷◌, ◌++◌, cond, ℕ, suc, ◌/◌, ◌%◌, ◌^◌, ◌≤◌, ltb, eqb, length, take}
use Rattle.std.proofs.Math.Option.{get_or}
use Prim.Native.String.{String}
use Rattle.io.specs.Digits.{last_digits, hex_digit_ascii}
use Rattle.board.specs.Lists.{text}
use Rattle.board.specs.Test.{first}

-- how many digits a number of 64 bits has
unfoldable pub places : ℕ → ℕ
places n = suc (get_or (first (λ k. ltb n (10 ^ suc k)) 0 20) 0)

-- a number in decimal, without leading zeros
unfoldable pub decimal : ℕ → List ℕ
decimal n = last_digits 10 (places n) n

-- the byte of a form where a number goes, #
abbrev pub gap : ℕ
gap = 35

-- a form with numbers in its gaps, each in decimal
abbrev pub spelled : List ℕ → List ℕ → List ℕ
spelled [] ns = []
spelled (c ∷ cs) [] = c ∷ spelled cs []
spelled (c ∷ cs) (n ∷ ns) = cond (eqb c gap) (decimal n ++ spelled cs ns) (c ∷ spelled cs (n ∷ ns))

-- a quoted form, with its numbers
abbrev pub form : String → List ℕ → List ℕ
form f ns = spelled (text f) ns

-- the texts of numbers, one after the other
unfoldable pub each : (ℕ → List ℕ) → List ℕ → List ℕ
each f [] = []
each f (n ∷ ns) = f n ++ each f ns

-- a byte in two digits, lower case
abbrev pub two_digits : ℕ → List ℕ
two_digits b = hex_digit_ascii (b / 16) ∷ hex_digit_ascii (b % 16) ∷ []

-- a number in decimal, behind a space
abbrev pub spaced : ℕ → List ℕ
spaced n = text " " ++ decimal n

-- room for any line
abbrev pub line_room : ℕ
line_room = 96

-- the first r bytes of a buffer are the text
pub record Written (r : ℕ) (out : List ℕ) (t : List ℕ) : Type 0 where
  pub room : r ≤ length out
  pub is : take r out ≡ t
