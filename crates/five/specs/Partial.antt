-- Refusal 8 on a partial pattern: which inputs are named, and their values.
use Rattle.std.proofs.Math.Option.{Option}
use Rattle.std.specs.Prelude.{List, Bool, false, ◌||◌, ◌&&◌, ℕ, zero, suc, ◌^◌, eqb, leb}
use Rattle.board.specs.Board.{inputs}
use Rattle.board.specs.Gate.{bit_of}
use Rattle.image.specs.Image.{board_of}
use Rattle.image.specs.Refusals.{given}
use Rattle.image.specs.declared.Refusal.{Refusal}
use Rattle.image.specs.declared.Refusal.TheVariants.{Pattern}

-- a value bit at i where no input is named
abbrev pub is_stray : ℕ → ℕ → ℕ → Bool
is_stray named values i = eqb (bit_of values i) 1 && eqb (bit_of named i) 0

-- one at some i below n
abbrev pub stray_below : ℕ → ℕ → ℕ → Bool
stray_below named values zero = false
stray_below named values (suc n) = stray_below named values n || is_stray named values n

-- with n inputs: either number has a bit at or above the input count, or a value bit stands where no input is named
abbrev pub is_amiss : ℕ → ℕ → ℕ → Bool
is_amiss n named values = leb (2 ^ n) named || (leb (2 ^ n) values || stray_below named values n)

-- 8: the partial pattern is amiss for the image's board
abbrev pub bad_partial : List ℕ → ℕ → ℕ → Option Refusal
bad_partial s named values = given (is_amiss (inputs (board_of s)) named values) Pattern
