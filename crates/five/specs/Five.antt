-- What the call of the five values owes.
use Rattle.std.proofs.Math.Option.{Option}
use Rattle.std.specs.Prelude.{List, [], ◌∷◌, ℕ, length, Result}
use Rattle.board.specs.Row.{row}
use Rattle.board.specs.Five.{five, partial}
use Rattle.board.specs.declared.Fault.{Fault}
use Rattle.board.specs.declared.Condition.{Condition}
use Rattle.board.specs.declared.Condition.TheVariants.{Having}
use Rattle.image.specs.Image.{line_count, board_of}
use Rattle.image.specs.Promise.{said_of, Promise}
use Rattle.image.specs.Calls.{◌then◌, bad_row, fault_refusals}
use Rattle.image.specs.declared.Refusal.{Refusal}
use Rattle.five.specs.Partial.{bad_partial}
use Rattle.five.specs.Driven.{driven}

-- 0 and the count, or a refusal
abbrev pub driven_says : Result ℕ Refusal → List ℕ
driven_says = said_of (λ n. n ∷ [])

-- 1 to 5, 6, 7, 12, 8, and 9 on a row of n bytes
unfoldable pub five_refusals : List ℕ → ℕ → ℕ → Fault → ℕ → List (Option Refusal)
five_refusals s named values φ n = fault_refusals s φ then bad_partial s named values then bad_row s n

-- the five-value row in a condition under a partial pattern, one value a line
unfoldable pub five_row : List ℕ → Condition → ℕ → ℕ → List ℕ
five_row s φ named values = row (five φ (partial named values)) (board_of s) (line_count s)

-- Five values: the row of the fault, and how many output lines hold D or D-bar in it
abbrev pub five_promise : List ℕ → ℕ → ℕ → Fault → List ℕ → Promise
five_promise s named values φ old = record {
  refusals = five_refusals s named values φ (length old);
  done = driven (board_of s) (five_row s (Having φ) named values) ∷ [];
  lent = old ∷ [];
  filled = five_row s (Having φ) named values ∷ [];
}
