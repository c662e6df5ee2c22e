-- The gate rule as one fixed table: and, or, exclusive-or, four pins, five values each.
use Rattle.std.specs.Prelude.{◌≡◌, List, [], ◌∷◌, ℕ, ◌+◌, ◌*◌, ◌<◌, get_or}
use Rattle.board.specs.Five.{gate5}

-- the kind of a section's gates: 3, 5, 7
abbrev pub kind_of : ℕ → ℕ
kind_of section = 3 + 2 * section

-- the slot of an entry: its section (0 and, 1 or, 2 exclusive-or), then its four pins' values
abbrev pub slot : ℕ → ℕ → ℕ → ℕ → ℕ → ℕ
slot section a b c d = 625 * section + 125 * a + 25 * b + 5 * c + d

-- a table agrees with the rule by fillings at every entry
pub record Ruled (table : List ℕ) : Type 0 where
  pub entries : (section a b c d : ℕ) → section < 3 → a < 5 → b < 5 → c < 5 → d < 5
      → get_or table (slot section a b c d) 2 ≡ gate5 (kind_of section) (a ∷ b ∷ c ∷ d ∷ [])
