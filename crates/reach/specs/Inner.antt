-- What inner functions ask of each other and leave: no call's promise rests on it.
use Rattle.std.specs.Prelude.{◌≡◌, ◌⊎◌, ◌↔◌, List, ℕ, ◌+◌, ◌*◌, ◌<◌, length, get_or}
use Rattle.board.specs.Gate.{bit_of}
use Rattle.image.specs.Bytes.{word_at}

-- line l's number has bit j
abbrev pub HasBit : List ℕ → ℕ → ℕ → Type 0
HasBit numbers l j = bit_of (get_or numbers l 0) j ≡ 1

-- for each k below m the line `to k` was handed the number `n k`: a line has a bit exactly when it had it, or was handed a number with it
pub record Handed (to n : ℕ → ℕ) (m : ℕ) (old new : List ℕ) : Type 0 where
  pub long : length new ≡ length old
  pub has : (l j : ℕ) → HasBit new l j ↔ (HasBit old l j ⊎ ((k : ℕ) × (k < m) × (l ≡ to k) × (bit_of (n k) j ≡ 1)))

-- the line on pin k of the record at place p
abbrev pub pin_at : List ℕ → ℕ → ℕ → ℕ
pin_at s p k = word_at s (p + 2 + 2 * k)
