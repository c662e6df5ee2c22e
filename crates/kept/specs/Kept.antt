-- What lending and putting leave in an array of which the front is lent, and how much is lent then.
use Rattle.std.specs.Prelude.{◌≡◌, List, ◌++◌, Option, Some, None, ℕ, ◌/◌, ◌≤◌, ◌<◌, length, drop, replicate, IfSome}
use Rattle.words.specs.Hex.{hex_bytes}

-- the longest image and row that the console keeps
abbrev pub most_image : ℕ
most_image = 65536

abbrev pub most_row : ℕ
most_row = 8192

-- the byte of a fresh row
abbrev pub fresh_byte : ℕ
fresh_byte = 9

-- n fresh things are lent, at the front of the array
pub record Lends {T : Type 0} (fresh : T) (n : ℕ) (array : List T) (lent : ℕ) (after : List T) : Type 0 where
  pub many : lent ≡ n
  pub fresh_front : after ≡ replicate n fresh ++ drop n array

-- as much is lent as was, and the array is as it was
pub record Stays {T : Type 0} (old : ℕ) (array : List T) (lent : ℕ) (after : List T) : Type 0 where
  pub many : lent ≡ old
  pub same : after ≡ array

-- lend book, lend pins and lend target: n fresh things at the front of the array, and nothing changed where they are too many
pub record LendLeaves {T : Type 0} (fresh : T) (n old : ℕ) (array : List T) (lent : ℕ) (after : List T) : Type 0 where
  pub lends : n ≤ length array → Lends fresh n array lent after
  pub refuses : length array < n → Stays old array lent after

-- a HEX word's bytes at the front of some room, and nothing changed where they are too many
pub record PutWordLeaves (word room : List ℕ) (r : Option ℕ) (after : List ℕ) : Type 0 where
  pub inside : IfSome r (λ n. n ≤ length room)
  pub puts : length word / 2 ≤ length room → (r ≡ Some (length word / 2)) × (after ≡ hex_bytes word ++ drop (length word / 2) room)
  pub refuses : length room < length word / 2 → (r ≡ None) × (after ≡ room)

-- put good and put faulty: a HEX word's bytes at the front of the array, and nothing changed where they are too many
pub record PutRowLeaves (word : List ℕ) (old : ℕ) (array : List ℕ) (lent : ℕ) (after : List ℕ) : Type 0 where
  pub puts : length word / 2 ≤ length array → (lent ≡ length word / 2) × (after ≡ hex_bytes word ++ drop (length word / 2) array)
  pub refuses : length array < length word / 2 → Stays old array lent after
