-- A new record in an image, and when it is turned away.
use Rattle.std.proofs.Math.Option.{Option}
use Rattle.std.specs.Prelude.{List, [], ◌∷◌, ◌++◌, Bool, ◌||◌, ℕ, ◌+◌, eqb, take, drop}
use Rattle.board.specs.Lists.{somewhere}
use Rattle.board.specs.Board.{inputs}
use Rattle.image.specs.Bytes.{byte_at}
use Rattle.image.specs.Image.{record_place, board_of}
use Rattle.image.specs.Refusals.{given, bad_field}
use Rattle.image.specs.declared.Refusal.{Refusal}
use Rattle.image.specs.declared.Refusal.TheVariants.{Alteration}

-- the image with other bytes in the place of the ten of that line's record
unfoldable pub patched : List ℕ → ℕ → List ℕ → List ℕ
patched s line new = take (record_place s line) s ++ new ++ drop (record_place s line + 10) s

-- the fields of a record: kind, pin count and four pins
abbrev pub fields : List ℕ
fields = 0 ∷ 1 ∷ 2 ∷ 3 ∷ 4 ∷ 5 ∷ []

-- the new record would be bad as that line of a board with so many inputs: some field is
abbrev pub would_be_bad : List ℕ → ℕ → ℕ → Bool
would_be_bad new line ins = somewhere (bad_field new 0 line ins) fields

-- the altered line is an input, or the new record has kind 0 or would be bad there
unfoldable pub unfit : List ℕ → ℕ → List ℕ → Bool
unfit s line new = eqb (byte_at s (record_place s line)) 0 || (eqb (byte_at new 0) 0 || would_be_bad new line (inputs (board_of s)))

-- 10
abbrev pub bad_alteration : List ℕ → ℕ → List ℕ → Option Refusal
bad_alteration s line new = given (unfit s line new) Alteration
