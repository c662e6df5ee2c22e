-- The image of a board, without a note.
use Rattle.std.specs.Prelude.{List, [], ◌∷◌, ◌++◌, ℕ, ◌/◌, ◌%◌, ◌-◌, ◌<◌, length, get_or, take, drop, replicate}
use Rattle.board.specs.Board.{Record, Board}
use Rattle.image.specs.Image.{the_mark, full_distance, distance}
use Rattle.text.specs.Text.{each}

-- a number in two bytes, and in four
abbrev pub word_bytes : ℕ → List ℕ
word_bytes n = n % 256 ∷ n / 256 ∷ []

abbrev pub long_bytes : ℕ → List ℕ
long_bytes n = word_bytes (n % 65_536) ++ word_bytes (n / 65_536)

-- a record's ten bytes: kind, pin count, four pins, unused ones 0
abbrev pub record_bytes : Record → List ℕ
record_bytes r = r.kind ∷ length r.pins ∷ each word_bytes (take 4 (r.pins ++ replicate 4 0))

-- the records of lines, one after the other
unfoldable pub lines_bytes : List Record → List ℕ
lines_bytes [] = []
lines_bytes (r ∷ rs) = record_bytes r ++ lines_bytes rs

-- the trailer: line count, output count, distance, mark
abbrev pub trailer_bytes : ℕ → ℕ → List ℕ
trailer_bytes lines outs = word_bytes lines ++ word_bytes outs ++ long_bytes (full_distance outs lines) ++ long_bytes the_mark

unfoldable pub image_of : Board → List ℕ
image_of b = lines_bytes b.lines ++ each word_bytes b.outs ++ trailer_bytes (length b.lines) (length b.outs)

-- an image without its note
abbrev pub without_note : List ℕ → List ℕ
without_note s = drop (length s - distance s) s

-- bytes: numbers below 256
abbrev pub AllBytes : List ℕ → Type 0
AllBytes s = (i : ℕ) → get_or s i 0 < 256
