-- What inner functions ask of each other and leave: no call's promise rests on it.
use Rattle.std.specs.Prelude.{◌≡◌, List, false, ◌||◌, ℕ, ◌*◌, ◌<◌, length, get_or}
use Rattle.std.specs.Int.Bits.{bit_and}
use Rattle.board.specs.Lists.{bit, on, build}
use Rattle.board.specs.Board.{Board}
use Rattle.board.specs.Reach.{meets}
use Rattle.board.specs.Book.{entries_a_line}
use Rattle.board.specs.declared.Sort.{Sort}
use Rattle.image.specs.Image.{line_count}
use Rattle.image.specs.Inner.{Known}
use Rattle.image.specs.declared.Counts.{Counts}
use Rattle.alter.specs.Patch.{patched, unfit}
use Rattle.alter.specs.Alter.{Books, brought_up, found_in}

-- in the new row of marks those lines are marked too that reach an output which line a reaches
abbrev pub Met : Board → ℕ → List ℕ → List ℕ → Type 0
Met b a old new = (l : ℕ) → l < length old → on (get_or new l 0) ≡ (on (get_or old l 0) || meets b a l)

-- a line that is not marked in a row reaches no output that any line reaches
abbrev pub AloneUnlessMarked : List ℕ → ℕ → Board → Type 0
AloneUnlessMarked marks a b = on (get_or marks a 0) ≡ false → (l : ℕ) → meets b a l ≡ false

-- a row of marks, with those lines marked too whose number has a bit in common with another
unfoldable pub with_common : List ℕ → ℕ → List ℕ → List ℕ
with_common numbers own marks = build (λ l before. bit (on (get_or marks l 0) || on (bit_and own (get_or numbers l 0)))) (length marks)

-- what putting a record in asks: an accepted image with its counts, a record of ten bytes that refusal 10 lets in at a line of its board,
-- and two whole books
pub record Reworkable (s : List ℕ) (c : Counts) (line : ℕ) (new : List ℕ) (books : Books) : Type 0 where
  pub known : Known s c
  pub inside : line < line_count s
  pub ten : length new ≡ 10
  pub fine : unfit s line new ≡ false
  pub long : (sort : Sort) → length (books sort) ≡ entries_a_line sort * line_count s

-- what it leaves: the patched image, the books brought up to date, and the count of their entries that are not none
pub record Reworked (s : List ℕ) (line : ℕ) (new : List ℕ) (books : Books) (r : ℕ) (after : List ℕ) (later : Books) : Type 0 where
  pub image : after ≡ patched s line new
  pub books_are : (sort : Sort) → later sort ≡ brought_up s books line new sort
  pub count : r ≡ found_in (brought_up s books line new)
