-- What Alter owes.
use Rattle.std.specs.Prelude.{◌≡◌, List, [], ◌∷◌, ℕ, ◌+◌, length}
use Rattle.std.proofs.Math.Option.{Option}
use Rattle.board.specs.Book.{renewed_book, found}
use Rattle.board.specs.declared.Sort.{Sort}
use Rattle.board.specs.declared.Sort.TheVariants.{Lines, Pins}
use Rattle.image.specs.Image.{record_at, board_of}
use Rattle.image.specs.Promise.{Promise, Owes}
use Rattle.image.specs.Calls.{◌then◌, line_refusals}
use Rattle.image.specs.declared.Refusal.{Refusal}
use Rattle.find.specs.Book.{bad_book}
use Rattle.alter.specs.Patch.{patched, bad_alteration}

-- the two books of a board, by their sort
abbrev pub Books : Type 0
Books = Sort → List ℕ

-- a line book and a pin book
abbrev pub both : List ℕ → List ℕ → Books
both book pins Lines = book
both book pins Pins = pins

-- the book of a sort afterwards: Find's answer on the new board where the fault is touched, the old number where it is not
unfoldable pub brought_up : List ℕ → Books → ℕ → List ℕ → Books
brought_up s books line new sort = renewed_book sort (board_of s) line (record_at new 0) (books sort)

-- 1 to 5, 6, 9 on either book, 10
unfoldable pub alter_refusals : List ℕ → Books → ℕ → List ℕ → List (Option Refusal)
alter_refusals s books line new =
    line_refusals s line then bad_book Lines s (length (books Lines)) then bad_book Pins s (length (books Pins)) then bad_alteration s line new

-- how many entries of the two books together are not none
abbrev pub found_in : Books → ℕ
found_in books = found (books Lines) + found (books Pins)

-- Alter: the image with the new record, both books brought up to date, and the count, counted from the entries
abbrev pub alter_promise : List ℕ → Books → ℕ → List ℕ → Promise
alter_promise s books line new =
    let later = brought_up s books line new in
    record {
      refusals = alter_refusals s books line new;
      done = found_in later ∷ [];
      lent = s ∷ books Lines ∷ books Pins ∷ [];
      filled = patched s line new ∷ later Lines ∷ later Pins ∷ [];
    }

-- any number of calls in turn, from an image and its books to an image and its books, each with a record of ten bytes
pub data Calls : List ℕ → Books → List ℕ → Books → Type 0 where
  done : {s : List ℕ} {books : Books} → Calls s books s books
  next : {s t u said : List ℕ} {books later last : Books} (line : ℕ) (new : List ℕ) → length new ≡ 10
      → Owes (alter_promise s books line new) (t ∷ later Lines ∷ later Pins ∷ []) said → Calls t later u last → Calls s books u last
