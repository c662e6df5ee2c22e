-- The text that the program `book` writes for any bytes that come in.
use Rattle.std.specs.Prelude.{◌≡◌, List, [], ◌∷◌, ◌++◌, cond, ℕ, suc, ◌+◌, ◌-◌, ◌*◌, ◌≤◌, ◌<◌, length, take, Option as Answer, Some, None}
use Rattle.std.proofs.Math.Option.{Option, none, some}
use Rattle.board.specs.Board.{Record, Board}
use Rattle.board.specs.Gate.{absent}
use Rattle.board.specs.Book.{fault_at, answer_in, found}
use Rattle.board.specs.declared.Condition.{Condition}
use Rattle.board.specs.declared.Condition.TheVariants.{Sound, Having}
use Rattle.board.specs.declared.Fault.TheVariants.{Line, Pin}
use Rattle.board.specs.declared.Sort.{Sort}
use Rattle.board.specs.declared.Sort.TheVariants.{Lines, Pins}
use Rattle.image.specs.Image.{last_twelve, board_of}
use Rattle.image.specs.Refusals.{image_refusals, first_refusal, Accepted}
use Rattle.image.specs.Promise.{answer}
use Rattle.image.specs.Check.{check_promise}
use Rattle.image.specs.declared.Refusal.{Refusal}
use Rattle.find.specs.Book.{book_of}
use Rattle.text.specs.Text.{form}
use Rattle.report.specs.Lines.{checked_line}
use Rattle.report.specs.declared.book.Rest.{Rest}

-- 1/0 0 or 1/1 none for a line's fault, 4.0/1 0 for a pin's
abbrev pub entry_text : Condition → Option ℕ → List ℕ
entry_text Sound answer = []
entry_text (Having (Line l s)) none = form "#/# none\n" (l ∷ s ∷ [])
entry_text (Having (Line l s)) (some p) = form "#/# #\n" (l ∷ s ∷ p ∷ [])
entry_text (Having (Pin l j s)) none = form "#.#/# none\n" (l ∷ j ∷ s ∷ [])
entry_text (Having (Pin l j s)) (some p) = form "#.#/# #\n" (l ∷ j ∷ s ∷ p ∷ [])

-- found 2 of 6, and pins found 2 of 4
abbrev pub total_text : Sort → ℕ → ℕ → List ℕ
total_text Lines n faults = form "found # of #\n" (n ∷ faults ∷ [])
total_text Pins n faults = form "pins found # of #\n" (n ∷ faults ∷ [])

-- how many pins some lines use; and how many faults of a sort a board has: two a line, or two a used pin
abbrev pub pins_of : List Record → ℕ
pins_of [] = 0
pins_of (r ∷ rs) = length r.pins + pins_of rs

abbrev pub faults_of : Sort → Board → ℕ
faults_of Lines b = 2 * length b.lines
faults_of Pins b = 2 * pins_of b.lines

module _ (sort : Sort) where
  -- the line of entry k, with the number that stands in the book; not a byte for an absent pin
  unfoldable pub entry_line : Board → ℕ → ℕ → List ℕ
  entry_line b k e = cond (absent b (fault_at sort k)) [] (entry_text (fault_at sort k) (answer_in e))

  -- the lines of the entries from k on
  abbrev pub entry_lines : Board → ℕ → List ℕ → List (List ℕ)
  entry_lines b k [] = []
  entry_lines b k (e ∷ es) = entry_line b k e ∷ entry_lines b (suc k) es

  -- the lines of a book in its order, and the total: how many entries are not none, counted from them, of how many faults
  abbrev pub book_lines : List ℕ → List (List ℕ)
  book_lines s = entry_lines (board_of s) 0 (book_of sort s) ++ (total_text sort (found (book_of sort s)) (faults_of sort (board_of s)) ∷ [])

  -- what follows for a book: its lines, or nothing where the image is refused
  abbrev pub lines_after : Option Refusal → List ℕ → List (List ℕ)
  lines_after (some r) s = []
  lines_after none s = book_lines s

-- the first line: the counts, or the one line of the refusal
abbrev pub first_line : List ℕ → List ℕ
first_line s = checked_line (answer (first_refusal (image_refusals s)) (check_promise s).done)

-- the text for any bytes, line by line: the line book, then the pin book
abbrev pub program_lines : List ℕ → List (List ℕ)
program_lines s = let refusal = first_refusal (image_refusals s) in first_line s ∷ (lines_after Lines refusal s ++ lines_after Pins refusal s)

-- what lines are made from: an accepted image, its book, that book's count, and how many faults there are
pub record Filled (sort : Sort) (s book : List ℕ) (r : Rest) : Type 0 where
  pub ok : Accepted s
  pub is : book ≡ book_of sort s
  pub counted : r.found ≡ found (book_of sort s)
  pub of_all : r.faults ≡ faults_of sort (board_of s)

-- what follows for a book of s: how many lines, the total's among them, and what they are made from, the book in the front of some room
pub record Follows (sort : Sort) (s room : List ℕ) (r : Rest) : Type 0 where
  pub many : r.lines ≡ length (lines_after sort (first_refusal (image_refusals s)) s)
  pub some : 0 < r.lines
  pub inside : r.lines ≤ suc (length room)
  pub filled : Filled sort s (take (r.lines - 1) room) r

-- and nothing, just where the image is refused
abbrev pub RestOf : Sort → List ℕ → List ℕ → Answer Rest → Type 0
RestOf sort s room None = lines_after sort (first_refusal (image_refusals s)) s ≡ []
RestOf sort s room (Some r) = Follows sort s room r

-- two inputs are refused, and alike
abbrev pub RefusedAlike : List ℕ → List ℕ → Type 0
RefusedAlike s t = (r : Refusal) × (first_refusal (image_refusals s) ≡ some r) × (first_refusal (image_refusals t) ≡ some r)

-- the last twelve bytes of s are the first of a buffer
abbrev pub Tail : List ℕ → List ℕ → Type 0
Tail s buf = take 12 buf ≡ last_twelve s
