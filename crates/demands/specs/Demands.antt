-- The words in which the three demands are stated, and the calls that they are stated of.
use Rattle.std.specs.Prelude.{◌≡◌, List, map, true, false, ℕ, ◌+◌, ◌*◌, ◌^◌, ◌<◌, length, get_or}
use Rattle.std.proofs.Math.Option.{Option, none, some}
use Rattle.board.specs.Lists.{◌among◌, ones}
use Rattle.board.specs.Board.{Board, inputs}
use Rattle.board.specs.Row.{value}
use Rattle.board.specs.Gate.{good, site, faulty}
use Rattle.board.specs.Reach.{touched}
use Rattle.board.specs.Test.{shows, Smallest, find}
use Rattle.board.specs.Book.{entries_a_line, fault_at, entry, answer_in}
use Rattle.board.specs.declared.Fault.{Fault}
use Rattle.board.specs.declared.Fault.TheVariants.{Line, Pin}
use Rattle.board.specs.declared.Sort.{Sort}
use Rattle.board.specs.declared.Sort.TheVariants.{Lines, Pins}
use Rattle.board.specs.declared.Condition.{Condition}
use Rattle.board.specs.declared.Condition.TheVariants.{Having}
use Rattle.image.specs.Image.{line_count, record_at, board_of}
use Rattle.image.specs.Refusals.{first_refusal}
use Rattle.image.specs.Promise.{numbers, Promise}
use Rattle.image.specs.Check.{check_promise}
use Rattle.image.specs.declared.Refusal.{Refusal}
use Rattle.rows.specs.Rows.{rows_promise}
use Rattle.rows.specs.Judge.{judge_promise}
use Rattle.rows.specs.Refresh.{refresh_promise}
use Rattle.five.specs.Five.{five_promise}
use Rattle.find.specs.Find.{find_promise}
use Rattle.find.specs.Book.{book_promise}
use Rattle.alter.specs.Patch.{patched}
use Rattle.alter.specs.Alter.{Books, alter_promise}
use Rattle.drawing.specs.Calls.{Reading, Reads, read_promise, write_promise}

-- the calls, each with what it promises for what it is given; Show has no refusal, and its own promise
pub data Call : Promise → Type 0 where
  Check : (img : List ℕ) → Call (check_promise img)
  Rows : (img : List ℕ) (pattern : ℕ) (fault : Fault) (good_row faulty_row : List ℕ) → Call (rows_promise img pattern fault good_row faulty_row)
  Judge : (img : List ℕ) (pattern : ℕ) (fault : Fault) → Call (judge_promise img pattern fault)
  Refresh : (img : List ℕ) (pattern line : ℕ) (row : List ℕ) → Call (refresh_promise img pattern line row)
  Five : (img : List ℕ) (named values : ℕ) (fault : Fault) (row : List ℕ) → Call (five_promise img named values fault row)
  Find : (img : List ℕ) (fault : Fault) → Call (find_promise img fault)
  Book : (sort : Sort) (img entries : List ℕ) → Call (book_promise sort img entries)
  Alter : (img : List ℕ) (books : Books) (line : ℕ) (new : List ℕ) → Call (alter_promise img books line new)
  Read : (text target : List ℕ) (is : Reading) → Reads text is → Call (read_promise is target)
  Write : (img target : List ℕ) → Call (write_promise img target)

-- demand 1, of a call that promised p, said this and left this of what was lent: it is turned away by the numbers of the first refusal that
-- applies, which do not begin with 0, and then what was lent is unchanged; 0 is said first where none applies
pub record TurnsAway (p : Promise) (left : List (List ℕ)) (said : List ℕ) : Type 0 where
  pub by_number : (r : Refusal) → first_refusal p.refusals ≡ some r → (said ≡ numbers r) × (0 < get_or said 0 0)
  pub unchanged : (r : Refusal) → first_refusal p.refusals ≡ some r → left ≡ p.lent
  pub else_0 : first_refusal p.refusals ≡ none → get_or said 0 1 ≡ 0

-- demand 2: under pattern x the good board and the faulty one differ at some output
abbrev pub DifferSomewhere : Board → Condition → ℕ → Type 0
DifferSomewhere b φ x = (o : ℕ) × (o among b.outs) × (value (good x) b o ≡ value (faulty φ x) b o → ⊥)

-- of a fault on an image's board: the smallest pattern of the board's inputs that shows it, or none exactly where no pattern does
abbrev pub SmallestTest : List ℕ → Fault → Option ℕ → Type 0
SmallestTest s φ o = Smallest (shows (board_of s) (Having φ)) (2 ^ inputs (board_of s)) o

-- the book of a sort has an entry for the fault: for a line at 0 and at 1, or for each of four pins of a line
abbrev pub Has : Sort → List ℕ → Fault → Type 0
Has Lines s (Line line stuck) = (line < line_count s) × (stuck < 2)
Has Pins s (Pin line pin stuck) = (line < line_count s) × (pin < 4) × (stuck < 2)
Has Lines s (Pin line pin stuck) = ⊥
Has Pins s (Line line stuck) = ⊥

-- which entry it is
abbrev pub entry_of : Fault → ℕ
entry_of (Line line stuck) = 2 * line + stuck
entry_of (Pin line pin stuck) = 8 * line + 2 * pin + stuck

-- the whole book of an image's board: so many numbers a line, each standing for that answer
pub record WholeBook (sort : Sort) (s book : List ℕ) : Type 0 where
  pub long : length book ≡ entries_a_line sort * line_count s
  pub entries : (φ : Fault) → Has sort s φ → SmallestTest s φ (answer_in (get_or book (entry_of φ) 0))

-- 1 for a pattern, 0 for none
abbrev pub one : Option ℕ → ℕ
one none = 0
one (some p) = 1

-- how many numbers of a book stand for a pattern
abbrev pub shown_in : List ℕ → ℕ
shown_in book = ones (map (λ (e : ℕ). one (answer_in e)) book)

-- demand 3, of a line's new record, which turned the image s into t and its books into `later`: the image differs in that one
-- record, the touched entries are worked out afresh on the new board, and every other one is kept
pub record BroughtUp (s t : List ℕ) (line : ℕ) (new : List ℕ) (books later : Books) : Type 0 where
  pub image : t ≡ patched s line new
  pub long : (sort : Sort) → length (later sort) ≡ length (books sort)
  pub fresh :
      (sort : Sort) (k : ℕ) → k < length (books sort) → touched (board_of s) line (record_at new 0) (site (fault_at sort k)) ≡ true
      → get_or (later sort) k 0 ≡ entry (find (board_of t) (fault_at sort k))
  pub kept :
      (sort : Sort) (k : ℕ) → k < length (books sort) → touched (board_of s) line (record_at new 0) (site (fault_at sort k)) ≡ false
      → get_or (later sort) k 0 ≡ get_or (books sort) k 0
