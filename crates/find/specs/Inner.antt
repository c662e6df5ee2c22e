-- What inner functions ask of each other and leave: no call's promise rests on it.
use Rattle.std.specs.Prelude.{◌≡◌, List, Bool, true, false, cond, ℕ, ◌+◌, ◌*◌, ◌^◌, ◌≤◌, ◌<◌, length, get_or}
use Rattle.board.specs.Lists.{on, build}
use Rattle.board.specs.Limits.{most_inputs, none_mark}
use Rattle.board.specs.Board.{Board}
use Rattle.board.specs.Test.{shows, find}
use Rattle.board.specs.Book.{fault_at, entry, found}
use Rattle.board.specs.Gate.{site}
use Rattle.board.specs.declared.Condition.{Condition}
use Rattle.board.specs.declared.Sort.{Sort}
use Rattle.image.specs.Image.{line_count, board_of}
use Rattle.image.specs.Inner.{OnBoard}
use Rattle.lanes.specs.declared.trial.Trial.{Trial}
use Rattle.find.specs.declared.blocks.Start.{Start}
use Rattle.lanes.specs.Words.{seen, Lanes, below}
use Rattle.lanes.specs.declared.flat.Gate.{Gate}
use Rattle.lanes.specs.Inner.{size, Flat, Roomy, Block}

module _ (sort : Sort) where
  -- what renewing a book asks: faults of an image's board
  pub record Renewable (s : List ℕ) (book : List ℕ) : Type 0 where
    pub faults : (k : ℕ) → k < length book → OnBoard s (fault_at sort k)

  -- entry k: Find's answer where its line is marked in a row, its old number where it is not
  unfoldable pub reworked_entry : Board → List ℕ → List ℕ → ℕ → ℕ
  reworked_entry b marks old k = cond (on (get_or marks (site (fault_at sort k)) 0)) (entry (find b (fault_at sort k))) (get_or old k 0)

  -- the book reworked by a row of marks
  abbrev pub reworked : Board → List ℕ → List ℕ → List ℕ
  reworked b marks old = build (λ k done. reworked_entry b marks old k) (length old)

  -- a book in which the entries of the lines that are marked in a row are made none
  pub record Cleared (marks old new : List ℕ) : Type 0 where
    pub long : length new ≡ length old
    pub each : (k : ℕ) → k < length old → get_or new k 0 ≡ cond (on (get_or marks (site (fault_at sort k)) 0)) none_mark (get_or old k 0)

  -- what a renewal leaves: the book reworked, and how many of its entries are not none
  pub record Renewed (s marks old : List ℕ) (r : ℕ) (after : List ℕ) : Type 0 where
    pub book : after ≡ reworked (board_of s) marks old
    pub count : r ≡ found (reworked (board_of s) marks old)

-- a row in which the lines are marked that are marked in another
pub record SameMarks (marks old new : List ℕ) : Type 0 where
  pub long : length new ≡ length old
  pub same : (l : ℕ) → l < length old → on (get_or new l 0) ≡ on (get_or marks l 0)

-- rows that are long enough for a search on so many lines
pub record Spacious (lines rows todo : ℕ) : Type 0 where
  pub rows_long : 16 * lines + 16 ≤ rows
  pub todo_long : lines ≤ todo

-- the patterns of a block that are tried: from base up to an end. It is no invariant of `Trial`, since `flip` and `own_words` ask none.
pub record Span (base end : ℕ) : Type 0 where
  pub some_left : base < end
  pub few : end ≤ base + 512
  pub bounded : end ≤ 2 ^ most_inputs

-- an entry that was right for the patterns below m goes on to be right for those below n
abbrev pub Goes : (ℕ → Bool) → ℕ → ℕ → ℕ → ℕ → Type 0
Goes t m n old new = old ≡ below t m → new ≡ below t n

-- an entry e of a line that is still to do where o is not 0, after the patterns from m to n: of a line that was done it is as before; of one
-- that is to do yet it goes on to n, and of one that was done meanwhile to any number of patterns
pub record Onward (t : ℕ → Bool) (m n o e o' e' : ℕ) : Type 0 where
  pub done : on o ≡ false → (e' ≡ e) × (on o' ≡ false)
  pub going : on o ≡ true → on o' ≡ true → Goes t m n e e'
  pub ended : on o ≡ true → on o' ≡ false → (p : ℕ) → n ≤ p → Goes t m p e e'

-- what noting an entry asks, with the lanes in which a change of its line is seen
pub record Notable (t : Trial) (rows : List ℕ) (φ : Condition) (through : List ℕ) : Type 0 where
  pub block : Block (board_of t.img.now) t.base rows
  pub span : Span t.base t.end
  pub fault : OnBoard t.img.now φ
  pub sees : Lanes through (seen (board_of t.img.now) (site φ)) t.base

-- where a part of a book begins, from its sort and the number of its first entry; and where the part from its entry k on does
abbrev pub start_at : Sort → ℕ → Start
start_at sort first = record { sort = sort; first = first }

abbrev pub later : Start → ℕ → Start
later at k = start_at at.sort (at.first + k)

module _ (at : Start) where
  -- a part of a book, from where it begins on: the test of entry k, and its line
  abbrev pub test_of : Board → ℕ → ℕ → Bool
  test_of b k = shows b (fault_at at.sort (at.first + k))

  abbrev pub line_of : ℕ → ℕ
  line_of k = site (fault_at at.sort (at.first + k))

  -- a part of n entries has faults of an image's board
  pub record Part (s : List ℕ) (n : ℕ) : Type 0 where
    pub short : at.first + n ≤ 65536
    pub faults : (k : ℕ) → k < n → OnBoard s (fault_at at.sort (at.first + k))

  -- where the entries of entry k's line end, in a part of n entries
  pub record LineEnd (k n end : ℕ) : Type 0 where
    pub more : k < end
    pub within : end ≤ n
    pub same : (j : ℕ) → k ≤ j → j < end → line_of j ≡ line_of k
    pub above : (j : ℕ) → end ≤ j → j < n → line_of k < line_of j

  module _ (t : Trial) where
    -- what a part of n entries asks in a block whose good words stand in rows
    pub record Tryable (rows : List ℕ) (n : ℕ) : Type 0 where
      pub block : Block (board_of t.img.now) t.base rows
      pub part : Part t.img.now n

    -- what a part asks whose entries are all of one line
    pub record TryableLine (rows changed : List ℕ) (line n : ℕ) : Type 0 where
      pub tryable : Tryable rows n
      pub span : Span t.base t.end
      pub inside : line < size (board_of t.img.now)
      pub changes : length changed ≡ size (board_of t.img.now)
      pub of_line : (k : ℕ) → k < n → line_of k ≡ line

    -- what a part asks of a block, with room for the good words lent
    pub record TryableBlock (rows changed todo : List ℕ) (n : ℕ) : Type 0 where
      pub room : Roomy (board_of t.img.now) rows
      pub number : ℕ
      pub base_is : t.base ≡ 512 * number
      pub span : Span t.base t.end
      pub changes : length changed ≡ size (board_of t.img.now)
      pub wide : size (board_of t.img.now) ≤ length todo
      pub part : Part t.img.now n

  module _ (b : Board) (m n : ℕ) where
    -- the entries of a part, gone on from the patterns below m to those below n
    pub record Gone (old new : List ℕ) : Type 0 where
      pub long : length new ≡ length old
      pub each : (k : ℕ) → k < length old → Goes (test_of b k) m n (get_or old k 0) (get_or new k 0)

    -- the first k entries of a part and a row of the lines that are still to do, after the patterns from m to n
    pub record Tried (k : ℕ) (todo part todo' part' : List ℕ) : Type 0 where
      pub long : length part' ≡ length part
      pub wide : length todo' ≡ length todo
      pub each : (j : ℕ) → j < k → Onward (test_of b j) m n (get_or todo (line_of j) 0) (get_or part j 0) (get_or todo' (line_of j) 0) (get_or part' j 0)

    -- the entries of a line, and whether it is then to do
    pub record TriedLine (line : ℕ) (todo part : List ℕ) (r : Bool) (rows todo' part' : List ℕ) : Type 0 where
      pub tried : Tried (length part) todo part todo' part'
      pub block : Block b m rows
      pub answer : on (get_or todo' line 0) ≡ r
      pub others : (l : ℕ) → (l ≡ line → ⊥) → get_or todo' l 0 ≡ get_or todo l 0

    -- the entries of a part, and whether one of their lines is then to do
    pub record TriedBlock (todo part : List ℕ) (r : Bool) (rows todo' part' : List ℕ) : Type 0 where
      pub tried : Tried (length part) todo part todo' part'
      pub room : Roomy b rows
      pub answer : r ≡ false → (k : ℕ) → k < length part → on (get_or todo' (line_of k) 0) ≡ false

  -- what the search for a part of n entries asks
  pub record Searchable (s : List ℕ) (flat : List Gate) (limit : ℕ) (rows changed todo : List ℕ) (n : ℕ) : Type 0 where
    pub decoded : Flat (board_of s) flat
    pub room : Roomy (board_of s) rows
    pub bounded : limit ≤ 2 ^ most_inputs
    pub changes : length changed ≡ size (board_of s)
    pub wide : size (board_of s) ≤ length todo
    pub part : Part s n

  -- what the whole search asks: as much room as an image's board needs
  pub record Roomed (s : List ℕ) (flat rows changed todo n : ℕ) : Type 0 where
    pub flat_long : flat ≡ line_count s
    pub rows_long : rows ≡ 16 * line_count s + 16
    pub changes : changed ≡ line_count s
    pub wide : line_count s ≤ todo
    pub part : Part s n

  -- what it leaves: an entry that was none of a line that was to do is the smallest pattern below a limit, and one of any other line is as before
  pub record Searched (b : Board) (limit : ℕ) (todo part part' : List ℕ) : Type 0 where
    pub long : length part' ≡ length part
    pub worked : (k : ℕ) → k < length part → on (get_or todo (line_of k) 0) ≡ true → get_or part k 0 ≡ none_mark → get_or part' k 0 ≡ below (test_of b k) limit
    pub kept : (k : ℕ) → k < length part → on (get_or todo (line_of k) 0) ≡ false → get_or part' k 0 ≡ get_or part k 0
