-- What follows the first line of the text that the program `book` writes, for either book: each line by its place, how many there
-- are, and how many pins a board's lines use.
use mathlib.Core.Path.{◌≡◌, refl, sym, ap, ◌∙◌}
use mathlib.Core.Option.{some}
use mathlib.Core.List.{List, [], ◌∷◌, ◌++◌}
use Prim.Native.Nat.{ℕ, zero, suc, ◌+◌, ◌-◌, ◌*◌, ◌≤◌, ◌<◌}
use native.Mathlib.Numerals.{add-one}
use native.Mathlib.Omega.{arith}
use Rattle.std.specs.Prelude.{Some, None}
use lib.ListN.{length, get_or, drop, length-append}
use lib.Seq.{take_at, get_or_at, drop-cons, drop-length}
use Rattle.board.specs.Limits.{most_lines}
use Rattle.board.specs.Board.{Board, record_of}
use Rattle.board.specs.Book.{entries_a_line, found}
use Rattle.board.specs.declared.Sort.{Sort}
use Rattle.board.specs.declared.Sort.TheVariants.{Lines, Pins}
use Rattle.board.proofs.Lists.{build-length}
use Rattle.image.specs.Image.{line_count, board_of}
use Rattle.image.specs.Refusals.{image_refusals, first_refusal, Accepted}
use Rattle.image.specs.declared.Refusal.{Refusal}
use Rattle.find.specs.Book.{book_of}
use Rattle.report.specs.Book.{total_text, pins_of, faults_of, entry_line, entry_lines, book_lines, RestOf}

-- at most eight entries a line
pub entries_few : (sort : Sort) (n : ℕ) → n ≤ most_lines → entries_a_line sort * n ≤ 8 * most_lines
entries_few Lines n few = omega arith
entries_few Pins n few = omega arith

module _ (sort : Sort) where
  lines_length : (b : Board) (j : ℕ) (book : List ℕ) → length (entry_lines sort b j book) ≡ length book
  lines_length b j [] = refl
  lines_length b j (e ∷ es) = ap suc (lines_length b (suc j) es)

  line_at : (b : Board) (j k : ℕ) (book : List ℕ) (more : List (List ℕ)) → k < length book
      → get_or (entry_lines sort b j book ++ more) k [] ≡ entry_line sort b (j + k) (get_or book k 0)
  line_at b j k [] more l = absurd (omega arith)
  line_at b j zero (e ∷ es) more l = let same : j + 0 ≡ j = omega arith in rw same
  line_at b j (suc k) (e ∷ es) more l = let same : j + suc k ≡ suc j + k = omega arith in rw same (line_at b (suc j) k es more (omega arith))

  module _ (s : List ℕ) where
    pub book_length : length (book_of sort s) ≡ entries_a_line sort * line_count s
    unfolding book_of
    book_length = build-length _ (entries_a_line sort * line_count s)

    pub entry_at : (k : ℕ) → k < length (book_of sort s) → get_or (book_lines sort s) k [] ≡ entry_line sort (board_of s) k (get_or (book_of sort s) k 0)
    entry_at k l = let same : 0 + k ≡ k = omega arith in line_at (board_of s) 0 k (book_of sort s) _ l ∙ rw same

    pub total_at : get_or (book_lines sort s) (length (book_of sort s)) [] ≡ total_text sort (found (book_of sort s)) (faults_of sort (board_of s))
    total_at = get_or_at (entry_lines sort (board_of s) 0 (book_of sort s)) _ [] [] (length (book_of sort s)) (lines_length (board_of s) 0 (book_of sort s))

    -- no line follows a refusal
    pub nothing_after : (room : List ℕ) {r : Refusal} → first_refusal (image_refusals s) ≡ some r → RestOf sort s room None
    nothing_after room e = rw e

    -- and the whole book where there is none: a line for each entry, and the total
    pub book_after : (front more : List ℕ) (entries n all : ℕ) → Accepted s → entries ≡ entries_a_line sort * line_count s → front ≡ book_of sort s
        → n ≡ found (book_of sort s) → all ≡ faults_of sort (board_of s) → RestOf sort s (front ++ more) (Some (record { lines = entries + 1; found = n; faults = all }))
    book_after front more entries n all ok e is count every =
        let long : length front ≡ entries = rw is (book_length ∙ sym e) in
        let same : entries + 1 - 1 ≡ entries = omega arith in
        record {
          many = rw (ok, length-append, lines_length (board_of s) 0 (book_of sort s), book_length, e);
          some = omega arith;
          inside = simp length-append (omega arith);
          filled = record { ok = ok; is = rw same (take_at front more entries long ∙ is); counted = count; of_all = every };
        }

-- the pins that are used by the lines from i on, one line more at a time
module _ (b : Board) (i used : ℕ) (before : used + pins_of (drop i b.lines) ≡ pins_of b.lines) where
  pub used_more : (n : ℕ) → i < length b.lines → n ≡ length (record_of b i).pins → used + n + pins_of (drop (i + 1) b.lines) ≡ pins_of b.lines
  used_more n l is = rw (add-one i) (omega (arith, is, rw (drop-cons b.lines i (record { kind = 0; pins = [] }) l) at before))

  pub used_all : i ≡ length b.lines → used ≡ pins_of b.lines
  used_all e = omega (arith, rw (e, drop-length b.lines) at before)
