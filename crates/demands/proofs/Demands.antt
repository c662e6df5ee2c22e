-- The front page: the three demands, of the calls that the bench can ask, and what is asked of drawings. Each call is proved to owe what it promises (and the language sees
-- to it that it ends), so what follows from the promise holds of the call, for any bytes and numbers that come in.
use mathlib.Core.Path.{◌≡◌}
use mathlib.Core.Option.{Option, none}
use mathlib.Core.List.{List, [], ◌∷◌}
use mathlib.Core.Bool.{true}
use Prim.Native.Nat.{ℕ, ◌+◌, ◌≤◌}
use lib.ListN.{length, get_or, take}
use Rattle.board.specs.Limits.{none_mark}
use Rattle.board.specs.Board.{Board}
use Rattle.board.specs.Gate.{absent}
use Rattle.board.specs.Test.{shows}
use Rattle.board.specs.declared.Fault.{Fault}
use Rattle.board.specs.declared.Sort.{Sort}
use Rattle.board.specs.declared.Sort.TheVariants.{Lines, Pins}
use Rattle.board.specs.declared.Condition.{Condition}
use Rattle.board.specs.declared.Condition.TheVariants.{Having}
use Rattle.image.specs.Image.{board_of}
use Rattle.image.specs.Refusals.{first_refusal, Accepted}
use Rattle.std.specs.Prelude.{Result}
use Rattle.image.specs.Promise.{Promise, Owes}
use Rattle.image.specs.declared.Refusal.{Refusal}
use Rattle.image.specs.Calls.{fault_refusals}
use Rattle.find.specs.Find.{pattern_of, find_promise}
use Rattle.find.specs.Book.{book_refusals, book_promise}
use Rattle.alter.specs.Alter.{Books, both, alter_refusals, alter_promise, Calls}
use Rattle.alter.proofs.Laws.Runs.{by_sort}
use Rattle.drawing.specs.Form.{Departs}
use Rattle.drawing.specs.Image.{without_note, AllBytes}
use Rattle.drawing.specs.Calls.{made_says, in_front, ByReading, read_promise, write_promise}
use Rattle.drawing.proofs.Laws.Settled.{departs_one}
use Rattle.drawing.proofs.Calls.{read_pinned, write_read, read_write}
use Rattle.demands.specs.Demands.{Call, TurnsAway, DifferSomewhere, SmallestTest, Has, entry_of, WholeBook, shown_in, BroughtUp}
use Rattle.demands.proofs.Laws.{turned_away, shows_differ, differ_shows, found_smallest, filled_whole, absent-entry, brought_up_lem, stays_whole}

-- Demand 1. Any bytes may come in. A bad board, line, stuck value, pin, pattern, buffer, alteration or drawing is turned away by its own number, just
-- when the papers say, and then nothing that was lent is changed.

pub turns_away : {p : Promise} → Call p → {left : List (List ℕ)} {said : List ℕ} → Owes p left said → TurnsAway p left said
turns_away call owes = turned_away owes

-- Demand 2. A pattern shows a fault when the good board and the faulty one differ at some output. Find gives the smallest such pattern, and
-- "none" exactly when no pattern of the board's inputs shows it. Filling the book writes that answer for every line at 0 and at 1, and filling the
-- pin book for every pin at 0 and at 1, none in an absent pin's entries.

pub shows_means : (b : Board) (φ : Condition) (x : ℕ) → (shows b φ x ≡ true → DifferSomewhere b φ x) × (DifferSomewhere b φ x → shows b φ x ≡ true)
shows_means b φ x = (shows_differ b φ x, differ_shows b φ x)

pub find_right : (s : List ℕ) (φ : Fault) (said : List ℕ) → Owes (find_promise s φ) [] said → first_refusal (fault_refusals s φ) ≡ none
    → (o : Option ℕ) × (said ≡ 0 ∷ pattern_of o) × SmallestTest s φ o
find_right s φ said owes e = found_smallest s φ said owes e

pub book_right : (sort : Sort) (s old after said : List ℕ) → Owes (book_promise sort s old) (after ∷ []) said → first_refusal (book_refusals sort s old) ≡ none
    → WholeBook sort s after × (said ≡ 0 ∷ shown_in after ∷ [])
book_right sort s old after said owes e = let (ok, whole, counted) = filled_whole sort s old after said owes e in (whole, counted)

pub absent_is_none : (sort : Sort) (s book : List ℕ) → WholeBook sort s book → (φ : Fault) → Has sort s φ → absent (board_of s) (Having φ) ≡ true
    → get_or book (entry_of φ) 0 ≡ none_mark
absent_is_none = absent-entry

-- Demand 3. When one gate is altered both books are brought up to date: entries of faults whose line reaches an output that the altered line
-- also reaches, before or after the alteration, get the answer worked out afresh; every other entry keeps exactly what it held, even if that
-- was wrong. So two books that were right are right for the altered board, through any run of alterations, accepted or turned away.

pub alter_brings_up : (s : List ℕ) (books : Books) (line : ℕ) (new t : List ℕ) (later : Books) (said : List ℕ) → length new ≡ 10
    → Owes (alter_promise s books line new) (t ∷ later Lines ∷ later Pins ∷ []) said → first_refusal (alter_refusals s books line new) ≡ none
    → BroughtUp s t line new books later × (said ≡ 0 ∷ (shown_in (later Lines) + shown_in (later Pins)) ∷ [])
alter_brings_up s books line new t later said ten owes e = brought_up_lem s books line new t later said ten owes e

pub stays_right : {s t : List ℕ} {books last : Books} → Calls s books t last → Accepted s → ((sort : Sort) → WholeBook sort s (books sort))
    → Accepted t × ((sort : Sort) → WholeBook sort t (last sort))
stays_right = stays_whole

-- so two books that were filled once are whole and right ever after
pub right_ever_after : {s old book said old_pins pins heard t : List ℕ} {last : Books} → Owes (book_promise Lines s old) (book ∷ []) said
    → first_refusal (book_refusals Lines s old) ≡ none → Owes (book_promise Pins s old_pins) (pins ∷ []) heard → first_refusal (book_refusals Pins s old_pins) ≡ none
    → Calls s (both book pins) t last → Accepted t × ((sort : Sort) → WholeBook sort t (last sort))
right_ever_after {s} {old} {book} {said} {old_pins} {pins} {heard} owes e owed f run =
    let (ok, lines-whole, counted) = filled_whole Lines s old book said owes e in
    let (accepted, pins-whole, numbered) = filled_whole Pins s old_pins pins heard owed f in
    stays_right run ok (by_sort (λ sort. WholeBook sort s (both book pins sort)) lines-whole pins-whole)

-- Drawings. A text that departs from the form is refused with the length of the longest beginning that some text of the form shares, which is
-- one number; so the reader's outcome is settled, as every call's. Reading what was written gives the same image without its note, and
-- writing what was read gives the same text.

pub departs_at_one_place : (t : List ℕ) (n m : ℕ) → Departs t n → Departs t m → n ≡ m
departs_at_one_place = departs_one

pub reading_settled : (t target : List ℕ) (a b : Result ℕ Refusal) (left later : List (List ℕ)) → ByReading t (λ is. Owes (read_promise is target) left (made_says a))
    → ByReading t (λ is. Owes (read_promise is target) later (made_says b)) → (a ≡ b) × (left ≡ later)
reading_settled = read_pinned

pub written_read : (s target after : List ℕ) (n : ℕ) → AllBytes s → Owes (write_promise s target) (after ∷ []) (0 ∷ n ∷ [])
    → (room left said : List ℕ) → length (without_note s) ≤ length room → ByReading (take n after) (λ is. Owes (read_promise is room) (left ∷ []) said)
    → (left ≡ in_front (without_note s) room) × (said ≡ 0 ∷ length (without_note s) ∷ [])
written_read = write_read

pub read_written : (t room after : List ℕ) (n : ℕ) → ByReading t (λ is. Owes (read_promise is room) (after ∷ []) (0 ∷ n ∷ []))
    → (target left said : List ℕ) → length t ≤ length target → Owes (write_promise (take n after) target) (left ∷ []) said
    → (left ≡ in_front t target) × (said ≡ 0 ∷ length t ∷ [])
read_written = read_write
