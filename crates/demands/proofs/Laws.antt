-- What the front page cites beside the laws of the calls.
use mathlib.Core.Path.{◌≡◌, refl, sym, ap, ◌∙◌}
use mathlib.Core.Logic.{⊎_elim}
use mathlib.Core.Option.{Option, none}
use mathlib.Core.List.{List, [], ◌∷◌}
use mathlib.Core.Bool.{true, false}
use Prim.Native.Nat.{ℕ, ◌+◌, ◌*◌, ◌/◌, ◌%◌, ◌^◌, ◌<◌}
use native.Mathlib.Omega.{arith}
use lib.Dec.{eqb}
use lib.ListN.{length, get_or}
use borrow.Author.Tests.{eq-eqb, ne_eqb}
use Rattle.board.specs.Limits.{none_mark}
use Rattle.board.specs.Lists.{build}
use Rattle.board.specs.Board.{Board, inputs, altered}
use Rattle.board.specs.Gate.{absent}
use Rattle.board.specs.Test.{differs, shows, find}
use Rattle.board.specs.Book.{entries_a_line, fault_at, entry, answer_in, found, renewed, Right}
use Rattle.board.specs.declared.Fault.{Fault}
use Rattle.board.specs.declared.Fault.TheVariants.{Line, Pin}
use Rattle.board.specs.declared.Sort.{Sort}
use Rattle.board.specs.declared.Sort.TheVariants.{Lines, Pins}
use Rattle.board.specs.declared.Condition.{Condition}
use Rattle.board.specs.declared.Condition.TheVariants.{Having}
use Rattle.board.proofs.Lists.{way, clash, where_passes, passes_somewhere, build-length, build_at}
use Rattle.board.proofs.Search.{first_is_smallest, smallest_one}
use Rattle.board.proofs.Absent.{absent_none}
use Rattle.board.proofs.Alter.{entry_stands, stands_entry, fresh_right}
use Rattle.image.specs.Image.{line_count, record_at, board_of}
use Rattle.image.specs.Refusals.{image_refusals, first_refusal, Accepted}
use Rattle.image.specs.Promise.{numbers, Promise, Owes}
use Rattle.image.specs.Calls.{fault_refusals}
use Rattle.image.proofs.Laws.Answer.{none_both}
use Rattle.image.proofs.Laws.Fine.{accepted_fine}
use Rattle.image.proofs.Laws.Promise.{number_over, done_leaves, done_says}
use Rattle.find.specs.Find.{pattern_of, find_promise}
use Rattle.find.specs.Book.{bad_book, book_refusals, book_of, book_promise}
use Rattle.alter.specs.Alter.{Books, brought_up, alter_refusals, alter_promise, Calls, done, next}
use Rattle.alter.proofs.Laws.Runs.{Whole, alter_accepted, patches, alter_keeps}
use Rattle.alter.proofs.Laws.Board.{board_is}
use Rattle.demands.specs.Demands.{TurnsAway, DifferSomewhere, SmallestTest, Has, entry_of, WholeBook, shown_in, BroughtUp}

-- whatever is owed turns away as demand 1 says
pub turned_away : {p : Promise} {left : List (List ℕ)} {said : List ℕ} → Owes p left said → TurnsAway p left said
turned_away {p} {left} {said} owes = record {
  by_number = λ r e. let is : said ≡ numbers r = rw e at owes.answers in (is, rw is (number_over r));
  unchanged = λ r e. rw e at owes.leaves;
  else_0 = λ e. rw (done_says owes e);
}

-- two rows differ at an output, or the pattern does not show the fault
pub shows_differ : (b : Board) (φ : Condition) (x : ℕ) → shows b φ x ≡ true → DifferSomewhere b φ x
unfolding shows differs
shows_differ b φ x e = let (o, m, d) = where_passes (differs b φ x) b.outs e in (o, m, λ same. clash (differs b φ x o) d (rw (eq-eqb _ _ same)))

pub differ_shows : (b : Board) (φ : Condition) (x : ℕ) → DifferSomewhere b φ x → shows b φ x ≡ true
unfolding shows differs
differ_shows b φ x (o, m, ne) = passes_somewhere (differs b φ x) b.outs o m (rw (ne_eqb _ _ ne))

-- what a search from pattern 0 up gives is the smallest test
find_smallest : (s : List ℕ) (φ : Fault) → SmallestTest s φ (find (board_of s) (Having φ))
unfolding find
find_smallest s φ = first_is_smallest (shows (board_of s) (Having φ)) (2 ^ inputs (board_of s))

pub found_smallest : (s : List ℕ) (φ : Fault) (said : List ℕ) → Owes (find_promise s φ) [] said → first_refusal (fault_refusals s φ) ≡ none
    → (o : Option ℕ) × (said ≡ 0 ∷ pattern_of o) × SmallestTest s φ o
found_smallest s φ said owes e = (find (board_of s) (Having φ), done_says owes e, find_smallest s φ)

-- an entry's fault, and a fault's entry
entry_fault : (sort : Sort) (s : List ℕ) (φ : Fault) → Has sort s φ → (entry_of φ < entries_a_line sort * line_count s) × (fault_at sort (entry_of φ) ≡ Having φ)
entry_fault Lines s (Line line stuck) (inside, held) =
    let l : (2 * line + stuck) / 2 ≡ line = omega arith in
    let v : (2 * line + stuck) % 2 ≡ stuck = omega arith in
    (omega arith, rw (l, v))
entry_fault Pins s (Pin line pin stuck) (inside, four, held) =
    let l : (8 * line + 2 * pin + stuck) / 8 ≡ line = omega arith in
    let p : (8 * line + 2 * pin + stuck) % 8 / 2 ≡ pin = omega arith in
    let v : (8 * line + 2 * pin + stuck) % 2 ≡ stuck = omega arith in
    (omega arith, rw (l, p, v))
entry_fault Lines s (Pin line pin stuck) has = absurd has
entry_fault Pins s (Line line stuck) has = absurd has

fault_entry : (sort : Sort) (s : List ℕ) (k : ℕ) → k < entries_a_line sort * line_count s → (φ : Fault) × Has sort s φ × (entry_of φ ≡ k) × (fault_at sort k ≡ Having φ)
fault_entry Lines s k l = (Line (k / 2) (k % 2), (omega arith, omega arith), omega arith, refl)
fault_entry Pins s k l = (Pin (k / 8) (k % 8 / 2) (k % 2), (omega arith, omega arith, omega arith), omega arith, refl)

-- a book of an accepted image is whole exactly when it has its numbers a line and is right
right_whole : (sort : Sort) (s book : List ℕ) → Accepted s → length book ≡ entries_a_line sort * line_count s → Right sort (board_of s) book → WholeBook sort s book
right_whole sort s book ok long right = record {
  long = long;
  entries =
      λ φ has.
      let (inside, fault) = entry_fault sort s φ has in
      rw (right (entry_of φ) (rw long inside), fault, entry_stands (board_of s) (accepted_fine s ok) (Having φ)) (find_smallest s φ);
}

-- the number of a fault's entry in a whole book
whole_entry : (sort : Sort) (s book : List ℕ) → WholeBook sort s book → (φ : Fault) → Has sort s φ → get_or book (entry_of φ) 0 ≡ entry (find (board_of s) (Having φ))
whole_entry sort s book whole φ has =
    let e = get_or book (entry_of φ) 0 in
    let b = board_of s in
    sym (stands_entry e) ∙ ap entry (smallest_one (shows b (Having φ)) (2 ^ inputs b) (answer_in e) (find b (Having φ)) (whole.entries φ has) (find_smallest s φ))

whole_right : (sort : Sort) (s book : List ℕ) → WholeBook sort s book → Right sort (board_of s) book
whole_right sort s book whole k l =
    let (φ, has, place, fault) = fault_entry sort s k (rw whole.long at l) in
    rw fault (rw place at (whole_entry sort s book whole φ has))

-- an absent pin's entry is none
pub absent-entry : (sort : Sort) (s book : List ℕ) → WholeBook sort s book → (φ : Fault) → Has sort s φ → absent (board_of s) (Having φ) ≡ true
    → get_or book (entry_of φ) 0 ≡ none_mark
absent-entry sort s book whole φ has none-there = whole_entry sort s book whole φ has ∙ ap entry (absent_none (board_of s) (Having φ) none-there)

-- the count of entries that are not none is that of the patterns
counts_shown : (book : List ℕ) → found book ≡ shown_in book
counts_shown [] = refl
counts_shown (e ∷ es) =
    ⊎_elim
    (λ (t : eqb e none_mark ≡ true). rw t (omega (arith, counts_shown es)))
    (λ (t : eqb e none_mark ≡ false). rw t (omega (arith, counts_shown es)))
    (way (eqb e none_mark))

-- a book as the call fills it is whole, and its count is that of its patterns
pub filled_whole : (sort : Sort) (s old after said : List ℕ) → Owes (book_promise sort s old) (after ∷ []) said → first_refusal (book_refusals sort s old) ≡ none
    → Accepted s × WholeBook sort s after × (said ≡ 0 ∷ shown_in after ∷ [])
unfolding book_refusals book_of
filled_whole sort s old after said owes e =
    let ok = (none_both (image_refusals s) (bad_book sort s (length old)) e).0 in
    let left = done_leaves owes e in
    let is : after ≡ book_of sort s = cc in
    let answers : ℕ → List ℕ → ℕ = λ k before. entry (find (board_of s) (fault_at sort k)) in
    let size = entries_a_line sort * line_count s in
    let whole = right_whole sort s (book_of sort s) ok (build-length answers size) (fresh_right sort (board_of s) size) in
    (ok, rw is whole, done_says owes e ∙ rw (is, counts_shown (book_of sort s)))

-- an accepted alteration brings every entry up to date
pub brought_up_lem : (s : List ℕ) (books : Books) (line : ℕ) (new t : List ℕ) (later : Books) (said : List ℕ) → length new ≡ 10
    → Owes (alter_promise s books line new) (t ∷ later Lines ∷ later Pins ∷ []) said → first_refusal (alter_refusals s books line new) ≡ none
    → BroughtUp s t line new books later × (said ≡ 0 ∷ (shown_in (later Lines) + shown_in (later Pins)) ∷ [])
unfolding brought_up renewed
brought_up_lem s books line new t later said ten owes e =
    let b = board_of s in
    let a = record_at new 0 in
    let known = alter_accepted s books line new e in
    let (put, up) = patches s books line new later ten owes e in
    let board : board_of t ≡ altered b line a = ap board_of put ∙ board_is s line new ten known.ok known.inside known.fits in
    let entries : Sort → ℕ → List ℕ → ℕ = λ sort k before. renewed b line a (fault_at sort k) (get_or (books sort) k 0) in
    let is : (sort : Sort) → later sort ≡ build (entries sort) (length (books sort)) = up in (
      record {
        image = put;
        long = λ sort. rw (is sort) (build-length (entries sort) (length (books sort)));
        fresh = λ sort k l yes. rw (is sort, board) (build_at (entries sort) (length (books sort)) k l ∙ rw yes);
        kept = λ sort k l no. rw (is sort) (build_at (entries sort) (length (books sort)) k l ∙ rw no);
      },
      done_says owes e ∙ rw (up Lines, up Pins, counts_shown (brought_up s books line new Lines), counts_shown (brought_up s books line new Pins)),
    )

-- through any run of calls an accepted image stays accepted, and its whole books whole
pub stays_whole : {s t : List ℕ} {books last : Books} → Calls s books t last → Accepted s → ((sort : Sort) → WholeBook sort s (books sort))
    → Accepted t × ((sort : Sort) → WholeBook sort t (last sort))
stays_whole done ok whole = (ok, whole)
stays_whole (next {s} {t} {u} {said} {books} {later} line new ten one more) ok whole =
    let right : Whole s books = record { ok = ok; long = λ sort. (whole sort).long; right = λ sort. whole_right sort s (books sort) (whole sort) } in
    let kept = alter_keeps s books line new later ten one right in
    stays_whole more kept.ok (λ sort. right_whole sort t (later sort) kept.ok (kept.long sort) (kept.right sort))
