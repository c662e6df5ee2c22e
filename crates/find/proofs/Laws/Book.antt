-- A book that is renewed entry by entry: one entry more, counted as it is written, and the whole; a whole book's entries are faults of the board.
use mathlib.Core.Path.{◌≡◌, refl, sym, ap, ◌∙◌}
use mathlib.Core.Logic.{⊎_elim}
use mathlib.Core.Option.{none, some}
use mathlib.Core.List.{List, [], ◌∷◌}
use mathlib.Core.Bool.{Bool, true, false, not, cond, ◌||◌}
use Rattle.std.specs.List.{count_by}
use Rattle.std.proofs.lemmas.List.Recursion.{is_count_by}
use Prim.Native.Nat.{ℕ, zero, suc, ◌+◌, ◌*◌, ◌/◌, ◌%◌, ◌^◌, ◌≤◌, ◌<◌}
use native.Mathlib.Nat.{le_refl, le_trans, le_of_eq, zero-add, add-zero}
use native.Mathlib.Omega.{arith}
use lib.Dec.{eqb}
use lib.ListN.{length, get_or}
use lib.Seq.{ext_get_or}
use borrow.Author.Tests.{eqb-true, eqb-false, eq-eqb, ne_eqb, le-leb}
use Rattle.board.specs.Lists.{somewhere, bit, on}
use Rattle.board.specs.Limits.{most_lines, none_mark}
use Rattle.board.specs.Board.{Board, inputs}
use Rattle.board.specs.Gate.{site}
use Rattle.board.specs.Fine.{Fine}
use Rattle.board.specs.Test.{find}
use Rattle.board.specs.Book.{entries_a_line, fault_at, entry, answer_in, found}
use Rattle.board.specs.declared.Condition.{Condition}
use Rattle.board.specs.declared.Fault.TheVariants.{Pin}
use Rattle.board.specs.declared.Condition.TheVariants.{Having}
use Rattle.board.specs.declared.Sort.{Sort}
use Rattle.board.specs.declared.Sort.TheVariants.{Lines, Pins}
use Rattle.board.proofs.Lists.{way, or_false, build-length, build_at, build-same}
use Rattle.board.proofs.Absent.{absent_none}
use Rattle.board.proofs.Alter.{entry_stands}
use Rattle.image.specs.Image.{line_count, board_of}
use Rattle.image.specs.Refusals.{Accepted}
use Rattle.image.specs.Inner.{OnBoard}
use Rattle.image.proofs.Laws.Fine.{four_used, lines_few}
use Rattle.image.proofs.Laws.Records.{bit_below}
use Rattle.find.specs.Inner.{start_at, reworked_entry, reworked, Cleared, Renewed, Part, Searched}
use Rattle.find.specs.Book.{book_of}

-- the entries that are not none, as they are counted
pub found_counted : (book : List ℕ) → found book ≡ count_by (λ e. not (eqb e none_mark)) book
found_counted = is_count_by found (λ e. not (eqb e none_mark)) refl (λ e es. counted (eqb e none_mark) (found es))
  where
    counted : (t : Bool) (n : ℕ) → bit (not t) + n ≡ cond (not t) (1 + n) n
    counted true n = zero-add n
    counted false n = refl

-- n numbers are not so many a line: some are left over, or there are not as many shares as lines
not_so_many : (each n lines : ℕ) → (n ≡ each * lines → (n % each ≡ 0) × (n / each ≡ lines)) → (n % each ≡ 0 → n / each ≡ lines → n ≡ each * lines)
    → (not (eqb (n % each) 0) || not (eqb (n / each) lines)) ≡ not (eqb n (each * lines))
not_so_many each n lines there back =
    ⊎_elim
    (λ (e : eqb n (each * lines) ≡ true).
    let (whole, shares) = there (eqb-true n (each * lines) e) in
    rw (e, eq-eqb (n % each) 0 whole, eq-eqb (n / each) lines shares))
    (λ (e : eqb n (each * lines) ≡ false).
    ⊎_elim
    (λ (o : eqb (n % each) 0 ≡ true).
    rw (e, o, ne_eqb (n / each) lines (λ q. eqb-false n (each * lines) e (back (eqb-true (n % each) 0 o) q))))
    (λ (o : eqb (n % each) 0 ≡ false). rw (e, o))
    (way (eqb (n % each) 0)))
    (way (eqb n (each * lines)))

-- as a lent book is tested
pub not_a_book : (sort : Sort) (n lines : ℕ) → let each = entries_a_line sort in
    (not (eqb (n % each) 0) || not (eqb (n / each) lines)) ≡ not (eqb n (each * lines))
not_a_book Lines n lines = not_so_many 2 n lines (λ e. (omega arith, omega arith)) (λ whole shares. omega arith)
not_a_book Pins n lines = not_so_many 8 n lines (λ e. (omega arith, omega arith)) (λ whole shares. omega arith)

-- each entry of a book has a fault of the board
pub on_lines : (sort : Sort) (s : List ℕ) (n k : ℕ) → n ≡ entries_a_line sort * line_count s → k < n → OnBoard s (fault_at sort k)
on_lines Lines s n k e l = record { inside = omega arith; held = omega arith }
on_lines Pins s n k e l = record { inside = omega arith; held = omega arith }

-- where every line is marked, a reworked book is a fresh one
pub all_reworked : (sort : Sort) (s book : List ℕ) → Accepted s → length book ≡ entries_a_line sort * line_count s → (every : List ℕ)
    → ((l : ℕ) → l < most_lines → get_or every l 0 ≡ 1) → reworked sort (board_of s) every book ≡ book_of sort s
unfolding reworked_entry book_of
all_reworked sort s book ok long every marked =
    rw long (build-same _ _ (entries_a_line sort * line_count s) (λ k done l.
    let inside = (on_lines sort s (entries_a_line sort * line_count s) k refl l).inside in
    rw (marked (site (fault_at sort k)) (omega (arith, inside, lines_few s ok)))))

-- where no line is marked, a reworked book is the old one
unmarked_at : (marks : List ℕ) → somewhere on marks ≡ false → (l : ℕ) → on (get_or marks l 0) ≡ false
unmarked_at [] e l = refl
unmarked_at (m ∷ ms) e zero = (or_false (on m) (somewhere on ms) e).0
unmarked_at (m ∷ ms) e (suc l) = unmarked_at ms (or_false (on m) (somewhere on ms) e).1 l

pub none_reworked : (sort : Sort) (s marks old : List ℕ) → somewhere on marks ≡ false → Renewed sort s marks old (found old) old
unfolding reworked_entry
none_reworked sort s marks old e =
    let new : ℕ → List ℕ → ℕ = λ k done. reworked_entry sort (board_of s) marks old k in
    let same : old ≡ reworked sort (board_of s) marks old =
    sym (ext_get_or 0 (reworked sort (board_of s) marks old) old (build-length new (length old)) (λ k l.
    build_at new (length old) k (rw (build-length new (length old)) at l) ∙ rw (unmarked_at marks e (site (fault_at sort k))))) in
    record { book = same; count = ap found same }

-- no more entries are counted than there are, in a renewal either
found_few : (book : List ℕ) → found book ≤ length book
found_few [] = omega arith
found_few (e ∷ es) = omega (arith, found_few es, bit_below (not (eqb e none_mark)))

pub renewed_few : (sort : Sort) {s marks old after : List ℕ} {r : ℕ} → Renewed sort s marks old r after → r ≤ length old
renewed_few sort {s} {marks} {old} left =
    let few = found_few (reworked sort (board_of s) marks old) in
    rw left.count (le_trans few (le_of_eq (build-length (λ k done. reworked_entry sort (board_of s) marks old k) (length old))))

-- no gate has a fifth pin
pub fifth_absent : (b : Board) → Fine b → (l p s : ℕ) → l < length b.lines → 4 ≤ p → find b (Having (Pin l p s)) ≡ none
fifth_absent b fine l p s inside past =
    absent_none b (Having (Pin l p s)) (le-leb _ p (le_trans (four_used fine l inside) past))

-- the answer that an entry stands for
module _ (b : Board) (fine : Fine b) (φ : Condition) (e : ℕ) (is : e ≡ entry (find b φ)) where
  pub none_found : e ≡ none_mark → none ≡ find b φ
  none_found marked = rw (eq-eqb e none_mark marked) at (ap answer_in is ∙ entry_stands b fine φ)

  pub one_found : (e ≡ none_mark → ⊥) → some e ≡ find b φ
  one_found other = rw (ne_eqb e none_mark other) at (ap answer_in is ∙ entry_stands b fine φ)

-- a part of one entry
pub one-part : (sort : Sort) (s : List ℕ) (k : ℕ) → Accepted s → OnBoard s (fault_at sort k) → Part (start_at sort k) s 1
one-part sort s k ok fault =
    record { short = small sort fault; faults = λ i l. let none : i ≡ 0 = omega arith in rw (none, add-zero) fault }
  where
    small : (sort : Sort) → OnBoard s (fault_at sort k) → k + 1 ≤ 65536
    small Lines h = omega (arith, h.inside, lines_few s ok)
    small Pins h = omega (arith, h.inside, lines_few s ok)

-- a search for one entry, and for the marked entries of a book
pub searched_one : (sort : Sort) (b : Board) (k : ℕ) (todo part after : List ℕ) → Searched (start_at sort k) b (2 ^ inputs b) todo part after → 0 < length part
    → get_or part 0 0 ≡ none_mark → on (get_or todo (site (fault_at sort k)) 0) ≡ true → get_or after 0 0 ≡ entry (find b (fault_at sort k))
unfolding find
searched_one sort b k todo part after done some-entry blank marked =
    rw add-zero at (done.worked 0 some-entry (rw add-zero marked) blank)

few_entries : (sort : Sort) (s : List ℕ) (n : ℕ) → Accepted s → ((k : ℕ) → k < n → OnBoard s (fault_at sort k)) → n ≤ 8 * most_lines
few_entries sort s zero ok faults = omega arith
few_entries Lines s (suc n) ok faults = omega (arith, (faults n (le_refl (suc n))).inside, lines_few s ok)
few_entries Pins s (suc n) ok faults = omega (arith, (faults n (le_refl (suc n))).inside, lines_few s ok)

pub whole_part : (sort : Sort) (s : List ℕ) (n : ℕ) → Accepted s → ((k : ℕ) → k < n → OnBoard s (fault_at sort k)) → Part (start_at sort 0) s n
whole_part sort s n ok faults = record { short = omega (arith, few_entries sort s n ok faults); faults = λ k l. rw zero-add (faults k l) }

pub searched_renewed : (sort : Sort) (s marks old blank after : List ℕ) → Accepted s → ((k : ℕ) → k < length old → OnBoard s (fault_at sort k))
    → Cleared sort marks old blank → Searched (start_at sort 0) (board_of s) (2 ^ inputs (board_of s)) marks blank after → after ≡ reworked sort (board_of s) marks old
unfolding reworked_entry find
searched_renewed sort s marks old blank after ok faults cleared done =
    let new : ℕ → List ℕ → ℕ = λ k before. reworked_entry sort (board_of s) marks old k in
    let long : length after ≡ length old = done.long ∙ cleared.long in
    ext_get_or 0 after (reworked sort (board_of s) marks old) (long ∙ sym (build-length new (length old))) (λ k l.
    let inside : k < length old = omega (arith, long) in
    let here : k < length blank = omega (arith, cleared.long) in
    let line = site (fault_at sort k) in
    let is : get_or after k 0 ≡ reworked_entry sort (board_of s) marks old k =
    ⊎_elim
    (λ (e : on (get_or marks line 0) ≡ true).
    rw e (rw zero-add at (done.worked k here (rw zero-add e) (rw e at (cleared.each k inside)))))
    (λ (e : on (get_or marks line 0) ≡ false). rw e (done.kept k here (rw zero-add e) ∙ (rw e at (cleared.each k inside))))
    (way (on (get_or marks line 0))) in
    is ∙ sym (build_at new (length old) k inside))
