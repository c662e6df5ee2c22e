-- Refusals are tested in their order, and the image and both books are brought up to date.
use Rattle.std.proofs.Common.{Ok, ◌≡◌, ℕ, ◌*◌, ◌<◌, List, length, sym, ◌∙◌, arith, rules}
use Rattle.std.proofs.Math.Option.{Option, none}
use Rattle.std.proofs.lemmas.Result.{err_from_is_err_and}
use Rattle.board.specs.Book.{entries_a_line}
use Rattle.board.specs.declared.Sort.{Sort}
use Rattle.board.specs.declared.Sort.TheVariants.{Lines, Pins}
use Rattle.image.specs.Image.{line_count}
use Rattle.image.specs.Refusals.{first_refusal}
use Rattle.image.specs.Calls.{◌then◌, line_refusals}
use Rattle.image.specs.Inner.{Past, Known}
use Rattle.image.specs.declared.Counts.{Counts}
use Rattle.image.specs.declared.Refusal.{Refusal}
use Rattle.image.specs.declared.Refusal.TheVariants.{Alteration}
use Rattle.image.proofs.Laws.Answer.{after_given, next_given, next_skip, none_both}
use Rattle.image.proofs.Laws.Calls.{line_accepted}
use Rattle.image.proofs.Laws.Fine.{lines_few}
use Rattle.image.proofs.Laws.Promise.{owes_refused, owes_done}
use Rattle.find.specs.Book.{bad_book}
use Rattle.find.proofs.Laws.Calls.{book_long}
use Rattle.alter.specs.Patch.{bad_alteration}
use Rattle.alter.specs.Alter.{Books, both, alter_refusals}
use Rattle.alter.proofs.Laws.Runs.{by_sort}
use Rattle.alter.proofs.alter.Goals as goal

-- the refusals before the pin book's, and before the record's
lines : List ℕ → Books → ℕ → List (Option Refusal)
lines s books line = line_refusals s line then bad_book Lines s (length (books Lines))

before : List ℕ → Books → ℕ → List (Option Refusal)
before s books line = lines s books line then bad_book Pins s (length (books Pins))

-- where none of them applies
known : (s : List ℕ) (books : Books) (line : ℕ) (c : Counts) → Past (before s books line) s (Ok c) →
    (first_refusal (before s books line) ≡ none)
    × Known s c
    × (line < line_count s)
    × ((sort : Sort) → length (books sort) ≡ entries_a_line sort * line_count s)
unfolding lines before
known s books line c (past, counted) =
    let (first, pins-whole) = none_both (lines s books line) (bad_book Pins s (length (books Pins))) past in
    let (named, book-whole) = none_both (line_refusals s line) (bad_book Lines s (length (books Lines))) first in
    let long = by_sort (λ sort. length (books sort) ≡ entries_a_line sort * line_count s) (book_long Lines s _ book-whole) (book_long Pins s _ pins-whole) in
    (past, counted, (line_accepted s line named).1, long)

pub is_unfit-requires : goal.is_unfit-requires
unfolding lines before
is_unfit-requires c =
    let s = c.args.img.now in
    let books = both c.args.book.now c.args.pins.now in
    let line = c.args.line in
    let tested = c.in_ok-counts.ensures (lines s books line) s (c.then_book-tested.ensures (line_refusals s line) s c.check_line.ensures) in
    let (past, counted, inside, long) = known s books line c.in_ok-counts.counts tested in
    (omega (arith, inside, lines_few s counted.ok), counted.ins_are)

pub returns-then-is_unfit : goal.returns-then-is_unfit
unfolding lines before alter_refusals
returns-then-is_unfit c =
    let s = c.args.img.now in
    let books = both c.args.book.now c.args.pins.now in
    let line = c.args.line in
    let tested = c.in_ok-counts.ensures (lines s books line) s (c.then_book-tested.ensures (line_refusals s line) s c.check_line.ensures) in
    owes_refused (next_given (before s books line) tested.0 _ Alteration (sym c.is_unfit.ensures ∙ c.if-is_unfit.true))

pub bring_up-requires : goal.bring_up-requires
unfolding lines before
bring_up-requires c =
    let s = c.args.img.now in
    let books = both c.args.book.now c.args.pins.now in
    let line = c.args.line in
    let tested = c.in_ok-counts.ensures (lines s books line) s (c.then_book-tested.ensures (line_refusals s line) s c.check_line.ensures) in
    let (past, counted, inside, long) = known s books line c.in_ok-counts.counts tested in
    record { known = counted; inside = inside; ten = search rules; fine = sym c.is_unfit.ensures ∙ c.if-is_unfit.false; long = long }

pub returns-in_err-counts : goal.returns-in_err-counts
unfolding lines before alter_refusals
returns-in_err-counts c =
    let s = c.args.img.now in
    let books = both c.args.book.now c.args.pins.now in
    let line = c.args.line in
    let tested = c.in_err-counts.ensures (lines s books line) s (c.then_book-tested.ensures (line_refusals s line) s c.check_line.ensures) in
    let p = err_from_is_err_and c.from_residual.result c.from_residual.ensures.1 in
    rw (p.1, p.2) (owes_refused (after_given (before s books line) (bad_alteration s line c.args.record) tested))

pub returns : goal.returns
unfolding lines before alter_refusals
returns c =
    let s = c.args.img.now in
    let books = both c.args.book.now c.args.pins.now in
    let line = c.args.line in
    let tested = c.in_ok-counts.ensures (lines s books line) s (c.then_book-tested.ensures (line_refusals s line) s c.check_line.ensures) in
    let left = c.bring_up.ensures in
    rw (left.image, left.books_are Lines, left.books_are Pins, left.count)
    (owes_done (next_skip (before s books line) tested.0 _ Alteration (sym c.is_unfit.ensures ∙ c.if-is_unfit.false)))
