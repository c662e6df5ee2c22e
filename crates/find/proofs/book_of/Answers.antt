-- Refusals are tested in their order, and every entry is worked out.
use Rattle.std.proofs.lemmas.Result.{err_from_is_err_and}
use Rattle.image.specs.Refusals.{image_refusals}
use Rattle.image.proofs.Laws.Promise.{owes_refused, owes_done}
use Rattle.find.specs.Book.{book_refusals}
use Rattle.find.proofs.Laws.Calls.{book_accepted}
use Rattle.find.proofs.book_of.Goals as goal

pub invariant_of-fill_book : goal.invariant_of-fill_book
invariant_of-fill_book c = let s = c.args.img.now in record { known = (c.in_ok-counts.ensures (image_refusals s) s c.check_image.ensures).1 }

pub fill_book-requires : goal.fill_book-requires
unfolding book_refusals
fill_book-requires c =
    let s = c.args.img.now in
    book_accepted c.args.sort s c.args.entries.now (c.in_ok-counts.ensures (image_refusals s) s c.check_image.ensures).0

pub returns-in_err-counts : goal.returns-in_err-counts
unfolding book_refusals
returns-in_err-counts c =
    let p = err_from_is_err_and c.from_residual.result c.from_residual.ensures.1 in
    rw (p.1, p.2) (owes_refused (c.in_err-counts.ensures (image_refusals c.args.img.now) c.args.img.now c.check_image.ensures))

pub returns : goal.returns
unfolding book_refusals
returns c =
    let s = c.args.img.now in
    let (past, known) = c.in_ok-counts.ensures (image_refusals s) s c.check_image.ensures in
    rw (c.fill_book.ensures.0, c.fill_book.ensures.1) (owes_done past)
