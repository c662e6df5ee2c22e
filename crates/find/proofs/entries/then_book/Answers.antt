-- One refusal more, with the test that is its own.
use Rattle.std.proofs.lemmas.Result.{err_from_is_err_and}
use Rattle.image.proofs.Laws.Answer.{after_given}
use Rattle.find.proofs.Laws.Book.{not_a_book}
use Rattle.find.proofs.entries.then_book.Goals as goal

pub returns-in_err-counts : goal.returns-in_err-counts
returns-in_err-counts c =
    λ rs s past.
    let p = err_from_is_err_and c.from_residual.result c.from_residual.ensures.1 in
    rw (p.1, p.2) (after_given rs _ (rw c.in_err-counts.was at past))

pub returns : goal.returns
returns c =
    λ rs s past.
    let known = rw c.in_ok-counts.was at past in
    rw (← known.1.lines_are, ← (not_a_book _ _ _)) (rw c.entries_a_line-each.ensures.0 at (c.refused_if.ensures rs s known))
