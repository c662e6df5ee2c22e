-- One refusal more, with the test that is its own.
use Rattle.std.proofs.lemmas.Result.{err_from_is_err_and}
use Rattle.image.proofs.Laws.Answer.{after_given}
use Rattle.rows.proofs.prefix.then_before.Goals as goal

pub returns-in_err-counts : goal.returns-in_err-counts
returns-in_err-counts c = λ rs s past.
    let p = err_from_is_err_and c.from_residual.result c.from_residual.ensures.1 in
    rw (p.1, p.2) (after_given rs _ (rw c.in_err-counts.was at past))
