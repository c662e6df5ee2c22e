-- One refusal more, tested after those of the image.
use Rattle.std.proofs.lemmas.Result.{err_from_is_err_and}
use Rattle.image.specs.Refusals.{image_refusals}
use Rattle.image.specs.Calls.{no_line, line_refusals}
use Rattle.image.proofs.Laws.Answer.{after_given}
use Rattle.image.proofs.asked.check_line.Goals as goal

pub returns-in_err-counts : goal.returns-in_err-counts
unfolding line_refusals
returns-in_err-counts c =
    let p = err_from_is_err_and c.from_residual.result c.from_residual.ensures.1 in
    rw (p.1, p.2) (after_given (image_refusals c.args.img.now) (no_line c.args.img.now c.args.line) c.in_err-counts.ensures)

pub returns : goal.returns
unfolding line_refusals
returns c = rw (← c.in_ok-counts.ensures.1.lines_are) (c.refused_if.ensures (image_refusals c.args.img.now) c.args.img.now c.in_ok-counts.ensures)
