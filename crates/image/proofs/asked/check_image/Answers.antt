-- Each test of the code is that refusal's own, so the first that passes is the first that applies.
use Rattle.std.proofs.Common.{sym, ◌∙◌}
use Rattle.std.proofs.lemmas.Result.{err_from_is_err_and}
use Rattle.image.proofs.Laws.Check.{first-mark, first_counts, first-distance, first_record_lem, first_output, accepted}
use Rattle.image.proofs.asked.check_image.Goals as goal

pub returns-then-has_no_mark : goal.returns-then-has_no_mark
returns-then-has_no_mark c = first-mark _ (sym c.has_no_mark.ensures ∙ c.if-has_no_mark.true)

pub returns-then-has_bad_counts : goal.returns-then-has_bad_counts
returns-then-has_bad_counts c =
    first_counts _ (sym c.has_no_mark.ensures ∙ c.if-has_no_mark.false) (sym c.has_bad_counts.ensures ∙ c.if-has_bad_counts.true)

pub returns-then-has_bad_distance : goal.returns-then-has_bad_distance
returns-then-has_bad_distance c =
    first-distance _ (sym c.has_no_mark.ensures ∙ c.if-has_no_mark.false) (sym c.has_bad_counts.ensures ∙ c.if-has_bad_counts.false)
    (sym c.has_bad_distance.ensures ∙ c.if-has_bad_distance.true)

pub returns-in_err-inputs : goal.returns-in_err-inputs
returns-in_err-inputs c =
    let p = err_from_is_err_and c.from_residual.result c.from_residual.ensures.1 in
    rw (p.1, p.2) (
    first_record_lem _ (sym c.has_no_mark.ensures ∙ c.if-has_no_mark.false) (sym c.has_bad_counts.ensures ∙ c.if-has_bad_counts.false)
    (sym c.has_bad_distance.ensures ∙ c.if-has_bad_distance.false) _ c.in_err-inputs.ensures
    )

pub returns-in-Some : goal.returns-in-Some
returns-in-Some c =
    first_output _ (sym c.has_no_mark.ensures ∙ c.if-has_no_mark.false) (sym c.has_bad_counts.ensures ∙ c.if-has_bad_counts.false)
    (sym c.has_bad_distance.ensures ∙ c.if-has_bad_distance.false) _ c.in_ok-inputs.ensures.0 (sym c.in-Some.ensures)

pub returns : goal.returns
returns c =
    let ok = accepted _ (sym c.has_no_mark.ensures ∙ c.if-has_no_mark.false) (sym c.has_bad_counts.ensures ∙ c.if-has_bad_counts.false)
    (sym c.has_bad_distance.ensures ∙ c.if-has_bad_distance.false) c.in_ok-inputs.ensures.0 (sym c.in_default.ensures)
    in
    (ok, record { ok = ok; lines_are = c.line_count.ensures.0; ins_are = c.in_ok-inputs.ensures.1; outs_are = c.output_count.ensures.0 })
