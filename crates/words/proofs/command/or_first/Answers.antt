-- By how the line suits the form of `row`.
use Rattle.std.proofs.Common.{arith, sym, ◌∙◌}
use Rattle.std.proofs.lemmas.Result.{err_from_is_err_and}
use Rattle.words.proofs.Laws.Command.{row_next, row_none, none_found}
use Rattle.words.proofs.command.or_first.Goals as goal

pub returns-in_err-form_fit : goal.returns-in_err-form_fit
returns-in_err-form_fit c =
    let p = err_from_is_err_and c.from_residual-in_err-form_fit.result c.from_residual-in_err-form_fit.ensures.1 in
    let next = row_next c.args.rows.now c.loop-row.row-index _ _ c.loop-row.invariant _ _ c.loop-row-test.true c.form_fit.ensures in
    rw (p.1, p.2, none_found c.args.found _ _ c.in_ok-found.was (sym c.is_some.ensures ∙ c.if-is_some.false), next, c.in_err-form_fit.was)

pub returns-then-branch : goal.returns-then-branch
returns-then-branch c =
    let next = row_next c.args.rows.now c.loop-row.row-index _ _ c.loop-row.invariant _ _ c.loop-row-test.true c.form_fit.ensures in
    rw (none_found c.args.found _ _ c.in_ok-found.was (sym c.is_some.ensures ∙ c.if-is_some.false), next, c.in_ok-form_fit.was, c.if-branch.true)

pub loop-row-preserved : goal.loop-row-preserved
loop-row-preserved c =
    let next = row_next c.args.rows.now c.loop-row.row-index _ _ c.loop-row.invariant _ _ c.loop-row-test.true c.form_fit.ensures in
    rw (c.in_ok-form_fit.was, c.if-branch.false) at next

pub returns : goal.returns
returns c =
    rw (none_found c.args.found _ _ c.in_ok-found.was (sym c.is_some.ensures ∙ c.if-is_some.false), row_none c.args.rows.now c.loop-row.row-index _ _ c.loop-row.invariant (omega arith))
