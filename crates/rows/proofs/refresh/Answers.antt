-- Refusals are tested in their order, and the row is filled anew from the line on.
use Rattle.std.proofs.Common.{◌≡◌, length}
use Rattle.std.proofs.Math.Nat.{le_of_lt}
use Rattle.std.proofs.Math.Option.{none}
use Rattle.std.proofs.lemmas.Result.{err_from_is_err_and}
use Rattle.image.specs.Refusals.{first_refusal}
use Rattle.image.specs.Calls.{◌then◌, line_refusals, bad_pattern, bad_row}
use Rattle.image.specs.Inner.{Known}
use Rattle.image.proofs.Laws.Fine.{lines_few}
use Rattle.image.proofs.Laws.Promise.{owes_refused, owes_done}
use Rattle.rows.specs.Refresh.{refresh_refusals}
use Rattle.rows.proofs.Laws.Calls.{refresh_accepted}
use Rattle.rows.proofs.refresh.Goals as goal
use Rattle.rows.proofs.refresh.Goals.{In_ok-then_before}

-- what the tests leave where none applies
passed : (c : In_ok-then_before) →
    let a = c.args in
    (first_refusal (refresh_refusals a.img.now a.pattern a.line a.row.now) ≡ none) × Known a.img.now c.in_ok-then_before.field-0
unfolding refresh_refusals
passed c =
    let a = c.args in
    let s = a.img.now in
    let named = line_refusals s a.line in
    let low = named then bad_pattern s a.pattern in
    let tested = c.then_row-tested.ensures low s (c.then_pattern.ensures named s c.check_line.ensures) in
    c.in_ok-then_before.ensures (low then bad_row s (length a.row.now)) s tested

pub refresh_from-requires : goal.refresh_from-requires
refresh_from-requires c =
    let a = c.args in
    let (none-given, known) = passed (goal.at.refresh_from-requires c).In_ok-then_before in
    let (inside, long) = refresh_accepted a.img.now a.pattern a.line a.row.now none-given in
    (rw long (le_of_lt inside), long, rw long (lines_few a.img.now known.ok))

pub returns-in_err-then_before : goal.returns-in_err-then_before
unfolding refresh_refusals
returns-in_err-then_before c =
    let a = c.args in
    let s = a.img.now in
    let named = line_refusals s a.line in
    let low = named then bad_pattern s a.pattern in
    let tested = c.then_row-tested.ensures low s (c.then_pattern.ensures named s c.check_line.ensures) in
    let p = err_from_is_err_and c.from_residual.result c.from_residual.ensures.1 in
    rw (p.1, p.2) (owes_refused (c.in_err-then_before.ensures (low then bad_row s (length a.row.now)) s tested))

pub returns : goal.returns
returns c = rw c.refresh_from.ensures (owes_done (passed (goal.at.returns c).In_ok-then_before).0)
