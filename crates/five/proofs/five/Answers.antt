-- Its tests are its refusals in their order, and where none applies the row is filled and counted.
use Rattle.std.proofs.Common.{◌≡◌, length}
use Rattle.std.proofs.Math.Option.{none}
use Rattle.std.proofs.lemmas.Result.{err_from_is_err_and}
use Rattle.board.specs.declared.Condition.TheVariants.{Having}
use Rattle.image.specs.Refusals.{first_refusal}
use Rattle.image.specs.Calls.{◌then◌, fault_refusals}
use Rattle.image.proofs.Laws.Promise.{owes_refused, owes_done}
use Rattle.five.specs.Partial.{bad_partial}
use Rattle.five.specs.Five.{five_refusals, five_row}
use Rattle.five.specs.Inner.{FiveFillable}
use Rattle.five.proofs.Laws.Call.{fillable}
use Rattle.five.proofs.five.Goals as goal
use Rattle.five.proofs.five.Goals.{In_ok-then_row}

-- no refusal applies, so the filler has what it asks
passed : (c : In_ok-then_row) →
    let a = c.args in
    (first_refusal (five_refusals a.img.now a.named a.values a.fault (length a.row.now)) ≡ none) × FiveFillable a.img.now (Having a.fault) a.row.now
unfolding five_refusals
passed c =
    let a = c.args in
    let s = a.img.now in
    let named = fault_refusals s a.fault in
    let low = named then bad_partial s a.named a.values in
    let none-given = (c.in_ok-then_row.ensures low s (c.then_partial-tested.ensures named s c.check_fault.ensures)).0 in
    (none-given, fillable s a.named a.values a.fault a.row.now none-given)

pub fill-requires : goal.fill-requires
fill-requires c = (passed (goal.at.fill-requires c).In_ok-then_row).1

pub returns-in_err-then_row : goal.returns-in_err-then_row
unfolding five_refusals
returns-in_err-then_row c =
    let a = c.args in
    let s = a.img.now in
    let named = fault_refusals s a.fault in
    let low = named then bad_partial s a.named a.values in
    let p = err_from_is_err_and c.from_residual.result c.from_residual.ensures.1 in
    rw (p.1, p.2) (owes_refused (c.in_err-then_row.ensures low s (c.then_partial-tested.ensures named s c.check_fault.ensures)))

pub returns : goal.returns
unfolding five_row
returns c =
    let (none-given, fills) = passed (goal.at.returns c).In_ok-then_row in
    let is = rw fills.long at c.fill.ensures in
    rw (c.count_driven.ensures, is) (owes_done none-given)
