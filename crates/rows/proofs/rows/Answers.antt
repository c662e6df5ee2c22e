-- Refusals are tested in their order, and two fillings give the two rows.
use Rattle.std.proofs.Common.{◌≡◌, length, arith}
use Rattle.std.proofs.lemmas.Result.{err_from_is_err_and}
use Rattle.std.proofs.Math.Option.{none}
use Rattle.board.specs.declared.Condition.TheVariants.{Having}
use Rattle.image.specs.Image.{line_count}
use Rattle.image.specs.Refusals.{first_refusal, Accepted}
use Rattle.image.specs.Calls.{◌then◌, fault_refusals, bad_pattern, bad_row}
use Rattle.image.specs.Inner.{OnBoard}
use Rattle.image.proofs.Laws.Fine.{lines_few}
use Rattle.image.proofs.Laws.Promise.{owes_refused, owes_done}
use Rattle.rows.specs.Rows.{rows_refusals}
use Rattle.rows.proofs.Laws.Calls.{rows_accepted}
use Rattle.rows.proofs.rows.Goals as goal
use Rattle.rows.proofs.rows.Goals.{In_ok-then_row}

-- where none applies: the image is accepted, the fault is the board's, and both rows are one byte a line
accepted : (c : In_ok-then_row) →
    let a = c.args in
    let s = a.img.now in
    (first_refusal (rows_refusals s a.pattern a.fault a.good.now a.faulty.now) ≡ none)
    × Accepted s
    × OnBoard s (Having a.fault)
    × (length a.good.now ≡ line_count s)
    × (length a.faulty.now ≡ line_count s)
unfolding rows_refusals
accepted c =
    let a = c.args in
    let s = a.img.now in
    let named = fault_refusals s a.fault in
    let low = named then bad_pattern s a.pattern in
    let tested = c.then_row.ensures low s (c.then_pattern-tested.ensures named s c.check_fault.ensures) in
    let (none-given, known) = c.in_ok-then_row.ensures (low then bad_row s (length a.good.now)) s tested in
    let (on_board, good_long, faulty_long) = rows_accepted s a.pattern a.fault a.good.now a.faulty.now none-given in
    (none-given, known.ok, on_board, good_long, faulty_long)

pub fill_row-requires : goal.fill_row-requires
fill_row-requires c =
    let (none-given, ok, on_board, good_long, faulty_long) = accepted (goal.at.fill_row-requires c).In_ok-then_row in
    let few = lines_few _ ok in
    (omega arith, omega arith)

pub fill_row-requires-2 : goal.fill_row-requires-2
fill_row-requires-2 c =
    let (none-given, ok, on_board, good_long, faulty_long) = accepted (goal.at.fill_row-requires-2 c).In_ok-then_row in
    let few = lines_few _ ok in
    (omega arith, omega arith)

pub returns-in_err-then_row : goal.returns-in_err-then_row
unfolding rows_refusals
returns-in_err-then_row c =
    let a = c.args in
    let s = a.img.now in
    let named = fault_refusals s a.fault in
    let low = named then bad_pattern s a.pattern in
    let tested = c.then_row.ensures low s (c.then_pattern-tested.ensures named s c.check_fault.ensures) in
    let p = err_from_is_err_and c.from_residual.result c.from_residual.ensures.1 in
    rw (p.1, p.2) (owes_refused (c.in_err-then_row.ensures (low then bad_row s (length a.good.now)) s tested))

pub returns : goal.returns
returns c =
    let (none-given, ok, on_board, good_long, faulty_long) = accepted (goal.at.returns c).In_ok-then_row in
    rw (c.fill_row.ensures, c.fill_row-2.ensures, good_long, faulty_long) (owes_done none-given)
