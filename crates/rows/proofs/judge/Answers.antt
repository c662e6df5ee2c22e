-- Refusals are tested in their order, and the answer is whether the pattern shows the fault.
use Rattle.std.proofs.lemmas.Result.{err_from_is_err_and}
use Rattle.image.specs.Calls.{fault_refusals, bad_pattern}
use Rattle.image.specs.Inner.{Past}
use Rattle.std.specs.Prelude.{Ok}
use Rattle.image.proofs.Laws.Answer.{none_both}
use Rattle.image.proofs.Laws.Calls.{fault_accepted}
use Rattle.image.proofs.Laws.Promise.{owes_refused, owes_done}
use Rattle.rows.specs.Judge.{judge_refusals}
use Rattle.rows.proofs.judge.Goals as goal
use Rattle.rows.proofs.judge.Goals.{In_ok-counts}

-- what the tests leave where none applies
passed : (c : In_ok-counts) → Past (judge_refusals c.args.img.now c.args.pattern c.args.fault) c.args.img.now (Ok c.in_ok-counts.counts)
unfolding judge_refusals
passed c = let s = c.args.img.now in c.in_ok-counts.ensures (fault_refusals s c.args.fault) s c.check_fault.ensures

pub is_shown-requires : goal.is_shown-requires
unfolding judge_refusals
is_shown-requires c =
    let s = c.args.img.now in
    let past = (passed (goal.at.is_shown-requires c).In_ok-counts).0 in
    let named = (none_both (fault_refusals s c.args.fault) (bad_pattern s c.args.pattern) past).0 in
    (fault_accepted s c.args.fault named).1

pub invariant_of-board : goal.invariant_of-board
invariant_of-board c = record { known = (passed (goal.at.invariant_of-board c).In_ok-counts).1 }

pub returns-in_err-counts : goal.returns-in_err-counts
unfolding judge_refusals
returns-in_err-counts c =
    let s = c.args.img.now in
    let p = err_from_is_err_and c.from_residual.result c.from_residual.ensures.1 in
    rw (p.1, p.2) (owes_refused (c.in_err-counts.ensures (fault_refusals s c.args.fault) s c.check_fault.ensures))

pub returns : goal.returns
returns c = rw c.is_shown.ensures (owes_done (passed (goal.at.returns c).In_ok-counts).0)
