-- Two refusals more, tested after those of a line.
use Rattle.std.proofs.Common.{arith}
use Rattle.std.proofs.lemmas.Result.{err_from_is_err_and}
use Rattle.board.specs.Gate.{site, stuck}
use Rattle.board.specs.declared.Condition.TheVariants.{Having}
use Rattle.image.specs.Calls.{◌then◌, bad_stuck, no_pin, line_refusals, fault_refusals}
use Rattle.image.proofs.Laws.Answer.{after_given, none_both}
use Rattle.image.proofs.Laws.Calls.{line_accepted}
use Rattle.image.proofs.Laws.Fine.{lines_few}
use Rattle.image.proofs.asked.check_fault.Goals as goal

pub is_absent-requires : goal.is_absent-requires
is_absent-requires c =
    let s = c.args.img.now in
    let φ = Having c.args.fault in
    let named = rw c.site_of.ensures at c.check_line-tested.ensures in
    let past = rw c.stuck_of.ensures at (c.in_ok-counts.ensures (line_refusals s (site φ)) s named) in
    let inside = (line_accepted s (site φ) (none_both (line_refusals s (site φ)) (bad_stuck (stuck φ)) past.0).0).1 in
    (inside, omega (arith, inside, lines_few s past.1.ok))

pub returns-in_err-counts : goal.returns-in_err-counts
unfolding fault_refusals
returns-in_err-counts c =
    let s = c.args.img.now in
    let φ = Having c.args.fault in
    let named = rw c.site_of.ensures at c.check_line-tested.ensures in
    let past = rw c.stuck_of.ensures at (c.in_err-counts.ensures (line_refusals s (site φ)) s named) in
    let p = err_from_is_err_and c.from_residual.result c.from_residual.ensures.1 in
    rw (p.1, p.2) (after_given (line_refusals s (site φ) then bad_stuck (stuck φ)) (no_pin s c.args.fault) past)

pub returns : goal.returns
unfolding fault_refusals
returns c =
    let s = c.args.img.now in
    let φ = Having c.args.fault in
    let named = rw c.site_of.ensures at c.check_line-tested.ensures in
    let past = rw c.stuck_of.ensures at (c.in_ok-counts.ensures (line_refusals s (site φ)) s named) in
    rw c.is_absent.ensures at (c.refused_if.ensures (line_refusals s (site φ) then bad_stuck (stuck φ)) s past)
