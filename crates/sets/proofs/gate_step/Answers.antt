-- None of the steps loses a pair.
use Rattle.std.proofs.Common.{◌/◌, ◌%◌, arith}
use Rattle.sets.proofs.Tables.{turned_is}
use Rattle.sets.proofs.Gate.{step_keeps}
use Rattle.sets.proofs.gate_step.Goals as goal

pub returns : goal.returns
returns c =
    let s = c.args.s in
    let f = c.args.way % 2 in
    let turn = c.turn_row-turn in
    step_keeps (c.args.way / 2) f s.line _ _ _ _ (omega arith) c.forward-p1.result c.forward-p2.result
    c.forward-p3.result c.set_at.result c.common-z.result c.pin_step-d.result.1 c.pin_step-c.result.1 _ _ _ _ _
    c.forward-p1.ensures c.forward-p2.ensures c.forward-p3.ensures
    (turned_is f s.line turn.result _ turn.ensures c.set_at.ensures) c.common-z.ensures
    c.pin_step-d.ensures c.pin_step-c.ensures c.pin_step-b.ensures
    (turned_is f c.common-z.result turn.result _ turn.ensures c.set_at-line.ensures)
