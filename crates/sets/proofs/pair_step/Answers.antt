-- Neither of the steps loses a pair.
use Rattle.std.proofs.Common.{◌/◌, ◌%◌, arith}
use Rattle.sets.proofs.Tables.{turned_is}
use Rattle.sets.proofs.Gate.{pair_keeps}
use Rattle.sets.proofs.pair_step.Goals as goal

pub returns : goal.returns
returns c =
    let s = c.args.s in
    let f = c.args.way % 2 in
    let turn = c.turn_row-turn in
    pair_keeps (c.args.way / 2) (omega arith) f s.line _ _ (omega arith) c.forward-p.result c.set_at.result
    c.common-z.result _ _ _ c.forward-p.ensures (turned_is f s.line turn.result _ turn.ensures c.set_at.ensures)
    c.common-z.ensures c.pin_step-b.ensures (turned_is f c.common-z.result turn.result _ turn.ensures c.set_at-line.ensures)
