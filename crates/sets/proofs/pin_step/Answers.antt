-- Each from the other, by one row.
use Rattle.sets.proofs.Tables.{backward_is}
use Rattle.sets.proofs.Gate.{step_back}
use Rattle.sets.proofs.pin_step.Goals as goal

pub returns : goal.returns
returns c =
    let a = c.args in
    let row = c.backward_row-row in
    step_back a.o a.z a.p a.x _ _ c.set_at.result c.set_at-2.result
    (backward_is a.o a.z a.p row.result _ c.requires row.ensures c.set_at.ensures)
    c.common-pin.ensures
    (backward_is a.o a.z a.x row.result _ c.requires row.ensures c.set_at-2.ensures)
    c.common-before.ensures
