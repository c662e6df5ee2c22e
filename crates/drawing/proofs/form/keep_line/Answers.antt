-- `drawing::form::keep_line` meets its contract: each sort of statement is kept where its sort is, and counted.
use Rattle.std.proofs.Common.{refl}
use Rattle.drawing.proofs.Laws.Kept.{keeps_input, keeps_gate, keeps_output}
use Rattle.drawing.proofs.form.keep_line.Goals as goal

pub returns-in-Input : goal.returns-in-Input
returns-in-Input c =
    let a = c.args in
    let s = a.stored.now in
    let kept = c.keep_record in
    rw (c.in-Input.is, kept.ensures.0) (refl, keeps_input a.tally s.records s.outputs kept.new.self.records c.in-Input.length _ refl kept.ensures.1)

pub returns-in-Output : goal.returns-in-Output
returns-in-Output c =
    let a = c.args in
    let s = a.stored.now in
    let kept = c.keep_output in
    rw (c.in-Output.is, kept.ensures.0) (refl, keeps_output a.tally s.records s.outputs kept.new.self.outputs c.in-Output.line c.in-Output.length kept.ensures.1)

pub returns-in-Gate : goal.returns-in-Gate
returns-in-Gate c =
    let a = c.args in
    let s = a.stored.now in
    let g = c.in-Gate in
    let kept = c.keep_record-in-Gate in
    rw (g.is, kept.ensures.0) (refl, keeps_gate a.tally s.records s.outputs kept.new.self.records g.kind g.count g.pins g.length kept.ensures.1)
