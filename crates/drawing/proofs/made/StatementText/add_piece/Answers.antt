-- `drawing::made::StatementText::add_piece` meets its contract: the piece stands behind what was made.
use Rattle.std.proofs.Common.{arith}
use Rattle.std.proofs.Math.ListN.{length-take, length-drop}
use Rattle.drawing.proofs.Laws.WriteGate.{part-behind}
use Rattle.drawing.proofs.made.StatementText.add_piece.Goals as goal

pub returns : goal.returns
returns c =
    let put = c.spell in
    let m = c.args.self.now in
    let long = simp (length-take, length-drop) at put.auto.out in
    (part-behind m.bytes _ _ _ m.length _ (omega arith) put.ensures, omega (arith, long, put.ensures.room))
