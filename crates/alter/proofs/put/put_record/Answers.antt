-- The new bytes stand in the record's place, and nothing else moves.
use Rattle.alter.proofs.Laws.Patch.{pasted}
use Rattle.alter.proofs.put.put_record.Goals as goal

pub returns : goal.returns
returns c =
    let a = c.args in
    pasted a.img.now a.line a.new.now _ _ c.record_place-at.ensures.0 c.requires.1 c.requires.2 c.copy.ensures.1
