-- The last twelve bytes are brought to the front.
use Rattle.std.proofs.Common.{ap, take, ◌∙◌}
use Rattle.report.proofs.Laws.Tail.{brought, tail_next}
use Rattle.report.proofs.input.keep_tail.Goals as goal

pub returns : goal.returns
returns c =
    let buf = c.args.buf.now in
    let front = ap (take 12) c.copy_within.ensures.after ∙ brought buf c.args.got c.requires in
    λ s whole tail. tail_next s buf _ c.args.got whole c.requires tail front
