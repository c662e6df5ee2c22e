-- The first output that is bad is the answer, and there is none where all were passed.
use Rattle.std.proofs.Common.{sym, ◌∙◌, below_more}
use Rattle.board.proofs.Search.{first_at, first_none}
use Rattle.image.specs.Refusals.{bad_output, first_bad_output}
use Rattle.image.proofs.outputs.first_bad_output.Goals as goal

pub returns-then-is_bad_output : goal.returns-then-is_bad_output
unfolding first_bad_output
returns-then-is_bad_output c =
    let count = c.output_count-j-end.ensures.0 in
    first_at (bad_output c.args.img.now) _ c.loop-j.j (rw count at c.loop-j-test.true) (sym c.is_bad_output.ensures ∙ c.if-is_bad_output.true) c.loop-j.invariant

pub loop-j-preserved : goal.loop-j-preserved
loop-j-preserved c = below_more _ _ c.loop-j.invariant (sym c.is_bad_output.ensures ∙ c.if-is_bad_output.false)

pub returns : goal.returns
unfolding first_bad_output
returns c =
    let count = c.output_count-j-end.ensures.0 in
    first_none (bad_output c.args.img.now) _ c.loop-j.j (rw count at c.loop-j-test.false) c.loop-j.invariant
