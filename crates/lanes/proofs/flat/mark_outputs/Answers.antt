-- The lines of the outputs before j are marked.
use Rattle.std.proofs.Common.{◌<◌, arith}
use Rattle.board.specs.Lists.{build}
use Rattle.image.specs.Image.{line_count, output_count}
use Rattle.reach.proofs.Laws.Image.{output_inside}
use Rattle.lanes.proofs.Laws.Flat.{room, output_decoded}
use Rattle.lanes.proofs.flat.mark_outputs.Goals as goal

pub loop-j-init : goal.loop-j-init
unfolding build
loop-j-init c = c.requires.2

pub mark_output-requires : goal.mark_output-requires
mark_output-requires c =
    let s = c.args.img.now in
    let used : c.loop-j.j < output_count s = omega (arith, c.requires.1) in
    let low : c.output.result < line_count s = rw c.output.ensures.0 (output_inside s c.requires.0 c.loop-j.j used) in
    let long = room s c.requires.0 c.loop-j.invariant in
    omega arith

pub loop-j-preserved : goal.loop-j-preserved
loop-j-preserved c =
    let s = c.args.img.now in
    let used : c.loop-j.j < output_count s = omega (arith, c.requires.1) in
    rw c.mark_output.ensures (output_decoded s c.requires.0 used c.output.ensures.0 c.loop-j.invariant)
