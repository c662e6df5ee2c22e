-- The lines below i are decoded, then all, and last the outputs are marked.
use Rattle.lanes.proofs.Laws.Flat.{begins, ends}
use Rattle.lanes.proofs.flat.decode.Goals as goal

pub loop-i-init : goal.loop-i-init
loop-i-init c = begins c.args.board.img.now c.args.board.known.ok c.requires

pub returns : goal.returns
returns c = ends c.args.board.img.now c.args.board.known.ok c.mark_outputs.ensures
