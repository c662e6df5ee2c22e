-- No output below j is bad.
use Rattle.board.proofs.Search.{Below}
use Rattle.image.specs.Refusals.{bad_output}
use Rattle.image.proofs.outputs.first_bad_output.Given as goal

abbrev pub invariant-loop-j : goal.invariant-loop-j
invariant-loop-j l = Below (bad_output l.img) l.j
