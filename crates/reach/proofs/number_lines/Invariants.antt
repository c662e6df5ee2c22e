use Rattle.image.specs.Image.{board_of}
use Rattle.reach.proofs.Laws.Pass.{PassedDown}
use Rattle.reach.proofs.number_lines.Given as goal

abbrev pub invariant-loop-line : goal.invariant-loop-line
invariant-loop-line l = PassedDown (board_of l.img) l.line l.numbers
