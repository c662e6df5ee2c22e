-- The row holds the values of the first i lines.
use Rattle.std.proofs.Common.{[]}
use Rattle.board.specs.Row.{step}
use Rattle.board.specs.Five.{five, partial}
use Rattle.board.proofs.Filling.{Filling}
use Rattle.image.specs.Image.{board_of}
use Rattle.five.proofs.fill.fill.Given as goal

abbrev pub invariant-loop-i : goal.invariant-loop-i
invariant-loop-i l = Filling (step (five l.condition (partial l.pattern.named l.pattern.values)) (board_of l.img)) [] l.initial.row l.i l.row
