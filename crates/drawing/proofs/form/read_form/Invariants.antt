-- The reader stands behind a board's text, and what fits of the board is kept.
use Rattle.std.proofs.Common.{◌-◌, length}
use Rattle.board.specs.Board.{Board}
use Rattle.drawing.specs.Inner.{Kept}
use Rattle.drawing.proofs.Laws.Stands.{Stands}
use Rattle.drawing.proofs.form.read_form.Given as goal

abbrev pub invariant-loop-at : goal.invariant-loop-at
invariant-loop-at l = record {
  board : Board;
  stands : Stands l.text board l.tally l.at;
  kept : Kept board l.stored.records l.stored.outputs;
}

abbrev pub decreases-loop-at : goal.decreases-loop-at
decreases-loop-at l = length l.text - l.at
