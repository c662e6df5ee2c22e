-- Two lines have a bit in common in their numbers exactly when they meet.
use Rattle.board.specs.Limits.{most_lines}
use Rattle.board.proofs.Lists.{zeros}
use Rattle.image.specs.Image.{board_of}
use Rattle.image.proofs.Laws.Fine.{lines_few}
use Rattle.alter.proofs.Laws.Meet.{common_met}
use Rattle.alter.proofs.marks.mark_met.Goals as goal

pub number_lines-requires : goal.number_lines-requires
number_lines-requires c = (lines_few c.args.board.img.now c.args.board.known.ok, zeros most_lines)

pub returns : goal.returns
returns c =
    let a = c.args in
    common_met (board_of a.board.img.now) _ c.number_lines.ensures a.line a.row.now (rw c.number.ensures at c.mark_common.ensures)
