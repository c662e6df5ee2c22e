-- A row that grows from nothing is the whole row.
use Rattle.std.proofs.Common.{length, ◌∙◌}
use Rattle.board.specs.Gate.{faulty}
use Rattle.board.proofs.Row.{whole_row}
use Rattle.image.specs.Image.{board_of}
use Rattle.rows.proofs.fill.fill_row.Goals as goal

pub returns : goal.returns
returns c = let a = c.args in c.fill.ensures ∙ whole_row (faulty a.condition a.x) (board_of a.img.now) (length a.row.now)
