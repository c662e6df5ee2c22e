-- Any board's lines are few enough for the larger rows.
use Rattle.std.proofs.Common.{refl, lit≤}
use Rattle.image.proofs.Laws.Fine.{known_few}
use Rattle.find.proofs.search.try_all.Goals as goal

pub try_with-requires-else-board-le-FEW_LINES : goal.try_with-requires-else-board-le-FEW_LINES
try_with-requires-else-board-le-FEW_LINES c = (c.requires, known_few c.args.board.known, lit≤ tt, refl)
