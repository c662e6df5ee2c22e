-- An accepted image has few lines.
use Rattle.image.proofs.Laws.Fine.{known_few}
use Rattle.kept.proofs.anew.lines_of.Goals as goal

pub returns-in-Ok : goal.returns-in-Ok
returns-in-Ok c = known_few c.in-Ok.ensures.1
