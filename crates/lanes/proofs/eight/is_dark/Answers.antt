-- What joins to 0 is 0, word by word.
use Rattle.std.proofs.lemmas.Bool.{eqb-true}
use Rattle.lanes.proofs.Laws.Eight.{none_lit}
use Rattle.lanes.proofs.eight.is_dark.Goals as goal

pub returns : goal.returns
returns c = λ e w l. (none_lit c.args.e 0 (eqb-true _ 0 e)).1 w
