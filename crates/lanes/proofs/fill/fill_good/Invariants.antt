use Rattle.image.specs.Image.{board_of}
use Rattle.lanes.specs.Inner.{Roomy, GoodTo}
use Rattle.lanes.proofs.fill.fill_good.Given as goal

abbrev pub invariant-loop-i : goal.invariant-loop-i
invariant-loop-i l = Roomy (board_of l.trial.img.now) l.rows × GoodTo (board_of l.trial.img.now) l.trial.base l.i l.rows
