-- `drawing::pieces::behind_pin` meets its contract: two pieces may follow a pin, or one.
use Rattle.std.proofs.Common.{arith}
use Rattle.std.proofs.lemmas.List.{take-map}
use Rattle.drawing.specs.Inner.{piece_forms}
use Rattle.drawing.proofs.Laws.Pins.{pins_to_lem}
use Rattle.drawing.proofs.Laws.Pieces.{part_pins}
use Rattle.drawing.proofs.pieces.behind_pin.Goals as goal

pub returns : goal.returns
unfolding piece_forms
returns c =
    let (low, high, two) = pins_to_lem c.args.left in
    (omega arith, omega arith, rw (c.min.ensures, ← take-map) (part_pins c.args.left c.requires))
