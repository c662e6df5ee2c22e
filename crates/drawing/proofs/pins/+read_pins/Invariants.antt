-- Each call of itself has one pin less to read.
use Rattle.drawing.proofs.pins.+read_pins.Given as goal

abbrev pub decreases-read_pins : goal.decreases-read_pins
decreases-read_pins l = l.left
