-- A fault in numbers.
use Rattle.std.specs.Prelude.{cond, eqb}
use Rattle.board.specs.declared.Fault.{Fault}
use Rattle.board.specs.declared.Fault.TheVariants.{Line, Pin}
use Rattle.exports.specs.declared.FaultNumbers.{FaultNumbers}

-- the fault that the numbers name: the line's, or the pin's where `sort` is not 0
unfoldable pub fault_named : FaultNumbers → Fault
fault_named n = cond (eqb n.sort 0) (Line n.line n.stuck) (Pin n.line n.pin n.stuck)
