-- The bytes that were looked at are the number that they came to.
use Rattle.std.proofs.Common.{◌≡◌}
use Rattle.drawing.proofs.Laws.Reading.{Sofar}
use Rattle.drawing.proofs.number.read_number.Given as goal

abbrev pub invariant-loop-x : goal.invariant-loop-x
invariant-loop-x l = record { here : l.length ≡ l.x-index; so : Sofar l.rest l.value l.length }
