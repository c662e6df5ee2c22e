-- It reads into what is left of the buffer, and stops where nothing comes.
use Rattle.std.proofs.Common.{◌-◌, ◌≡◌, ◌≤◌, length}
use Rattle.ports.proofs.files.read_all.Given as goal

abbrev pub invariant-loop-n : goal.invariant-loop-n
invariant-loop-n l = (l.n ≤ length l.fn.room) × (length l.room ≡ length l.fn.room)

abbrev pub decreases-loop-n : goal.decreases-loop-n
decreases-loop-n l = length l.fn.room - l.n
