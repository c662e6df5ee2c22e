-- The sum is that of the first j values read.
use Rattle.std.proofs.Common.{◌≡◌, ◌*◌, ◌≤◌, ◌++◌, take}
use Rattle.board.specs.Lists.{ones}
use Rattle.image.specs.Inner.{pins_at}
use Rattle.rows.proofs.line.Reader.ones.Given as goal

abbrev pub invariant-loop-j : goal.invariant-loop-j
invariant-loop-j l = (l.sum ≤ 255 * l.j) × (l.sum ≡ ones (take l.j (pins_at l.self.img.now l.self.at (l.self.before.now ++ l.self.part.now))))
