-- What the rows from `row` on ask for is what they all do.
use Rattle.std.proofs.Common.{◌≡◌, map, drop}
use Rattle.words.specs.Parts.{words}
use Rattle.words.specs.Command.{shown, first_in}
use Rattle.words.proofs.command.or_first.Given as goal

abbrev pub invariant-loop-row : goal.invariant-loop-row
invariant-loop-row l = first_in (map shown l.rows) (words l.line) ≡ first_in (map shown (drop l.row-index l.rows)) (words l.line)
