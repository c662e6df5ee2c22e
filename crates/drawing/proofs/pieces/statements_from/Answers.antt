-- `drawing::pieces::statements_from` meets its contract: the first three pieces begin statements.
use Rattle.std.proofs.Common.{lit≤}
use Rattle.std.proofs.lemmas.List.{take-map, drop-map}
use Rattle.drawing.specs.Inner.{piece_forms}
use Rattle.drawing.proofs.Laws.Pieces.{part_statements}
use Rattle.drawing.proofs.pieces.statements_from.Goals as goal

pub returns : goal.returns
unfolding piece_forms
returns c = (c.requires, lit≤ tt, rw (← take-map, ← drop-map) (part_statements c.args.section c.requires))
