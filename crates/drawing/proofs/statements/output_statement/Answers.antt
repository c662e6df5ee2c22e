-- `drawing::statements::output_statement` meets its contract: the piece before the number, the number, and the piece behind it.
use Rattle.std.proofs.Common.{append_assoc, refl}
use Rattle.text.specs.Text.{decimal}
use Rattle.drawing.specs.Inner.{piece_forms, piece}
use Rattle.drawing.proofs.Laws.Pieces.{as_piece}
use Rattle.drawing.proofs.Laws.WriteGate.{output_text_lem}
use Rattle.drawing.proofs.statements.output_statement.Goals as goal

pub returns : goal.returns
unfolding piece_forms
returns c =
    let line = c.args.line in
    let opened = rw (c.blank-made.ensures.0, as_piece 1 line _ refl) at c.add_piece.ensures.0 in
    let closed = rw (as_piece 3 line _ refl) at c.add_piece-2.ensures.0 in
    rw (closed, c.add_number.ensures.0, opened, output_text_lem line) (append_assoc (piece 1 line) (decimal line) (piece 3 line))
