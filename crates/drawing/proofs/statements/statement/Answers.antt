-- `drawing::statements::statement` meets its contract: the counts say which of the three a statement is.
use Rattle.std.proofs.Common.{◌≡◌, ◌-◌, length, refl, sym, ◌∙◌, arith}
use Rattle.board.specs.Board.{inputs}
use Rattle.image.proofs.Laws.Fine.{counts_few}
use Rattle.image.specs.Image.{board_of}
use Rattle.image.proofs.Laws.Fine.{output_count_lem, output_at_lem}
use Rattle.drawing.specs.Inner.{piece_forms}
use Rattle.drawing.proofs.Laws.Pieces.{as_piece}
use Rattle.drawing.proofs.Laws.WriteGate.{input_text_lem}
use Rattle.drawing.proofs.Laws.WriteText.{input_statement, output_statement, gate_statement}
use Rattle.drawing.proofs.statements.statement.Goals as goal

pub returns-then-j-counts : goal.returns-then-j-counts
unfolding piece_forms
returns-then-j-counts c =
    let known = c.args.board.known in
    let b = board_of c.args.board.img.now in
    rw (input_statement b c.args.j (omega (arith, known.ins_are)), input_text_lem c.args.j) (rw (c.blank-made.ensures.0, as_piece 0 c.args.j _ refl) at c.add_piece.ensures.0)

pub returns-then-j-counts-2 : goal.returns-then-j-counts-2
returns-then-j-counts-2 c =
    let known = c.args.board.known in
    let s = c.args.board.img.now in
    let j = c.args.j in
    let is = output_statement (board_of s) j (omega (arith, known.ins_are)) (omega (arith, known.ins_are, known.outs_are, output_count_lem s)) in
    let line = output_at_lem s (j - inputs (board_of s)) (omega (arith, known.ins_are, known.outs_are)) in
    rw (is, line, ← known.ins_are, ← c.output.ensures.0) c.output_statement.ensures

pub returns : goal.returns
returns c =
    let known = c.args.board.known in
    let s = c.args.board.img.now in
    let outs : length (board_of s).outs ≡ c.args.board.counts.outputs = output_count_lem s ∙ sym known.outs_are in
    let is = gate_statement (board_of s) c.args.j (omega (arith, known.ins_are, outs)) in
    rw (is, outs) c.gate.ensures

pub overflow_add-counts : goal.overflow_add-counts
overflow_add-counts c = let few = counts_few c.args.board.known in omega (arith, few.0, few.1, few.2)

pub output-requires : goal.output-requires
output-requires c = let few = counts_few c.args.board.known in omega (arith, few.0, few.1, few.2)
