-- `drawing::statements::text_length` meets its contract: the sum so far is the length of the statements so far.
use Rattle.std.proofs.Common.{length, refl, sym, ap, ◌∙◌, arith}
use Rattle.std.proofs.Math.ListN.{length-append}
use Rattle.image.proofs.Laws.Fine.{counts_few}
use Rattle.image.specs.Image.{board_of}
use Rattle.drawing.specs.Statements.{statement_of, statements}
use Rattle.drawing.proofs.Laws.WriteText.{statements_end}
use Rattle.drawing.proofs.Laws.ImageDrawn.{accepted_text}
use Rattle.drawing.proofs.statements.text_length.Goals as goal

pub loop-j-init : goal.loop-j-init
unfolding statements
loop-j-init c = record { short = omega arith; is = refl }

pub loop-j-preserved : goal.loop-j-preserved
loop-j-preserved c =
    let l = c.loop-j in
    let b = board_of c.args.board.img.now in
    let more = ap length (statements_end b l.j) ∙ length-append (statements b 0 l.j) (statement_of b l.j) in
    record { short = omega arith; is = omega (arith, more) }

pub returns : goal.returns
returns c =
    let l = c.loop-j in
    let s = c.args.board.img.now in
    l.invariant.is ∙ sym (ap length (accepted_text s c.args.board.counts l.j c.args.board.known (omega arith)))

pub overflow_add-j-end : goal.overflow_add-j-end
overflow_add-j-end c = let few = counts_few c.args.board.known in omega (arith, few.0, few.1, few.2)

pub overflow_add-length : goal.overflow_add-length
overflow_add-length c = let few = counts_few c.args.board.known in omega (arith, few.0, few.2, c.loop-j.invariant.short)
