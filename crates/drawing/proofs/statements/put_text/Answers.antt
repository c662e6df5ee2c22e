-- `drawing::statements::put_text` meets its contract: the statements so far stand in front of the target.
use Rattle.std.proofs.Common.{◌≡◌, ℕ, ◌+◌, ◌≤◌, length, refl, ap, ◌∙◌, arith}
use Rattle.std.proofs.Math.ListN.{length-append}
use Rattle.image.proofs.Laws.Fine.{counts_few}
use Rattle.image.specs.Image.{board_of}
use Rattle.drawing.specs.Statements.{statement_of, statements}
use Rattle.drawing.proofs.Laws.WriteText.{statements_end, statements_room, put_next, put_length}
use Rattle.drawing.proofs.Laws.ImageDrawn.{accepted_text}
use Rattle.drawing.proofs.statements.put_text.Goals as goal

pub loop-j-init : goal.loop-j-init
unfolding statements
loop-j-init c = record { is = refl; put = refl }

-- what is made has room, with the next statement too
pub add_statement-at-requires : goal.add_statement-at-requires
add_statement-at-requires c =
    let l = c.loop-j in
    let s = c.args.board.img.now in
    let t = c.args.target.now in
    let b = board_of s in
    let known = c.args.board.known in
    let count = c.args.board.counts.lines + c.args.board.counts.outputs in
    let all = accepted_text s c.args.board.counts count known refl in
    let more : length (statements b 0 l.j) + length (statement_of b l.j) ≤ length t = omega (arith, statements_room b l.j count c.loop-j-test.true, ap length all) in
    let long = ap length l.invariant.put ∙ put_length (statements b 0 l.j) t (omega arith) in
    (omega (arith, known.lines_are, known.outs_are), omega (arith, c.requires, more, long))

pub loop-j-preserved : goal.loop-j-preserved
loop-j-preserved c =
    let l = c.loop-j in
    let b = board_of c.args.board.img.now in
    let made = statements b 0 l.j in
    let st = statement_of b l.j in
    let put = c.add_statement-at in
    let end : put.result ≡ length made + length st = put.ensures.0 ∙ ap (λ (n : ℕ). n + length st) l.invariant.is in
    let is = rw (end, l.invariant.is, l.invariant.put) at put.ensures.1 in record {
      is = rw (statements_end b l.j, length-append made st) end;
      put = rw (statements_end b l.j) (is ∙ put_next made st c.args.target.now);
    }

pub returns : goal.returns
returns c =
    let l = c.loop-j in
    rw (accepted_text c.args.board.img.now c.args.board.counts l.j c.args.board.known (omega arith)) l.invariant.put

pub overflow_add-end : goal.overflow_add-end
overflow_add-end c = let few = counts_few c.args.board.known in omega (arith, few.0, few.1, few.2)
