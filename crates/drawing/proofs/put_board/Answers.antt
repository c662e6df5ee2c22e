-- `drawing::put_board` meets its contract: past its counts' refusal what is kept is the board's image, and that is held to the rules.
use Rattle.std.proofs.Common.{◌≡◌, ℕ, false, ◌||◌, ◌≤◌, ◌∙◌, eqb, ltb}
use borrow.Author.Tests.{ltb-false}
use Rattle.board.specs.Limits.{most_lines, most_outputs}
use Rattle.board.proofs.Lists.{or_false}
use Rattle.image.specs.Refusals.{outside}
use Rattle.drawing.proofs.Laws.ReadCall.{counts_refused, image_kept, image_owed}
use Rattle.drawing.proofs.put_board.Goals as goal

pub returns-then-is_outside : goal.returns-then-is_outside
returns-then-is_outside c =
    let a = c.args in
    λ b holds.
    counts_refused b a.named.lines a.named.outputs a.stored.now.records a.stored.now.outputs a.target.now holds (rw (c.is_outside.ensures, c.is_outside-2.ensures) at c.if-is_outside.true)

few : (limit n : ℕ) → outside limit n ≡ false → n ≤ limit
few limit n e = ltb-false limit n (or_false (eqb n 0) (ltb limit n) e).1

pub returns : goal.returns
returns c =
    let a = c.args in
    let within : (outside most_lines a.named.lines || outside most_outputs a.named.outputs) ≡ false = rw (c.is_outside.ensures, c.is_outside-2.ensures) at c.if-is_outside.false in
    let (lines, outs) = or_false (outside most_lines a.named.lines) (outside most_outputs a.named.outputs) within in
    λ b holds.
    let image = c.finish.ensures ∙ image_kept b a.named.lines a.named.outputs a.stored.now.records a.stored.now.outputs a.target.now holds (few most_lines a.named.lines lines) (few most_outputs a.named.outputs outs) in
    image_owed b a.named.lines a.named.outputs a.stored.now.records a.stored.now.outputs a.target.now holds within _ _ (rw image at c.put_image.ensures)
