-- Each line's value goes behind those before it, which are all that it reads.
use Rattle.std.proofs.Common.{◌+◌, ◌<◌, length, ◌∙◌, arith}
use Rattle.board.specs.Row.{step}
use Rattle.board.specs.Gate.{faulty}
use Rattle.board.proofs.Filling.{begun, stored}
use Rattle.image.specs.Image.{line_count, board_of}
use Rattle.image.proofs.Laws.Line.{line_step}
use Rattle.rows.proofs.fill.fill.Goals as goal

pub loop-i-init : goal.loop-i-init
loop-i-init c = let a = c.args in begun (step (faulty a.condition a.x) (board_of a.img.now)) a.before.now a.part.now

pub loop-i-preserved : goal.loop-i-preserved
loop-i-preserved c =
    let a = c.args in
    let inv = c.loop-i.invariant in
    let i = c.loop-i.i in
    let line : length a.before.now + i < line_count a.img.now = omega (arith, c.requires.within, inv.long, c.loop-i-test.true) in
    stored _ inv c.value-v.result (omega (arith, inv.long, c.loop-i-test.true))
    (rw c.requires.place at c.value-v.ensures ∙ line_step (faulty a.condition a.x) a.img.now (length a.before.now + i) _ line)
