-- The change is passed on over the lines below i, `last` is above all that read a changed one, and what was gathered are the lanes in which an
-- output below i differs. Above `last` no line differs.
use Rattle.std.proofs.Common.{◌<◌, ◌∙◌, arith}
use Rattle.image.specs.Image.{board_of}
use Rattle.lanes.specs.Words.{seen}
use Rattle.lanes.specs.Inner.{size}
use Rattle.lanes.proofs.Laws.Eight.{each_at, lanes_of}
use Rattle.lanes.proofs.Laws.Fill.{low_board}
use Rattle.lanes.proofs.Laws.Flip.{heard_first, heard_next, shown_first, shown_next, seen_holds}
use Rattle.lanes.proofs.Laws.Pass.{apart_all}
use Rattle.lanes.proofs.flip.flip.Goals as goal

pub loop-i-init : goal.loop-i-init
loop-i-init c =
    let a = c.args in
    let b = board_of a.trial.img.now in
    let is = a.trial.decoded in
    let inside = c.requires.0 in
    let low = low_board is a.line inside in
    let passed = c.turn_over.ensures in (
      omega arith,
      omega (arith, inside),
      omega (arith, c.from-last.ensures, is.last_inside a.line inside),
      passed,
      rw c.from-last.ensures (heard_first is a.trial.base a.line passed),
      λ w l. shown_first b low a.trial.base a.line w _ _ (each_at (λ u. 0) w l) (c.gather-shown.ensures w l),
    )

pub loop-i-preserved : goal.loop-i-preserved
loop-i-preserved c =
    let a = c.args in
    let b = board_of a.trial.img.now in
    let is = a.trial.decoded in
    let low = low_board is a.line c.requires.0 in
    let inv = c.loop-i.invariant in
    let i = c.loop-i.i in
    let inside : i < size b = omega (arith, inv.2) in
    let on = c.pass_on.ensures in (
      omega (arith, inv.0),
      omega arith,
      c.further-last.ensures.2 (size b) inv.2 (is.last_inside i inside),
      on.passed,
      heard_next is a.trial.base a.line inv.4 on c.further-last.ensures.0 c.further-last.ensures.1,
      λ w l. shown_next b low a.trial.base a.line w i _ _ (inv.5 w l) (c.gather-more.ensures w l),
    )

pub returns : goal.returns
returns c =
    let a = c.args in
    let b = board_of a.trial.img.now in
    let is = a.trial.decoded in
    let low = low_board is a.line c.requires.0 in
    let inv = c.loop-i.invariant in
    let h = inv.3 in (
      lanes_of c.loop-i.shown (seen b a.line) a.trial.base (λ w l.
          rw (inv.5 w l ∙ apart_all b low a.trial.base a.line h inv.0 inv.1 c.loop-i-test.false inv.4 w l)
          (seen_holds b is.fine a.trial.base h.block.number h.block.base_is w a.line)),
      h.block,
    )
