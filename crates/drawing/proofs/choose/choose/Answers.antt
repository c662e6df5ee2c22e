-- `drawing::choose::choose` meets its contract: each piece is tried, and the best of them kept.
use Rattle.std.proofs.Common.{◌≡◌, ◌≤◌, ◌⊎◌, ◌+◌, sym, ◌∙◌, arith, rules}
use Rattle.std.proofs.lemmas.Grind.{common_steps}
use Rattle.drawing.proofs.Laws.Pieces.{run_long, run_room, run_written}
use Rattle.drawing.proofs.Laws.Tried.{tried_more, tried_all, of_piece, long_is, took}
use Rattle.drawing.proofs.choose.choose.Goals as goal

pub spell-n-requires : goal.spell-n-requires
spell-n-requires c =
    let (from, to, run) = c.requires in
    run_room from to c.args.forms.now run c.loop-which.which _ c.loop-which-test.true

pub loop-which-preserved : goal.loop-which-preserved
loop-which-preserved c = λ from to run.
    let a = c.args in
    let l = c.loop-which in
    let rest = a.rest.now in
    let which = from + l.which in
    let m = c.common-m.result in
    let r = c.max-best.result in
    let written = run_written from to a.forms.now run l.which _ a.k _ _ c.loop-which-test.true c.spell-n.ensures in
    let is = of_piece rest c.spell-n.new.out which a.k c.spell-n.result m written c.common-m.ensures in
    let long = long_is rest c.spell-n.new.out which a.k c.spell-n.result m written c.common-m.ensures in
    let over-best : l.best ≤ r = search rules in
    let over-m : m ≤ r = search rules in
    let either : (r ≡ l.best) ⊎ (r ≡ m) = grind (arith, common_steps) in
    let next : from + (l.which + 1) ≡ which + 1 = omega arith in
    rw next
    (tried_more from to a.k rest l.best which (l.invariant from to run) m r (omega arith) (omega (arith, run_long from to a.forms.now run)) is
    (λ e. c.if-m-n.false (e ∙ sym long)) over-best over-m either)

pub returns-then-m-n : goal.returns-then-m-n
returns-then-m-n c = λ from to run.
    let a = c.args in
    let which = from + c.loop-which.which in
    let written = run_written from to a.forms.now run c.loop-which.which _ a.k _ _ c.loop-which-test.true c.spell-n.ensures in
    took a.rest.now c.spell-n.new.out which a.k c.spell-n.result c.common-m.result written c.common-m.ensures from to (omega arith)
    (omega (arith, run_long from to a.forms.now run)) c.if-m-n.true

pub returns : goal.returns
returns c = λ from to run.
    let l = c.loop-which in
    tried_all from to c.args.k c.args.rest.now l.best (from + l.which) (l.invariant from to run) (omega (arith, run_long from to c.args.forms.now run))
