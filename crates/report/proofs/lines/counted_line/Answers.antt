-- A refusal's line, or the form with the count and the length.
use Rattle.std.proofs.Common.{◌≡◌, cond, eqb, eq-eqb}
use borrow.Author.Tests.{ne_eqb}
use Rattle.report.specs.Lines.{counted_line}
use Rattle.report.proofs.Laws.Lines.{counted_refused, first-value}
use Rattle.report.proofs.lines.counted_line.Goals as goal
use Rattle.report.proofs.lines.counted_line.Goals.{then-n-eq0, else-n-eq0}

pub returns-then-n-ne0 : goal.returns-then-n-ne0
returns-then-n-ne0 c = rw (counted_refused _ _ _ c.if-n-ne0.true) c.refused_line.ensures

pub returns : goal.returns
unfolding counted_line
returns c =
    let n = c.args.n in
    -- the count that is said
    let found : c.if-n-eq0.found ≡ cond (eqb n.values 0) 0 n.first =
    elim c.if-n-eq0.branch [ then-n-eq0 w ↦ rw (eq-eqb n.values 0 w.if-n-eq0.true) w.found-is | else-n-eq0 w ↦ rw (ne_eqb n.values 0 w.if-n-eq0.false) w.found-is ]
    in
    rw (c.if-n-ne0.false, first-value, ← found) c.of.ensures
