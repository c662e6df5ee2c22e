-- `spans::find` meets its contract: the search goes over the span.
use Rattle.std.proofs.Common.{◌≡◌, ◌-◌, eqb, length, Some, None, sym, ◌∙◌, arith}
use Rattle.std.proofs.Math.ListN.{length-take, length-drop}
use Rattle.std.specs.List.{position}
use Rattle.spans.specs.Span.{slice}
use Rattle.spans.proofs.Spans.{found, found_none}
use Rattle.spans.proofs.find.Goals as goal

pub returns-in-Some : goal.returns-in-Some
unfolding slice
returns-in-Some c =
    let a = c.args in
    let span = slice a.start a.end a.s.now in
    let at = c.in-Some.at in
    let is : position (λ x. eqb x a.mark) span ≡ Some at = sym c.first.ensures ∙ c.in-Some.is in
    let long : length span ≡ a.end - a.start = simp (length-take, length-drop) (omega arith) in
    let (first, inside) = found a.mark span at is in
    (omega (arith, first), omega (arith, inside, long))

pub returns-in-None : goal.returns-in-None
unfolding slice
returns-in-None c =
    let a = c.args in
    let span = slice a.start a.end a.s.now in
    let is : position (λ x. eqb x a.mark) span ≡ None = sym c.first.ensures ∙ c.in-None.is in
    let long : length span ≡ a.end - a.start = simp (length-take, length-drop) (omega arith) in
    (omega (arith, found_none a.mark span is, long), omega arith)
