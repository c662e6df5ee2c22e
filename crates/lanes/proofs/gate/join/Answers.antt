-- All, some or an odd number, by the kind.
use Rattle.std.proofs.Common.{get_or, ap, ◌∙◌}
use Rattle.std.specs.Int.Bits.{bit_and, bit_or, bit_xor}
use Rattle.lanes.specs.Words.{each}
use Rattle.lanes.proofs.Laws.Eight.{joined_is}
use Rattle.lanes.proofs.Laws.Join.{joins_all, joins_some, joins_odd}
use Rattle.lanes.proofs.gate.join.Goals as goal
use Rattle.lanes.proofs.gate.join.Goals.{then-kind-lt5, else-kind-lt5, then-kind-lt7, else-kind-lt7}
use mathlib.Core.Path.{fun_ext}

pub returns : goal.returns
returns c =
    let k = c.args.kind in
    let a = c.args.a in
    let b = c.args.b in
    let long-a = c.fits-a.0 in
    let long-b = c.fits-b.0 in
    elim c.if-kind-lt5.branch [
      | then-kind-lt5 t ↦ t.result-is
          ∙ joined_is bit_and a b long-a long-b
          ∙ ap each (fun_ext (λ w. joins_all k (get_or a w 0) (get_or b w 0) t.if-kind-lt5.true))
      | else-kind-lt5 t ↦ t.result-is
          ∙ elim t.if-kind-lt7.branch [
            | then-kind-lt7 u ↦ u.result-is
                ∙ joined_is bit_or a b long-a long-b
                ∙ ap each (fun_ext (λ w. joins_some k (get_or a w 0) (get_or b w 0) t.if-kind-lt5.false u.if-kind-lt7.true))
            | else-kind-lt7 u ↦ u.result-is
                ∙ joined_is bit_xor a b long-a long-b
                ∙ ap each (fun_ext (λ w. joins_odd k (get_or a w 0) (get_or b w 0) t.if-kind-lt5.false u.if-kind-lt7.false))
          ]
    ]
