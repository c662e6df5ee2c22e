-- What is left to join after j pins gives the same in the end.
use Rattle.std.proofs.Common.{List, ℕ, ◌+◌, get_or, drop, sym, ap, ◌∙◌}
use Rattle.std.specs.Int.Bits.{bit_xor}
use Rattle.lanes.specs.Words.{full, joined, joined_all}
use Rattle.lanes.proofs.Laws.Eight.{word_at, joined_alike}
use Rattle.lanes.proofs.Laws.Join.{joined_next, joined_end, gate-asks, gate_turns}
use Rattle.lanes.proofs.gate.gate_words.Goals as goal
use Rattle.lanes.proofs.gate.gate_words.Goals.{then-kind-eq1, else-kind-eq1}

pub loop-j-preserved : goal.loop-j-preserved
loop-j-preserved c =
    let a = c.args in
    let k = a.gate.now.kind in
    let j = c.loop-j.j in
    let inside = rw c.from-j-end.ensures at c.loop-j-test.true in
    λ w ws l size reads_it.
    let at = get_or a.places j 0 in
    let pin = word_at _ (λ v. get_or a.rows.now (at + v) 0) c.eight_at.ensures w l ∙ sym (reads_it j inside) in
    ap (λ (x : ℕ). joined_all k x (drop (j + 1) ws))
    (word_at _ (λ v. joined k (get_or c.loop-j.a v 0) (get_or c.eight_at.result v 0)) c.join-next.ensures w l)
    ∙ joined_next k (get_or c.loop-j.a w 0) _ ws j _ (rw size inside) pin (c.loop-j.invariant w ws l size reads_it)

pub returns : goal.returns
returns c =
    λ w ws l size reads_it.
    let k = c.args.gate.now.kind in
    let a = c.loop-j.a in
    let asked = joined_end k (get_or a w 0) ws c.loop-j.j _ (rw (size, ← c.from-j-end.ensures) c.loop-j-test.false) (c.loop-j.invariant w ws l size reads_it) in
    elim c.if-kind-eq1.branch [
      | then-kind-eq1 t ↦ ap (λ (e : List ℕ). get_or e w 0) t.result-is ∙ gate-asks k (get_or a w 0) ws t.if-kind-eq1.true asked
      | else-kind-eq1 t ↦ ap (λ (e : List ℕ). get_or e w 0) t.result-is
          ∙ joined_alike bit_xor a full c.loop-j.auto.a.0 w l
          ∙ gate_turns k (get_or a w 0) ws t.if-kind-eq1.false asked
    ]
