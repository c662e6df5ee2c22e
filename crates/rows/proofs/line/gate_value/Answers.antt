-- Each kind's test is the definition's, and of an input, a tie to 0 and what is past the last kind nothing is asked.
use Rattle.std.proofs.Common.{◌≡◌, ◌<◌, ◌≤◌, false, sym, ap, ⊎_elim, arith}
use Rattle.std.proofs.Math.ListN.{get_or-eq_default}
use Rattle.std.proofs.lemmas.Bool.{cases_lt}
use Rattle.board.specs.Lists.{bit}
use Rattle.board.specs.Gate.{kinds}
use Rattle.rows.proofs.line.gate_value.Goals as goal
use Rattle.rows.proofs.line.gate_value.Goals.{in-1, in-2, in-3, in-4, in-5, in-6, in-7, in-8, in-10, in_default}

pub returns : goal.returns
unfolding kinds
returns c =
    let a = c.args in
    elim c.match-kind.branch [
      | in-1 w ↦ rw (w.value-is, w.in-1.is)
      | in-2 w ↦ rw (w.value-is, w.in-2.is)
      | in-3 w ↦ rw (w.value-is, w.in-3.is)
      | in-4 w ↦ rw (w.value-is, w.in-4.is)
      | in-5 w ↦ rw (w.value-is, w.in-5.is)
      | in-6 w ↦ rw (w.value-is, w.in-6.is)
      | in-7 w ↦ rw (w.value-is, w.in-7.is)
      | in-8 w ↦ rw (w.value-is, w.in-8.is)
      | in-10 w ↦ rw (w.value-is, w.in-10.is)
      | in_default w ↦
          rw w.value-is
          (⊎_elim
          (λ (l : a.kind < 11).
          ⊎_elim
          (λ (m : a.kind < 1). let e : a.kind ≡ 0 = omega arith in rw e)
          (λ (m : 1 ≤ a.kind). let e : a.kind ≡ 9 = omega arith in rw e)
          (cases_lt a.kind 1))
          (λ (m : 11 ≤ a.kind). sym (ap bit (get_or-eq_default (kinds a.n a.s) false m)))
          (cases_lt a.kind 11))
    ]
