-- A fault on an absent pin has no test: no gate reads that pin, so every line has its good value.
use mathlib.Core.Path.{◌≡◌, refl, sym, ap, ◌∙◌}
use mathlib.Core.Logic.{⊎_elim}
use mathlib.Core.Option.{none}
use mathlib.Core.List.{List, map}
use mathlib.Core.Bool.{true, false, not}
use Prim.Native.Nat.{ℕ, ◌^◌, ◌≤◌}
use lib.Dec.{eqb}
use lib.ListN.{length, get_or, length-map}
use lib.Seq.{set_out}
use borrow.Author.Tests.{eq-eqb, eqb-true, leb-true}
use Rattle.board.specs.Lists.{somewhere}
use Rattle.board.specs.Board.{Board, record_of, inputs}
use Rattle.board.specs.Row.{step, row, value}
use Rattle.board.specs.Gate.{good, faulty, absent}
use Rattle.board.specs.Test.{differs, shows, find}
use Rattle.board.specs.declared.Condition.{Condition}
use Rattle.board.specs.declared.Fault.TheVariants.{Line, Pin}
use Rattle.board.specs.declared.Condition.TheVariants.{Sound, Having}
use Rattle.board.proofs.Lists.{build-same, where_passes, clash, way}
use Rattle.board.proofs.Search.{smallest_is_first}

module _ (b : Board) (φ : Condition) (none-there : absent b φ ≡ true) (x : ℕ) where
  under-absent : (i k : ℕ) (vs : List ℕ) → length vs ≡ length (record_of b i).pins → good x i k vs ≡ faulty φ x i k vs
  under-absent i k vs e = go φ none-there
    where
      go : (φ : Condition) → absent b φ ≡ true → good x i k vs ≡ faulty φ x i k vs
      go Sound a = refl
      go (Having (Line l s)) a = cc
      go (Having (Pin l p s)) a =
          ⊎_elim
          (λ (q : eqb i l ≡ true).
          let past : length vs ≤ p = rw (e, eqb-true i l q) (leb-true _ p a) in
          rw (q, set_out vs p s past))
          (λ (q : eqb i l ≡ false). rw q)
          (way (eqb i l))

  absent-step : (i : ℕ) (r : List ℕ) → step (good x) b i r ≡ step (faulty φ x) b i r
  absent-step i r = under-absent i (record_of b i).kind (map (λ (p : ℕ). get_or r p 0) (record_of b i).pins) (length-map (record_of b i).pins _)

  absent-same : (o : ℕ) → value (good x) b o ≡ value (faulty φ x) b o
  unfolding value
  absent-same o =
      absent-step o (row (good x) b o) ∙ ap (step (faulty φ x) b o) (build-same _ _ o (λ i r l. absent-step i r))

  pub absent_hidden : shows b φ x ≡ false
  unfolding shows differs
  absent_hidden =
      ⊎_elim
      (λ e. let (o, m, apart) = where_passes _ b.outs e in clash _ apart (ap not (eq-eqb _ _ (absent-same o))))
      (λ e. e)
      (way (somewhere (differs b φ x) b.outs))

-- so its answer is none
pub absent_none : (b : Board) (φ : Condition) → absent b φ ≡ true → find b φ ≡ none
unfolding find
absent_none b φ none-there = sym (smallest_is_first (shows b φ) (2 ^ inputs b) none (λ q l. absent_hidden b φ none-there q))
