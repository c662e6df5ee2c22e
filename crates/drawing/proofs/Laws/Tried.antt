-- Pieces tried one after the other: how many bytes the best of them shares with a text.
use mathlib.Core.Path.{◌≡◌, sym, ap, ◌∙◌}
use mathlib.Core.Logic.{⊎_elim, ◌⊎◌}
use mathlib.Core.Bool.{true}
use mathlib.Core.List.{List, ◌++◌}
use Prim.Native.Nat.{ℕ, suc, ◌+◌, ◌≤◌, ◌<◌}
use native.Mathlib.Omega.{arith}
use lib.Dec.{eqb}
use lib.ListN.{length, take, drop, take-append-drop}
use lib.Seq.{take-append-le, take-length, length-take-le}
use borrow.Author.Tests.{eqb-true, eqb-false}
use Rattle.std.specs.Prelude.{Ok}
use Rattle.board.proofs.Lists.{way}
use Rattle.text.specs.Text.{Written}
use Rattle.drawing.specs.Inner.{piece, NoPiece, Common, Chosen}
use Rattle.drawing.proofs.Laws.Stops.{share_less}

-- the pieces from a number up to `which` have been tried
pub record Tried (from to k : ℕ) (rest : List ℕ) (best which : ℕ) : Type 0 where
  pub inside : best ≤ length rest
  pub one : (w : ℕ) × (from ≤ w) × (w < to) × (take best (piece w k) ≡ take best rest)
  pub none_more : (w : ℕ) → from ≤ w → w < which → (x : List ℕ) → take (suc best) (piece w k ++ x) ≡ take (suc best) rest → ⊥

module _ (from to k : ℕ) (rest : List ℕ) (best which : ℕ) (before : Tried from to k rest best which) where
  pub tried_more : (m r : ℕ) → from ≤ which → which < to → Common rest (piece which k) m → (m ≡ length (piece which k) → ⊥) → best ≤ r → m ≤ r → (r ≡ best) ⊎ (r ≡ m)
      → Tried from to k rest r (which + 1)
  tried_more m r a b common short over-best over-m is =
      record {
        inside = ⊎_elim (λ e. rw e before.inside) (λ e. rw e common.inside) is;
        one = ⊎_elim (λ e. rw e before.one) (λ e. rw e (which, a, b, common.same)) is;
        none_more = λ w c d x e.
            ⊎_elim
            (λ (same : eqb w which ≡ true).
            let it = eqb-true w which same in
            let share = share_less (suc m) (suc r) (piece which k ++ x) rest (omega arith) (rw it at e) in
            let part = common.part in
            common.most (omega arith) (sym (take-append-le (suc m) (piece which k) x (omega arith)) ∙ share))
            (λ other.
            let no_same = eqb-false w which other in
            before.none_more w c (omega arith) x (share_less (suc best) (suc r) (piece w k ++ x) rest (omega arith) e))
            (way (eqb w which));
      }

  pub tried_all : to ≤ which → NoPiece from to k rest best
  tried_all all = record { inside = before.inside; one = before.one; most = λ w a b. before.none_more w a (omega arith) }

-- a word that was put into a buffer, and its length
module _ (rest out : List ℕ) (which k n m : ℕ) (written : Written n out (piece which k)) (common : Common rest (take n out) m) where
  pub of_piece : Common rest (piece which k) m
  of_piece = rw written.is at common

  pub long_is : n ≡ length (piece which k)
  long_is = sym (length-take-le n out written.room) ∙ ap length written.is

  pub took : (from to : ℕ) → from ≤ which → which < to → m ≡ n → Chosen from to k rest (Ok (record { which = which; length = n }))
  took from to a b e =
      let same = of_piece.same in
      let all : take n (piece which k) ≡ piece which k = ap (λ (j : ℕ). take j (piece which k)) long_is ∙ take-length (piece which k) in
      (a, b, long_is, rw (sym e) of_piece.inside, sym (take-append-drop n rest) ∙ ap (λ (z : List ℕ). z ++ drop n rest) (sym (rw e at same) ∙ all))
