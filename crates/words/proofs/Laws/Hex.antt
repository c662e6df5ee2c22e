-- The bytes of a HEX word, one more at a time.
use mathlib.Core.Path.{◌≡◌, sym, ◌∙◌}
use mathlib.Core.List.{List, ◌++◌}
use Prim.Native.Nat.{ℕ, ◌+◌, ◌<◌}
use native.Mathlib.Nat.{zero-add}
use native.Mathlib.Numerals.{add-one}
use native.Mathlib.Omega.{arith}
use lib.ListN.{length, take, drop, set}
use lib.Seq.{paste-suc}
use Rattle.board.specs.Lists.{build}
use Rattle.board.proofs.Lists.{build-length, build_at}

-- one number more of a built list, put at the front of others
pub put_more : (f : ℕ → List ℕ → ℕ) (n : ℕ) (old out : List ℕ) (i v : ℕ) → out ≡ take i (build f n) ++ drop i old → i < n → i < length old → v ≡ f i (build f i)
    → set out i v ≡ take (i + 1) (build f n) ++ drop (i + 1) old
put_more f n old out i v before fits room is =
    rw (before, is ∙ sym (build_at f n i fits), add-one)
    (simp zero-add at (paste-suc old 0 (build f n) i 0 (omega arith) (rw (build-length f n) fits)))
