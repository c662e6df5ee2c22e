-- The texts of the numbers from a place on.
use mathlib.Core.Path.{◌≡◌}
use mathlib.Core.List.{List, [], ◌++◌}
use Prim.Native.Nat.{ℕ, ◌+◌, ◌<◌}
use native.Mathlib.Numerals.{add-one}
use lib.ListN.{length, get_or, drop}
use lib.Seq.{drop-cons, drop-length}
use Rattle.text.specs.Text.{each}

module _ (f : ℕ → List ℕ) (numbers : List ℕ) (i : ℕ) where
  pub each_at : i < length numbers → each f (drop i numbers) ≡ f (get_or numbers i 0) ++ each f (drop (i + 1) numbers)
  unfolding each
  each_at inside = rw (add-one i, drop-cons numbers i 0 inside)

  pub each_past : i ≡ length numbers → each f (drop i numbers) ≡ []
  unfolding each
  each_past e = rw (e, drop-length numbers)
