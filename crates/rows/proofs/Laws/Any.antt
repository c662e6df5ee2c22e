-- A test that passes somewhere in a list, as `any` tries it: at each element, or at each place.
use mathlib.Core.Path.{◌≡◌, refl}
use mathlib.Core.List.{List}
use mathlib.Core.Bool.{Bool, ◌||◌}
use Prim.Native.Nat.{ℕ, ◌<◌}
use lib.ListN.{length, get_or}
use Rattle.std.specs.List.{list_any, range_with_len}
use Rattle.std.proofs.lemmas.List.Recursion.{same_from_clauses}
use Rattle.std.proofs.lemmas.List.FromFn.{fill_by_all}
use Rattle.board.specs.Lists.{somewhere}
use Rattle.board.proofs.Lists.{somewhere-map}

pub any_somewhere : (t : ℕ → Bool) (xs : List ℕ) → list_any t xs ≡ somewhere t xs
any_somewhere t = same_from_clauses (list_any t) (somewhere t) (λ x b. t x || b) refl (λ _ _. refl) (λ _ _. refl)

pub any_at : (t : ℕ → Bool) (xs : List ℕ) (at : ℕ → ℕ) (n : ℕ) → length xs ≡ n → ((k : ℕ) → k < n → get_or xs k 0 ≡ at k)
    → list_any (λ k. t (at k)) (range_with_len 0 n) ≡ somewhere t xs
any_at t xs at n long each =
    rw (fill_by_all at xs n 0 long each, somewhere-map) (any_somewhere (λ k. t (at k)) (range_with_len 0 n))
