-- The output lines that hold D or D-bar are those that a count of their places meets.
use mathlib.Core.Path.{◌≡◌, refl, sym, ◌∙◌}
use mathlib.Core.Bool.{Bool, true, false, cond}
use mathlib.Core.List.{List, map}
use Prim.Native.Nat.{ℕ, ◌+◌}
use native.Mathlib.Nat.{zero-add}
use lib.ListN.{get_or}
use Rattle.std.specs.List.{count_by, range_with_len}
use Rattle.std.proofs.lemmas.List.Recursion.{is_count_by}
use Rattle.std.proofs.lemmas.List.FromFn.{fill_by_all}
use Rattle.board.specs.Lists.{bit, ones}
use Rattle.image.specs.Image.{output_count, output_at, board_of}
use Rattle.image.proofs.Laws.Fine.{output_count_lem, output_at_lem}
use Rattle.five.specs.Driven.{is_driven, driven_of, driven}

bit_more : (b : Bool) (n : ℕ) → bit b + n ≡ cond b (1 + n) n
bit_more true n = refl
bit_more false n = zero-add n

counted_at : (t : ℕ → Bool) (at : ℕ → ℕ) (ks : List ℕ) → count_by (λ k. t (at k)) ks ≡ ones (map (λ o. bit (t o)) (map at ks))
counted_at t at ks = sym (is_count_by (λ xs. ones (map (λ o. bit (t o)) (map at xs))) (λ k. t (at k)) refl (λ k xs. bit_more (t (at k)) _) ks)

pub outputs_driven : (s row : List ℕ) → count_by (λ k. is_driven (get_or row (output_at s k) 0)) (range_with_len 0 (output_count s)) ≡ driven (board_of s) row
unfolding driven_of
outputs_driven s row =
    counted_at (λ o. is_driven (get_or row o 0)) (output_at s) (range_with_len 0 (output_count s))
    ∙ rw (← (fill_by_all (output_at s) (board_of s).outs (output_count s) 0 (output_count_lem s) (output_at_lem s)))
