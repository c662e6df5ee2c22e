-- One more is fresh.
use Rattle.std.proofs.Common.{◌≡◌, ◌<◌, ℕ, zero, suc, List, [], ◌∷◌, ◌++◌, length, drop, slice_set, ap, refl, add-one, arith}
use Rattle.std.specs.Prelude.{replicate}
use Rattle.kept.proofs.lent.Lent.lend.Goals as goal

fresh_more : {A : Type 0} (d : List A) (i : ℕ) (y : A) → i < length d → slice_set (replicate i y ++ drop i d) i y ≡ replicate (suc i) y ++ drop (suc i) d
fresh_more [] i y l = absurd (omega arith)
fresh_more (x ∷ xs) zero y l = refl
fresh_more (x ∷ xs) (suc i) y l = ap (λ t. y ∷ t) (fresh_more xs i y (omega arith))

pub loop-place-preserved : goal.loop-place-preserved
loop-place-preserved g c = rw (c.loop-place.invariant, add-one) (fresh_more _ _ c.args.fresh c.loop-place-test.true)
