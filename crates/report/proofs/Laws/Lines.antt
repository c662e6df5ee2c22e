-- What is said, one number after the other, by how many values stand beside the first; and a line by whether that is 0.
use mathlib.Core.Path.{◌≡◌, refl}
use mathlib.Core.List.{List, [], ◌∷◌}
use mathlib.Core.Bool.{cond}
use Prim.Native.Nat.{ℕ, zero, suc, min}
use native.Mathlib.Omega.{arith}
use lib.Dec.{eqb}
use borrow.Author.Tests.{ne_eqb}
use lib.ListN.{take, get_or}
use Rattle.text.specs.Text.{form}
use Rattle.report.specs.Lines.{refused_text, line_of, counted_line}

-- two values or more
pub refused_two : (n f s t v : ℕ) → (v ≡ 0 → ⊥) → (v ≡ 1 → ⊥) → refused_text (n ∷ take v (f ∷ s ∷ t ∷ [])) ≡ form "refused # at #.#\n" (n ∷ f ∷ s ∷ [])
refused_two n f s t zero not0 not1 = absurd (not0 refl)
refused_two n f s t (suc zero) not0 not1 = absurd (not1 refl)
refused_two n f s t (suc (suc v)) not0 not1 = refl

-- three at most
pub all_said : (f s t v : ℕ) → take (min v 3) (f ∷ s ∷ t ∷ []) ≡ take v (f ∷ s ∷ t ∷ [])
all_said f s t zero = refl
all_said f s t (suc zero) = refl
all_said f s t (suc (suc zero)) = refl
all_said f s t (suc (suc (suc zero))) = refl
all_said f s t (suc (suc (suc (suc v)))) = let most : min (suc (suc (suc (suc v)))) 3 ≡ 3 = omega arith in rw most

-- a first number that is not 0 is a refusal's
pub line_refused : (f : List ℕ) (n : ℕ) (vs : List ℕ) → (n ≡ 0 → ⊥) → line_of f (n ∷ vs) ≡ refused_text (n ∷ vs)
unfolding line_of
line_refused f zero vs not0 = absurd (not0 refl)
line_refused f (suc n) vs not0 = refl

pub counted_refused : (all n : ℕ) (vs : List ℕ) → (n ≡ 0 → ⊥) → counted_line all (n ∷ vs) ≡ refused_text (n ∷ vs)
unfolding counted_line
counted_refused all zero vs not0 = absurd (not0 refl)
counted_refused all (suc n) vs not0 = refl

-- the first value, 0 where there is none
pub first-value : (f s t v : ℕ) → get_or (take v (f ∷ s ∷ t ∷ [])) 0 0 ≡ cond (eqb v 0) 0 f
first-value f s t zero = refl
first-value f s t (suc v) = rw (ne_eqb (suc v) 0 (omega arith))
