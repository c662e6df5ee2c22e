-- Where a mark first stands in a list, and where a search for it finds it.
use Rattle.std.proofs.Common.{◌≡◌, ℕ, ◌<◌, ◌≤◌, ◌+◌, suc, List, [], ◌∷◌, Bool, true, false, not, cond, eqb, ltb, length, Some, None, refl, sym, ◌∙◌, arith}
use Rattle.std.specs.List.{position, position_or_len}
use borrow.Author.Tests.{ltb-true, ltb-false}
use Rattle.spans.specs.Span.{index_after, index_of}

module _ (mark : ℕ) where
  index_is : (xs : List ℕ) → index_of mark xs ≡ position_or_len (λ x. eqb x mark) xs
  unfolding index_of
  index_is [] = refl
  index_is (x ∷ xs) =
      elim (eqb x mark) as (λ b. index_after b (index_of mark xs) ≡ cond (not b) (1 + position_or_len (λ y. eqb y mark) xs) 0) [ true ↦ refl | false ↦ omega (arith, index_is xs) ]

  index_few : (xs : List ℕ) → index_of mark xs ≤ length xs
  unfolding index_of
  index_few [] = omega arith
  index_few (x ∷ xs) =
      let more = index_few xs in
      elim (eqb x mark) as (λ b. index_after b (index_of mark xs) ≤ suc (length xs)) [ true ↦ omega arith | false ↦ omega arith ]

  -- what a search gives is where the mark first stands, and it gives none where that is nowhere
  pub found : (xs : List ℕ) (at : ℕ) → position (λ x. eqb x mark) xs ≡ Some at → (at ≡ index_of mark xs) × (at < length xs)
  found xs at e = go (ltb (position_or_len (λ x. eqb x mark) xs) (length xs)) refl e
    where
      go : (b : Bool) → ltb (position_or_len (λ x. eqb x mark) xs) (length xs) ≡ b → cond b (Some (position_or_len (λ x. eqb x mark) xs)) None ≡ Some at
          → (at ≡ index_of mark xs) × (at < length xs)
      go true t e =
          let is : position_or_len (λ x. eqb x mark) xs ≡ at = cc in
          let inside = ltb-true _ _ t in
          (sym (index_is xs ∙ is), omega arith)
      go false t e = cc

  pub found_none : (xs : List ℕ) → position (λ x. eqb x mark) xs ≡ None → index_of mark xs ≡ length xs
  found_none xs e = go (ltb (position_or_len (λ x. eqb x mark) xs) (length xs)) refl e
    where
      go : (b : Bool) → ltb (position_or_len (λ x. eqb x mark) xs) (length xs) ≡ b → cond b (Some (position_or_len (λ x. eqb x mark) xs)) None ≡ None → index_of mark xs ≡ length xs
      go true t e = cc
      go false t e = let over = ltb-false _ _ t in let few = index_few xs in omega (arith, index_is xs)
