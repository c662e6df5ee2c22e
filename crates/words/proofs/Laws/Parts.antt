-- The parts that are left of a text between marks, one part more at a time.
use Rattle.std.proofs.Common.{◌≡◌, ap, subst, ◌∙◌, Bool, true, false, cond, List, [], ◌∷◌, ◌++◌, ℕ, length, arith, Bor, Some, All}
use Rattle.std.proofs.lemmas.Grind.{common_steps}
use Rattle.std.proofs.lemmas.List.Splits.{slice_split_none, slice_split_at}
use Rattle.std.specs.Bool.{MatchBool}
use Rattle.std.specs.Fn.{ComputesKey}
use Rattle.std.specs.List.{slice_split, IsFirstMatchOrLen}
use Rattle.std.specs.Slice.Iter.{split_rest, split_done, split_callee, split_steps}
use Rattle.std.specs.declared.slice.Split.{Split}
use denote.Param.Members.{Mut}

-- the parts that a cut of a text has left
abbrev pub left : {F : Type 0} → (ℕ → Bool) → Split ℕ F → List (List ℕ)
left p s = cond (split_done s) [] (slice_split p (split_rest s))

split_part : (p : ℕ → Bool) (xs x rest : List ℕ) (done : Bool) → MatchBool done (xs ≡ x) ((y : ℕ) × (xs ≡ x ++ (y ∷ rest))) → IsFirstMatchOrLen p xs (length x)
    → slice_split p xs ≡ x ∷ cond done [] (slice_split p rest)
split_part p xs x rest true e h = ap (slice_split p) e ∙ slice_split_none p x (λ k d l. subst (λ ys. p (lib.ListN.get_or ys k d) ≡ false) e (h.0 k d (omega arith) l))
split_part p xs x rest false e h =
    let front : All (λ z. p z ≡ false) x = λ k d l. let a = h.0 k d (omega arith) l in let b = e.1 in grind (arith, common_steps) in
    let hit : p e.0 ≡ true = let b = e.1 in let a = h.1 (grind (arith, common_steps)) e.0 in grind (arith, common_steps) in
    ap (slice_split p) e.1 ∙ slice_split_at p x e.0 rest front hit

module _ {F : Type 0} (p : ℕ → Bool) (s : Split ℕ F) where
  pub left_more : (g : Mut F (Bor ℕ × Unit {0}) Bool) (t : Split ℕ F) (x : Bor (List ℕ)) → split_steps g s (Some x) t → ComputesKey g p (split_callee s) → left p s ≡ x.now ∷ left p t
  left_more g t x step computes = rw step.0 (split_part p (split_rest s) x.now (split_rest t) (split_done t) step.1 (step.2 p computes).1)

  pub left_none : split_done s ≡ true → left p s ≡ []
  left_none done = rw done
