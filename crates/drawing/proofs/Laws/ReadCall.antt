-- What the reader owes of a board that a text names: its counts' refusal, or what is owed of its image.
use mathlib.Core.Path.{◌≡◌, refl}
use mathlib.Core.Bool.{true, false, ◌||◌}
use mathlib.Core.List.{List, [], ◌∷◌, ◌++◌}
use Prim.Native.Nat.{ℕ, ◌*◌, ◌≤◌}
use native.Mathlib.Omega.{arith}
use lib.ListN.{length, take}
use Rattle.board.specs.Limits.{most_lines, most_outputs}
use Rattle.board.specs.Board.{Board}
use Rattle.image.specs.Refusals.{outside, first_refusal}
use Rattle.image.specs.Promise.{numbers, Owes}
use Rattle.image.specs.declared.Refusal.TheVariants.{Counts}
use Rattle.image.proofs.Laws.Promise.{owes_refused}
use Rattle.drawing.specs.Image.{trailer_bytes, image_of}
use Rattle.drawing.specs.Calls.{names, read_refusals, read_promise}
use Rattle.drawing.specs.Inner.{Holds, held_promise}

module _ (b : Board) (lines outs : ℕ) (records outputs target : List ℕ) (holds : Holds b lines outs records outputs) where
  pub counts_refused : (outside most_lines lines || outside most_outputs outs) ≡ true → Owes (read_promise (names b) target) (target ∷ []) (numbers Counts)
  unfolding read_refusals
  counts_refused t =
      let test : (outside most_lines (length b.lines) || outside most_outputs (length b.outs)) ≡ true = rw (holds.lines_are, holds.outs_are) at t in
      owes_refused {r = Counts} (rw test refl)

  pub image_kept : lines ≤ most_lines → outs ≤ most_outputs → take (10 * lines) records ++ take (2 * outs) outputs ++ trailer_bytes lines outs ≡ image_of b
  unfolding image_of
  image_kept few small =
      let l = holds.lines_are in
      let o = holds.outs_are in
      rw (l, o, holds.kept.lines (omega arith), holds.kept.outs (omega arith))

  pub image_owed : (outside most_lines lines || outside most_outputs outs) ≡ false → (left : List (List ℕ)) (said : List ℕ) → Owes (held_promise (image_of b) target) left said
      → Owes (read_promise (names b) target) left said
  unfolding read_refusals
  image_owed t left said owes =
      let test : (outside most_lines (length b.lines) || outside most_outputs (length b.outs)) ≡ false = rw (holds.lines_are, holds.outs_are) at t in
      let same : first_refusal (read_promise (names b) target).refusals ≡ first_refusal (held_promise (image_of b) target).refusals = rw test refl in
      record { answers = rw same owes.answers; leaves = rw same owes.leaves }
