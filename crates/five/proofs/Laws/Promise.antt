-- What the row of an accepted call promises: a settled value is that pair in every completion, so a count above 0 means that every completion
-- shows the fault, and where every input is named no line is x. An accepted image names a board without feedback, and there the laws hold.
use mathlib.Core.Path.{◌≡◌, refl, sym, ap, ◌∙◌}
use mathlib.Core.Logic.{⊎_elim}
use mathlib.Core.List.{List, [], ◌∷◌, map}
use mathlib.Core.Bool.{Bool, true, false, not}
use Prim.Native.Nat.{ℕ, ◌<◌}
use native.Mathlib.Nat.{not-suc-le-zero, zero-add}
use lib.Dec.{eqb}
use lib.ListN.{get_or}
use borrow.Author.Tests.{eqb-true, eqb-false}
use Rattle.std.specs.Prelude.{Ok}
use Rattle.board.specs.Lists.{somewhere, bit, ones}
use Rattle.board.specs.Board.{inputs, Low}
use Rattle.board.specs.Row.{value}
use Rattle.board.specs.Gate.{bit_of, good, faulty}
use Rattle.board.specs.Test.{differs, shows}
use Rattle.board.specs.Five.{good_half, faulty_half, five, partial, Completes}
use Rattle.board.specs.declared.Fault.{Fault}
use Rattle.board.specs.declared.Condition.{Condition}
use Rattle.board.specs.declared.Condition.TheVariants.{Having}
use Rattle.board.proofs.Lists.{way, or_true, or_right, where_passes, passes_somewhere}
use Rattle.board.proofs.Row.{row_at}
use Rattle.board.proofs.Fine.{fine_low}
use Rattle.board.proofs.Five.{every_completion, all_named}
use Rattle.image.specs.Image.{line_count, board_of}
use Rattle.image.specs.Refusals.{Accepted}
use Rattle.image.specs.Promise.{Owes}
use Rattle.image.specs.Inner.{OnBoard}
use Rattle.image.proofs.Laws.Fine.{line_count_lem, accepted_fine}
use Rattle.five.specs.Driven.{is_driven, driven_of, driven}
use Rattle.five.specs.Five.{driven_says, five_row, five_promise}
use Rattle.five.proofs.Laws.Call.{count_says}

-- where a count is above 0, something was counted
some_driven : (t : ℕ → Bool) (xs : List ℕ) → 0 < ones (map (λ x. bit (t x)) xs) → somewhere t xs ≡ true
some_driven t [] l = absurd (not-suc-le-zero l)
some_driven t (x ∷ xs) l =
    ⊎_elim
    (λ (e : t x ≡ true). rw e)
    (λ (e : t x ≡ false). or_right (t x) (somewhere t xs) (some_driven t xs (rw (e, zero-add) at l)))
    (way (t x))

-- D and D-bar are settled, and their halves differ
driven-apart : (v : ℕ) → is_driven v ≡ true → (v ≡ 2 → ⊥) × (eqb (good_half v) (faulty_half v) ≡ false)
driven-apart v e =
    ⊎_elim
    (λ q. let is = eqb-true v 3 q in rw is (eqb-false 3 2 refl, refl))
    (λ q. let is = eqb-true v 4 q in rw is (eqb-false 4 2 refl, refl))
    (or_true (eqb v 3) (eqb v 4) e)

-- the row in any condition of an accepted image's board
module _ (s : List ℕ) (ok : Accepted s) (φ : Condition) (on : OnBoard s φ) (named values : ℕ) where
  -- what stands in the row is the line's five value
  row_says : (i : ℕ) → i < line_count s → get_or (five_row s φ named values) i 0 ≡ value (five φ (partial named values)) (board_of s) i
  unfolding five_row
  row_says i l = row_at (five φ (partial named values)) (board_of s) (line_count s) i l

  low : Low (board_of s)
  low = fine_low (board_of s) (accepted_fine s ok)

  row_settled : (x : ℕ) → Completes x named values → (i : ℕ) → i < line_count s → (get_or (five_row s φ named values) i 0 ≡ 2 → ⊥)
      → (good_half (get_or (five_row s φ named values) i 0) ≡ value (good x) (board_of s) i)
      × (faulty_half (get_or (five_row s φ named values) i 0) ≡ value (faulty φ x) (board_of s) i)
  row_settled x c i l settled =
      let is = row_says i l in
      rw is (every_completion (board_of s) low φ on.held named values x c i (λ e. settled (is ∙ e)))

  driven-differs : (x : ℕ) → Completes x named values → (o : ℕ) → o < line_count s → is_driven (get_or (five_row s φ named values) o 0) ≡ true
      → differs (board_of s) φ x o ≡ true
  unfolding differs
  driven-differs x c o l d =
      let (settled, apart) = driven-apart (get_or (five_row s φ named values) o 0) d in
      let (g, f) = row_settled x c o l settled in
      ap not (rw (g, f) at apart)

  row_shows : 0 < driven (board_of s) (five_row s φ named values) → (x : ℕ) → Completes x named values → shows (board_of s) φ x ≡ true
  unfolding shows driven_of
  row_shows some x c =
      let t : ℕ → Bool = λ o. is_driven (get_or (five_row s φ named values) o 0) in
      let (o, m, d) = where_passes t (board_of s).outs (some_driven t (board_of s).outs some) in
      let l = rw (line_count_lem s) at ((accepted_fine s ok).outs_inside o m) in
      passes_somewhere (differs (board_of s) φ x) (board_of s).outs o m (driven-differs x c o l d)

  row_named : ((i : ℕ) → i < inputs (board_of s) → bit_of named i ≡ 1) → (i : ℕ) → i < line_count s → get_or (five_row s φ named values) i 0 ≡ 2 → ⊥
  row_named full i l e =
      all_named (board_of s) low φ on.held named values (line_count s)
      (λ j m k. full j ((accepted_fine s ok).inputs-first j (rw (line_count_lem s) m) k)) i l (sym (row_says i l) ∙ e)

-- the call's row
module _ (s : List ℕ) (named values : ℕ) (φ : Fault) (old : List ℕ) (n : ℕ) (new : List ℕ)
    (owes : Owes (five_promise s named values φ old) (new ∷ []) (driven_says (Ok n))) where
  -- wherever it says 0, 1, D or D-bar, every completion of the partial pattern has that pair of good and faulty values there
  pub settled_always : (x : ℕ) → Completes x named values → (i : ℕ) → i < line_count s → (get_or new i 0 ≡ 2 → ⊥)
      → (good_half (get_or new i 0) ≡ value (good x) (board_of s) i) × (faulty_half (get_or new i 0) ≡ value (faulty (Having φ) x) (board_of s) i)
  settled_always =
      let (fills, count, filled) = count_says s named values φ old n new owes in
      rw filled (row_settled s fills.ok (Having φ) fills.condition named values)

  -- so a count above 0 means that every completion shows the fault
  pub count_shows : 0 < n → (x : ℕ) → Completes x named values → shows (board_of s) (Having φ) x ≡ true
  count_shows some =
      let (fills, count, filled) = count_says s named values φ old n new owes in
      row_shows s fills.ok (Having φ) fills.condition named values (rw (count, filled) at some)

  -- and where no input is left unnamed no line is x
  pub named_settled : ((i : ℕ) → i < inputs (board_of s) → bit_of named i ≡ 1) → (i : ℕ) → i < line_count s → get_or new i 0 ≡ 2 → ⊥
  named_settled =
      let (fills, count, filled) = count_says s named values φ old n new owes in
      rw filled (row_named s fills.ok (Having φ) fills.condition named values)
