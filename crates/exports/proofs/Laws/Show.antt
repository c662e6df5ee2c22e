-- The part of a row from a place to its end is told by its length alone, and the numbers that Show promises name the very part that it owes.
use mathlib.Core.Path.{◌≡◌}
use mathlib.Core.Logic.{⊎_elim}
use mathlib.Core.List.{List}
use mathlib.Core.Bool.{Bool, cond}
use Prim.Native.Nat.{ℕ, ◌-◌, min}
use native.Mathlib.Omega.{arith}
use native.Mathlib.Nat.{min-eq_left, min-eq_right, le_of_lt}
use borrow.Author.Tests.{leb-true, leb-false}
use lib.Dec.{leb}
use lib.ListN.{length, take, drop, length-drop, drop_of_length-le}
use lib.Seq.{take_all}
use Rattle.board.proofs.Lists.{way}
use Rattle.rows.specs.Show.{ShowOwes}

module _ (row : List ℕ) (start : ℕ) where
  -- where it begins, counted from the row's end
  pub begins : length row - (length row - start) ≡ min start (length row)
  begins =
      ⊎_elim
      (λ e. let h = leb-true start (length row) e in rw (min-eq_left h) (omega arith))
      (λ e. let h = leb-false start (length row) e in rw (min-eq_right (le_of_lt h)) (omega arith))
      (way (leb start (length row)))

  same-part : drop (min start (length row)) row ≡ drop start row
  same-part =
      ⊎_elim
      (λ e. rw (min-eq_left (leb-true start (length row) e)))
      (λ e.
      let h = leb-false start (length row) e in
      rw (min-eq_right (le_of_lt h), drop_of_length-le row {i = start} (omega arith), drop_of_length-le row {i = length row} (omega arith)))
      (way (leb start (length row)))

  pub part_again : take (length row - start) (drop (min start (length row)) row) ≡ drop start row
  part_again = rw same-part (take_all (length row - start) (drop start row) (simp length-drop (omega arith)))

-- the bytes that the numbers name are the part that Show owes
pub numbers_show : (good_row faulty_row : List ℕ) (wants : Bool) (start : ℕ) → let row = cond wants faulty_row good_row in
    ShowOwes good_row faulty_row wants start (take (length row - start) (drop (min start (length row)) row))
numbers_show good_row faulty_row wants start = record { part_of = part_again (cond wants faulty_row good_row) start }
