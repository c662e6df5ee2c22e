-- Rows of marks: by the numbers of a board's lines those are marked that meet a line; a line that meets no line before an alteration of its
-- record meets none after it; and the front of a row without marks has none.
use mathlib.Core.Path.{◌≡◌, refl, sym, ap, ◌∙◌}
use mathlib.Core.Logic.{⊎_elim}
use mathlib.Core.List.{List, [], ◌∷◌}
use mathlib.Core.Bool.{Bool, true, false, ◌||◌, ◌&&◌, or-false}
use Prim.Native.Nat.{ℕ, zero, suc}
use lib.Bits.{bit_and}
use lib.ListN.{length, get_or, take}
use Rattle.board.specs.Lists.{◌among◌, somewhere, bit, on}
use Rattle.board.specs.Board.{Board, Record, Low, altered}
use Rattle.board.specs.Reach.{reach, meets}
use Rattle.board.proofs.Lists.{way, clash, nowhere, where_passes, build_at}
use Rattle.board.proofs.Reach.{on_bit}
use Rattle.board.proofs.Test.{reach-altered}
use Rattle.reach.specs.Numbers.{Numbered}
use Rattle.reach.proofs.Laws.Share.{shared}
use Rattle.alter.specs.Inner.{Met, with_common}

pub common_met : (b : Board) (numbers : List ℕ) → Numbered b numbers → (a : ℕ) (marks : List ℕ) {new : List ℕ} → new ≡ with_common numbers (get_or numbers a 0) marks
    → Met b a marks new
unfolding with_common
common_met b numbers right a marks is l inside =
    ap (λ (row : List ℕ). on (get_or row l 0)) is
    ∙ ap on (build_at (λ k before. bit (on (get_or marks k 0) || on (bit_and (get_or numbers a 0) (get_or numbers k 0)))) (length marks) l inside)
    ∙ on_bit (on (get_or marks l 0) || on (bit_and (get_or numbers a 0) (get_or numbers l 0)))
    ∙ rw (shared b numbers right a l)

-- a row is as it should be where no line is to be marked
pub still_met : (b : Board) (a : ℕ) (marks : List ℕ) → ((l : ℕ) → meets b a l ≡ false) → Met b a marks marks
still_met b a marks alone l inside = rw (alone l) (sym (or-false (on (get_or marks l 0))))

-- a line that does not meet itself reaches no output
pub meets_itself : (b : Board) (a : ℕ) → meets b a a ≡ false → (o : ℕ) → o among b.outs → reach b a o ≡ false
unfolding meets
meets_itself b a e o m =
    ⊎_elim
    (λ (r : reach b a o ≡ true). clash (reach b a o && reach b a o) (rw r) (nowhere (λ o. reach b a o && reach b a o) b.outs e o m))
    (λ r. r)
    (way (reach b a o))

-- and a line that reaches no output reaches none that another reaches
pub meets_none : (b : Board) (a l : ℕ) → ((o : ℕ) → o among b.outs → reach b a o ≡ false) → meets b a l ≡ false
unfolding meets
meets_none b a l alone =
    let both : ℕ → Bool = λ o. reach b a o && reach b l o in
    ⊎_elim
    (λ e. let (o, m, y) = where_passes both b.outs e in clash (both o) y (rw (alone o m)))
    (λ e. e)
    (way (somewhere both b.outs))

-- before an alteration of its record or after, since that leaves what it reaches as it was
pub meets_none_after : (b : Board) (a : ℕ) (r : Record) → Low b → Low (altered b a r) → ((o : ℕ) → o among b.outs → reach b a o ≡ false)
    → (l : ℕ) → meets (altered b a r) a l ≡ false
meets_none_after b a r low later alone l = meets_none (altered b a r) a l (λ o m. sym (reach-altered b a r low later o) ∙ alone o m)

pub front_unmarked : (n : ℕ) (row : List ℕ) → ((l : ℕ) → get_or row l 0 ≡ 0) → (l : ℕ) → get_or (take n row) l 0 ≡ 0
front_unmarked zero row bare l = refl
front_unmarked (suc n) [] bare l = refl
front_unmarked (suc n) (v ∷ row) bare zero = bare 0
front_unmarked (suc n) (v ∷ row) bare (suc l) = front_unmarked n row (λ k. bare (suc k)) l
