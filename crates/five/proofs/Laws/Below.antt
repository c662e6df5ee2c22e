-- Every value of a five-value row is one of the five: a pair of halves is, what all fillings agree on is one of theirs or x, and an input is
-- 0, 1 or x.
use mathlib.Core.Logic.{⊎_elim}
use mathlib.Core.List.{List, [], ◌∷◌, map}
use mathlib.Core.Bool.{Bool, true, false, not, cond}
use Prim.Native.Nat.{ℕ, ◌+◌, ◌*◌, ◌/◌, ◌^◌, ◌<◌}
use native.Mathlib.Nat.{mod-lt, lt_trans}
use lib.Dec.{eqb, ltb, lit<}
use lib.ListN.{get_or-eq_default}
use borrow.Author.Tests.{ltb-true, ltb-false}
use Rattle.std.specs.Prelude.{Option, Some, None}
use Rattle.board.specs.Lists.{somewhere}
use Rattle.board.specs.Board.{Board, record_of}
use Rattle.board.specs.Row.{step, row}
use Rattle.board.specs.Gate.{gate, bit_of, held_pins, held_line}
use Rattle.board.specs.Inner.{held_at}
use Rattle.board.specs.Five.{good_half, faulty_half, pair, fillings, agreed, every_filling, gate5, hold5, five, partial}
use Rattle.board.specs.declared.Condition.{Condition}
use Rattle.board.specs.declared.Fault.TheVariants.{Line, Pin}
use Rattle.board.specs.declared.Condition.TheVariants.{Sound, Having}
use Rattle.board.proofs.Lists.{way, build-length, build_at}
use Rattle.five.specs.Inner.{Fives}
use Rattle.five.proofs.Laws.Table.{get_or_below}

cond_below : (t : Bool) {a b : ℕ} → a < 5 → b < 5 → cond t a b < 5
cond_below true l m = l
cond_below false l m = m

pair-below : (g h : ℕ) → pair g h < 5
pair-below g h = get_or_below 5 (0 ∷ 4 ∷ 3 ∷ 1 ∷ []) tt (2 * g + h) 2 (lit< tt)

hold_below : (s v : ℕ) → hold5 s v < 5
hold_below s v = cond_below (eqb v 2) (lit< tt) (pair-below (good_half v) s)

pub held_below : (o : Option ℕ) (v : ℕ) → v < 5 → held_at hold5 o v < 5
held_below None v l = l
held_below (Some s) v l = hold_below s v

agreed-below : (f : ℕ → ℕ) → ((w : ℕ) → f w < 5) → (ws : List ℕ) → agreed (map f ws) < 5
agreed-below f l [] = lit< tt
agreed-below f l (w ∷ ws) = cond_below (somewhere (λ u. not (eqb (f w) u)) (map f ws)) (lit< tt) (l w)

filling_below : (f : List ℕ → List ℕ → ℕ) → ((gs hs : List ℕ) → f gs hs < 5) → (vs : List ℕ) → every_filling f vs < 5
unfolding every_filling
filling_below f l [] = l [] []
filling_below f l (v ∷ vs) = agreed-below _ (λ w. filling_below _ (λ gs hs. l (good_half w ∷ gs) (faulty_half w ∷ hs)) vs) (fillings v)

pub gate-below : (k : ℕ) (vs : List ℕ) → gate5 k vs < 5
gate-below k vs = filling_below _ (λ gs hs. pair-below (gate k gs) (gate k hs)) vs

pub partial-below : (named values i : ℕ) → partial named values i < 5
partial-below named values i = cond_below (eqb (bit_of named i) 1) (lt_trans (mod-lt (values / 2 ^ i) (lit< tt)) (lit< tt)) (lit< tt)

line_below : (φ : Condition) (i v : ℕ) → v < 5 → held_line hold5 φ i v < 5
line_below Sound i v l = l
line_below (Having (Line m s)) i v l = cond_below (eqb i m) (hold_below s v) l
line_below (Having (Pin m p s)) i v l = l

rule_below : (φ : Condition) (named values i k : ℕ) (vs : List ℕ) → five φ (partial named values) i k vs < 5
rule_below φ named values i k vs =
    line_below φ i _ (cond_below (eqb k 0) (partial-below named values i) (gate-below k (held_pins hold5 φ i vs)))

-- a row of the first n lines
pub row_fives : (φ : Condition) (named values : ℕ) (b : Board) (n : ℕ) → Fives (row (five φ (partial named values)) b n)
row_fives φ named values b n p =
    let f = step (five φ (partial named values)) b in
    ⊎_elim
    (λ e. rw (build_at f n p (ltb-true p n e)) (rule_below φ named values p (record_of b p).kind _))
    (λ e. rw (get_or-eq_default (row (five φ (partial named values)) b n) 0 {n = p} (rw (build-length f n) (ltb-false p n e))) (lit< tt))
    (way (ltb p n))
