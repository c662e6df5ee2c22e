-- A fault is seen only through its own line: two rules that differ at line l alone, and give line l the same value, give every line the
-- same value. So a fault shows exactly when it changes its own line and a change of that line is seen.
use mathlib.Core.Path.{◌≡◌, refl, sym, ap, ◌∙◌}
use mathlib.Core.Logic.{⊎_elim}
use mathlib.Core.List.{List, map}
use mathlib.Core.Bool.{true, false, not, ◌&&◌}
use Prim.Native.Nat.{ℕ, ◌-◌, ◌/◌, ◌^◌, ◌<◌}
use native.Mathlib.Nat.{mod-lt, lt_irrefl}
use native.Mathlib.Omega.{arith}
use lib.Dec.{eqb, lit<}
use lib.ListN.{length, get_or}
use borrow.Author.Tests.{eqb-true, eqb-false, eq-eqb}
use Rattle.board.specs.Lists.{ones}
use Rattle.board.specs.Board.{Board, record_of, Low}
use Rattle.board.specs.Row.{Rule, value}
use Rattle.board.specs.Gate.{asks, held_pins, good, under, faulty, site, stuck}
use Rattle.board.specs.Test.{differs, shows}
use Rattle.board.specs.declared.Condition.{Condition}
use Rattle.board.specs.declared.Fault.TheVariants.{Line, Pin}
use Rattle.board.specs.declared.Condition.TheVariants.{Sound, Having}
use Rattle.board.proofs.Lists.{map_same, somewhere-same, nowhere_at, way, lower}
use Rattle.board.proofs.Row.{value_is}
use Rattle.board.proofs.Test.{under_off}
use Rattle.image.proofs.Laws.Records.{bit_below}
use Rattle.lanes.specs.Words.{flipped, seen}

-- two rules that agree off line l and give it the same value give every line the same value
pub same_line : (b : Board) → Low b → (F G : Rule) (l : ℕ) → ((i : ℕ) → (i ≡ l → ⊥) → F i ≡ G i) → value F b l ≡ value G b l → (i : ℕ) → value F b i ≡ value G b i
same_line b low F G l off at-l = lower _ (λ i ih.
    ⊎_elim
    (λ (e : eqb i l ≡ true). rw (eqb-true i l e) at-l)
    (λ (e : eqb i l ≡ false).
    cc (
      value_is F b low i,
      value_is G b low i,
      off i (eqb-false i l e),
      map_same (value F b) (value G b) (record_of b i).pins (λ p m. ih p (low i p m)),
    ))
    (way (eqb i l)))

-- a fault changes the rule at its line alone
pub off_line : (hold : ℕ → ℕ → ℕ) (φ : Condition) (F : Rule) (i : ℕ) → (i ≡ site φ → ⊥) → under hold φ F i ≡ F i
off_line hold φ F i ne = sym (under_off hold φ F i ne)

-- below its line a fault changes no value
pub below_line : (b : Board) → Low b → (hold : ℕ → ℕ → ℕ) (φ : Condition) (F : Rule) (i : ℕ) → i < site φ → value (under hold φ F) b i ≡ value F b i
below_line b low hold φ F = lower _ (λ i ih l.
    cc (
      value_is (under hold φ F) b low i,
      value_is F b low i,
      off_line hold φ F i (λ e. lt_irrefl (site φ) (rw e at l)),
      map_same (value (under hold φ F) b) (value F b) (record_of b i).pins (λ p m. ih p (low i p m) (omega (arith, low i p m))),
    ))

-- at its line a line fault holds the line's own value
pub at_line : (b : Board) → Low b → (hold : ℕ → ℕ → ℕ) (l s : ℕ) (F : Rule) → value (under hold (Having (Line l s)) F) b l ≡ hold s (value F b l)
at_line b low hold l s F =
    value_is (under hold (Having (Line l s)) F) b low l
    ∙ rw (
      eq-eqb l l refl,
      map_same (value (under hold (Having (Line l s)) F) b) (value F b) (record_of b l).pins
          (λ p m. below_line b low hold (Having (Line l s)) F p (low l p m)),
      ← (value_is F b low l),
    )

-- the values of the good board, and of a faulty one, are 0 and 1
good-bit : (x i k : ℕ) (vs : List ℕ) → good x i k vs < 2
good-bit x i k vs =
    ⊎_elim
    (λ (e : eqb k 0 ≡ true). rw e (mod-lt (x / 2 ^ i) (lit< tt)))
    (λ (e : eqb k 0 ≡ false). rw e (bit_below (asks k (length vs) (ones vs))))
    (way (eqb k 0))

faulty-bit : (φ : Condition) → stuck φ < 2 → (x i k : ℕ) (vs : List ℕ) → faulty φ x i k vs < 2
faulty-bit Sound h x i k vs = good-bit x i k vs
faulty-bit (Having (Line l s)) h x i k vs =
    ⊎_elim (λ (e : eqb i l ≡ true). rw e h) (λ (e : eqb i l ≡ false). rw e (good-bit x i k vs)) (way (eqb i l))
faulty-bit (Having (Pin l p s)) h x i k vs = good-bit x i k (held_pins (λ u v. u) (Having (Pin l p s)) i vs)

module _ (b : Board) (low : Low b) (x : ℕ) where
  pub value-bit : (i : ℕ) → value (good x) b i < 2
  value-bit i = rw (value_is (good x) b low i) (good-bit x i (record_of b i).kind (map (value (good x) b) (record_of b i).pins))

  faulty-value-bit : (φ : Condition) → stuck φ < 2 → (i : ℕ) → value (faulty φ x) b i < 2
  faulty-value-bit φ h i = rw (value_is (faulty φ x) b low i) (faulty-bit φ h x i (record_of b i).kind (map (value (faulty φ x) b) (record_of b i).pins))

  -- a flipped line has the other value
  flipped_at : (l : ℕ) → value (flipped l x) b l ≡ 1 - value (good x) b l
  flipped_at l = at_line b low (λ s v. 1 - v) l 0 (good x)

  module _ (φ : Condition) (held : stuck φ < 2) where
    -- a fault that changes its own line is that line flipped
    is_flipped : (value (good x) b (site φ) ≡ value (faulty φ x) b (site φ) → ⊥) → (i : ℕ) → value (faulty φ x) b i ≡ value (flipped (site φ) x) b i
    is_flipped ne =
        same_line b low (faulty φ x) (flipped (site φ) x) (site φ)
        (λ i off. off_line (λ s v. s) φ (good x) i off ∙ sym (off_line (λ s v. 1 - v) (Having (Line (site φ) 0)) (good x) i off))
        (omega (arith, ne, flipped_at (site φ), value-bit (site φ), faulty-value-bit φ held (site φ)))

    -- a fault that does not change its own line changes none
    is_good : value (good x) b (site φ) ≡ value (faulty φ x) b (site φ) → (i : ℕ) → value (good x) b i ≡ value (faulty φ x) b i
    is_good = same_line b low (good x) (faulty φ x) (site φ) (λ i off. sym (off_line (λ s v. s) φ (good x) i off))

    -- a fault shows exactly when it changes its own line and a change of that line is seen
    pub shows_through : shows b φ x ≡ (differs b φ x (site φ) && seen b (site φ) x)
    unfolding shows differs seen
    shows_through =
        ⊎_elim
        (λ (e : eqb (value (good x) b (site φ)) (value (faulty φ x) b (site φ)) ≡ true).
        rw e (nowhere_at (differs b φ x) b.outs (λ i l. ap not (eq-eqb _ _ (is_good (eqb-true _ _ e) (get_or b.outs i 0))))))
        (λ (e : eqb (value (good x) b (site φ)) (value (faulty φ x) b (site φ)) ≡ false).
        rw e
        (somewhere-same (differs b φ x) (λ o. not (eqb (value (good x) b o) (value (flipped (site φ) x) b o))) b.outs
        (λ o m. ap (λ (v : ℕ). not (eqb (value (good x) b o) v)) (is_flipped (eqb-false _ _ e) o))))
        (way (eqb (value (good x) b (site φ)) (value (faulty φ x) b (site φ))))
