-- The words of the board's lines: bit j of a line's word is the line's value under pattern base + j, on the good board and on the board
-- with one line turned over. So the flip word has bit j exactly when a change of the line is seen under that pattern.
use mathlib.Core.Path.{◌≡◌, refl, sym, ap, ◌∙◌}
use mathlib.Core.Logic.{⊎_elim}
use mathlib.Core.List.{List, [], ◌∷◌, map}
use mathlib.Core.Bool.{true, false}
use Prim.Native.Nat.{ℕ, zero, suc, ◌+◌, ◌-◌, ◌*◌, ◌≤◌, ◌<◌}
use native.Mathlib.Omega.{arith}
use lib.Dec.{eqb}
use lib.ListN.{length, set, length-map, length-set}
use borrow.Author.Tests.{eqb-false}
use Rattle.board.specs.Limits.{last_kind}
use Rattle.board.specs.Board.{Board, record_of, Low}
use Rattle.board.specs.Row.{Rule, value}
use Rattle.board.specs.Gate.{bit_of, good, faulty, stuck}
use Rattle.board.specs.Fine.{most}
use Rattle.board.specs.declared.Condition.{Condition}
use Rattle.board.specs.declared.Fault.TheVariants.{Line, Pin}
use Rattle.board.specs.declared.Condition.TheVariants.{Sound, Having}
use Rattle.board.proofs.Lists.{map_same, way, lower}
use Rattle.board.proofs.Row.{value_is}
use Rattle.reach.proofs.Laws.Bits.{zero_bit}
use Rattle.lanes.specs.Words.{words, flipped, flipped_words, spread, faulty_words}
use Rattle.lanes.proofs.Laws.Lane.{each-bit, lane-full, lane-gate, lane_input, lane-turned}

map-map : (f g : ℕ → ℕ) (xs : List ℕ) → map f (map g xs) ≡ map (λ (x : ℕ). f (g x)) xs
map-map f g [] = refl
map-map f g (x ∷ xs) = ap (λ (ys : List ℕ). f (g x) ∷ ys) (map-map f g xs)

map-set : (f : ℕ → ℕ) (xs : List ℕ) (p v : ℕ) → map f (set xs p v) ≡ set (map f xs) p (f v)
map-set f [] p v = refl
map-set f (x ∷ xs) zero v = refl
map-set f (x ∷ xs) (suc p) v = ap (λ (ys : List ℕ). f x ∷ ys) (map-set f xs p v)

-- a word rule that is right in lane j on every line gives every line a word that is
pub in_lane : (b : Board) → Low b → (W F : Rule) (j : ℕ)
    → ((i : ℕ) (ws : List ℕ) → length ws ≡ length (record_of b i).pins → bit_of (W i (record_of b i).kind ws) j ≡ F i (record_of b i).kind (map (λ (w : ℕ). bit_of w j) ws))
    → (i : ℕ) → bit_of (value W b i) j ≡ value F b i
in_lane b low W F j each = lower _ (λ i ih.
    let pins = (record_of b i).pins in
    ap (λ (w : ℕ). bit_of w j) (value_is W b low i)
    ∙ each i (map (value W b) pins) (length-map pins (value W b))
    ∙ ap (F i (record_of b i).kind) (map-map (λ (w : ℕ). bit_of w j) (value W b) pins ∙ map_same _ _ pins (λ p m. ih p (low i p m)))
    ∙ sym (value_is F b low i))

-- every kind is one of the table's, and no line has more pins than its kind
abbrev pub Known : Board → Type 0
Known b = (i : ℕ) → ((record_of b i).kind ≤ last_kind) × (length (record_of b i).pins ≤ most (record_of b i).kind)

module _ (b : Board) (low : Low b) (known : Known b) (block j : ℕ) (inside : j < 64) where
  good-step : (i : ℕ) (ws : List ℕ) → length ws ≡ length (record_of b i).pins → bit_of (words (64 * block) i (record_of b i).kind ws) j ≡ good (64 * block + j) i (record_of b i).kind (map (λ (w : ℕ). bit_of w j) ws)
  good-step i ws long =
      ⊎_elim
      (λ (e : eqb (record_of b i).kind 0 ≡ true). rw e (lane_input j inside block i))
      (λ (e : eqb (record_of b i).kind 0 ≡ false).
      let ne = eqb-false (record_of b i).kind 0 e in
      rw e (lane-gate j inside (record_of b i).kind ws (omega arith) (known i).0 (rw long (known i).1)))
      (way (eqb (record_of b i).kind 0))

  -- the good board's words
  pub good-lane : (i : ℕ) → bit_of (value (words (64 * block)) b i) j ≡ value (good (64 * block + j)) b i
  good-lane = in_lane b low (words (64 * block)) (good (64 * block + j)) j good-step

  -- the words where line l is turned over
  pub flipped_lane : (l i : ℕ) → bit_of (value (flipped_words l (64 * block)) b i) j ≡ value (flipped l (64 * block + j)) b i
  flipped_lane l = in_lane b low (flipped_words l (64 * block)) (flipped l (64 * block + j)) j (λ i ws long.
      ⊎_elim
      (λ (e : eqb i l ≡ true).
      rw e (lane-turned j inside (words (64 * block) i (record_of b i).kind ws) ∙ ap (λ (v : ℕ). 1 - v) (good-step i ws long)))
      (λ (e : eqb i l ≡ false). rw e (good-step i ws long))
      (way (eqb i l)))

  -- the words of the faulty board, for a line fault and for a pin fault at once
  spread-lane : (s : ℕ) → s < 2 → bit_of (spread s) j ≡ s
  spread-lane = each-bit (λ (s : ℕ). bit_of (spread s) j ≡ s) (zero_bit j) (lane-full j inside)

  faulty-step : (φ : Condition) → stuck φ < 2 → (i : ℕ) (ws : List ℕ) → length ws ≡ length (record_of b i).pins
      → bit_of (faulty_words φ (64 * block) i (record_of b i).kind ws) j ≡ faulty φ (64 * block + j) i (record_of b i).kind (map (λ (w : ℕ). bit_of w j) ws)
  faulty-step Sound held i ws long = good-step i ws long
  faulty-step (Having (Line l s)) held i ws long =
      ⊎_elim (λ (e : eqb i l ≡ true). rw e (spread-lane s held)) (λ (e : eqb i l ≡ false). rw e (good-step i ws long)) (way (eqb i l))
  faulty-step (Having (Pin l p s)) held i ws long =
      ⊎_elim
      (λ (e : eqb i l ≡ true).
      rw e
      (good-step i (set ws p (spread s)) (length-set ws p (spread s) ∙ long)
      ∙ ap (good (64 * block + j) i (record_of b i).kind) (map-set (λ (w : ℕ). bit_of w j) ws p (spread s) ∙ ap (set (map (λ (w : ℕ). bit_of w j) ws) p) (spread-lane s held))))
      (λ (e : eqb i l ≡ false). rw e (good-step i ws long))
      (way (eqb i l))

  pub faulty-lane : (φ : Condition) → stuck φ < 2 → (i : ℕ) → bit_of (value (faulty_words φ (64 * block)) b i) j ≡ value (faulty φ (64 * block + j)) b i
  faulty-lane φ held = in_lane b low (faulty_words φ (64 * block)) (faulty φ (64 * block + j)) j (faulty-step φ held)
