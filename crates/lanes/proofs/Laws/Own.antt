-- The words of a fault's own line: a held line's are the stuck value, a gate's with a held pin are the gate's with the stuck value in that
-- pin's place, and an absent pin changes nothing.
use mathlib.Core.Path.{◌≡◌, refl, sym, ap, ◌∙◌}
use mathlib.Core.Logic.{⊎_elim}
use mathlib.Core.List.{List, map}
use mathlib.Core.Bool.{true, false}
use Prim.Native.Nat.{ℕ, ◌+◌, ◌-◌, ◌*◌, ◌≤◌, ◌<◌}
use native.Mathlib.Omega.{arith}
use lib.Dec.{eqb}
use lib.Bits.{bit_xor}
use lib.ListN.{length, get_or, set, length-map, length-set}
use lib.Seq.{get_or-set_same, get_or-set_other, set_out}
use borrow.Author.Tests.{eqb-true, eqb-false, eq-eqb, ne_eqb}
use Rattle.board.specs.Board.{Board, record_of}
use Rattle.board.specs.Row.{value}
use Rattle.board.specs.Gate.{site, stuck}
use Rattle.board.specs.Test.{differs}
use Rattle.board.specs.declared.Condition.{Condition}
use Rattle.board.specs.declared.Fault.TheVariants.{Line, Pin}
use Rattle.board.specs.declared.Condition.TheVariants.{Having}
use Rattle.board.proofs.Lists.{way, map_same}
use Rattle.board.proofs.Row.{value_is}
use Rattle.image.proofs.Laws.Line.{map_at}
use Rattle.lanes.specs.Words.{spread, words, gate_word, faulty_words, Lanes}
use Rattle.lanes.specs.declared.flat.Gate.{Gate}
use Rattle.lanes.specs.Inner.{gate_at, size, Flat, Roomy, Block, GateWords}
use Rattle.lanes.proofs.Laws.Through.{below_line, at_line}
use Rattle.lanes.proofs.Laws.Lane.{each-bit}
use Rattle.lanes.proofs.Laws.Eight.{lanes_of}
use Rattle.lanes.proofs.Laws.Fill.{low_board, gate_kind}
use Rattle.lanes.proofs.Laws.Flip.{changed_holds}

-- where the good words of a line and the words that its fault leaves differ, the fault changes the line
pub own_lanes : {b : Board} {flat : List Gate} {rows : List ℕ} (base : ℕ) → Flat b flat → Block b base rows → (φ : Condition) → stuck φ < 2 → (r : List ℕ)
    → ((w : ℕ) → w < 8 → get_or r w 0 ≡ bit_xor (value (words (base + 64 * w)) b (site φ)) (value (faulty_words φ (base + 64 * w)) b (site φ)))
    → Lanes r (λ x. differs b φ x (site φ)) base
own_lanes {b} base is h φ held r own =
    lanes_of r (λ x. differs b φ x (site φ)) base (λ w l. rw (own w l) (changed_holds b is.fine base h.number h.base_is w φ held))

module _ {b : Board} {flat : List Gate} (is : Flat b flat) (l : ℕ) (inside : l < size b) (base : ℕ) where
  -- a held line
  pub line_held : (s : ℕ) → spread s ≡ value (faulty_words (Having (Line l s)) base) b l
  line_held s = sym (at_line b (low_board is l inside) (λ u w. spread u) l s (words base))

  -- a gate with a held pin
  abbrev pins : List ℕ
  pins = (record_of b l).pins

  good_pins : List ℕ
  good_pins = map (value (words base) b) pins

  pin_rule : (p s : ℕ) → value (faulty_words (Having (Pin l p s)) base) b l ≡ words base l (record_of b l).kind (set good_pins p (spread s))
  unfolding good_pins
  pin_rule p s =
      let low = low_board is l inside in
      value_is (faulty_words (Having (Pin l p s)) base) b low l
      ∙ rw (
        eq-eqb l l refl,
        map_same (value (faulty_words (Having (Pin l p s)) base) b) (value (words base) b) pins
            (λ q m. below_line b low (λ u w. spread u) (Having (Pin l p s)) (words base) q (low l q m)),
      )

  -- an absent pin changes nothing
  pub pin_absent : (p s : ℕ) → (gate_at flat l).count ≤ p → value (faulty_words (Having (Pin l p s)) base) b l ≡ value (words base) b l
  unfolding good_pins
  pin_absent p s none-there =
      let few : length good_pins ≤ p = omega (arith, length-map pins (value (words base) b), is.count l inside) in
      pin_rule p s
      ∙ ap (words base l (record_of b l).kind) (set_out good_pins p (spread s) few)
      ∙ sym (value_is (words base) b (low_board is l inside) l)

  -- where the stuck value stands in the held pin's place, and the good words in the others', the gate's word is the faulty board's
  pub pin_held : (p s : ℕ) (places rows r : List ℕ) (w : ℕ) → w < 8 → p < (gate_at flat l).count
      → GateWords (gate_at flat l).kind (gate_at flat l).count places rows r
      → get_or rows (get_or places p 0 + w) 0 ≡ spread s
      → ((j : ℕ) → j < length pins → (j ≡ p → ⊥) → get_or rows (get_or places j 0 + w) 0 ≡ value (words base) b (get_or (gate_at flat l).pins j 0))
      → get_or r w 0 ≡ value (faulty_words (Having (Pin l p s)) base) b l
  unfolding good_pins
  pin_held p s places rows r w k there words_are here others =
      let many : (gate_at flat l).count ≡ length pins = is.count l inside in
      let size_is : length good_pins ≡ length pins = length-map pins (value (words base) b) in
      words_are w (set good_pins p (spread s)) k (length-set good_pins p (spread s) ∙ size_is ∙ sym many) (λ j m.
      ⊎_elim
      (λ (e : eqb j p ≡ true).
      let same = eqb-true j p e in
      rw same (get_or-set_same good_pins p (spread s) 0 (omega arith) ∙ sym here))
      (λ (e : eqb j p ≡ false).
      let ne = eqb-false j p e in
      let lt = rw many at m in
      get_or-set_other good_pins p j (spread s) 0 ne
      ∙ map_at (value (words base) b) pins j lt
      ∙ sym (ap (value (words base) b) (is.pin l j inside lt))
      ∙ sym (others j lt ne))
      (way (eqb j p)))
      ∙ ap (λ (q : ℕ). gate_word q (set good_pins p (spread s))) (is.kind l inside)
      ∙ sym (pin_rule p s ∙ rw (ne_eqb (record_of b l).kind 0 (gate_kind is l inside (omega arith))))

-- the stuck value stands behind the rows of lines
pub stuck_stands : {b : Board} {rows : List ℕ} → Roomy b rows → (s w : ℕ) → s < 2 → w < 8 → get_or rows (length rows - 16 + 8 * s + w) 0 ≡ spread s
stuck_stands {b} {rows} h s w low k =
    let from : length rows - 16 ≡ 16 * size b = omega (arith, h.long) in
    let zero-place : 16 * size b + 8 * 0 + w ≡ 16 * size b + w = omega arith in
    let one_place : 16 * size b + 8 * 1 + w ≡ 16 * size b + 8 + w = omega arith in
    rw from
    (each-bit (λ (s : ℕ). get_or rows (16 * size b + 8 * s + w) 0 ≡ spread s)
    (ap (λ (x : ℕ). get_or rows x 0) zero-place ∙ h.zeros w k)
    (ap (λ (x : ℕ). get_or rows x 0) one_place ∙ h.ones w k)
    s low)
