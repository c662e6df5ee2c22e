-- A gate's words from a board decoded: what stands at its pins' places are its pins' words.
use mathlib.Core.Path.{◌≡◌, sym, ap, ◌∙◌}
use mathlib.Core.Logic.{inl, inr, ⊎_elim}
use mathlib.Core.List.{List, map}
use mathlib.Core.Bool.{Bool, true, false}
use Prim.Native.Nat.{ℕ, zero, suc, ◌+◌, ◌*◌, ◌≤◌, ◌<◌}
use native.Mathlib.Omega.{arith}
use lib.Dec.{ltb}
use lib.ListN.{length, get_or, length-map}
use borrow.Author.Tests.{ltb-true, ltb-false, eq-eqb, ne_eqb}
use Rattle.board.specs.Lists.{◌among◌}
use Rattle.board.specs.Board.{Board, record_of, Low}
use Rattle.board.specs.Row.{value}
use Rattle.board.proofs.Lists.{way}
use Rattle.board.proofs.Row.{value_is}
use Rattle.board.proofs.Fine.{fine_low}
use Rattle.image.proofs.Laws.Fine.{four_used}
use Rattle.image.proofs.Laws.Line.{map_at}
use Rattle.lanes.specs.Words.{full, words, input_word, gate_word}
use Rattle.lanes.specs.declared.flat.Gate.{Gate}
use Rattle.lanes.specs.Inner.{size, gate_at, Flat, Roomy, GoodTo, Put, GateWords}
use Rattle.lanes.proofs.Laws.Flat.{at_among, among_at}

-- what holds of each of four
pub each-four : (P : ℕ → Type 0) → P 0 → P 1 → P 2 → P 3 → (j : ℕ) → j < 4 → P j
each-four P a b c d zero l = a
each-four P a b c d (suc zero) l = b
each-four P a b c d (suc (suc zero)) l = c
each-four P a b c d (suc (suc (suc zero))) l = d
each-four P a b c d (suc (suc (suc (suc j)))) l = absurd (omega arith)

module _ {b : Board} {flat : List Gate} (is : Flat b flat) (i : ℕ) (inside : i < size b) where
  pub low_board : Low b
  low_board = fine_low b is.fine

  pub four_pins : length (record_of b i).pins ≤ 4
  four_pins = four_used is.fine i inside

  -- a line with a pin is a gate
  pub gate_kind : 0 < length (record_of b i).pins → (record_of b i).kind ≡ 0 → ⊥
  gate_kind some e = omega (arith, rw e at (is.fine.records i inside).few)

  -- the line on pin j
  pub pin_among : (j : ℕ) → j < length (record_of b i).pins → get_or (gate_at flat i).pins j 0 among (record_of b i).pins
  pin_among j l = rw (is.pin i j inside l) (at_among (record_of b i).pins j l)

  pub pin_low : (j : ℕ) → j < length (record_of b i).pins → get_or (gate_at flat i).pins j 0 < i
  pin_low j l = low_board i _ (pin_among j l)

  -- what fails at each pin's number fails at each pin's line
  pub quiet_pin : (t : ℕ → Bool) → ((j : ℕ) → j < (gate_at flat i).count → t (get_or (gate_at flat i).pins j 0) ≡ false)
      → (p : ℕ) → p among (record_of b i).pins → t p ≡ false
  quiet_pin t h p m =
      let (j, l, e) = among_at (record_of b i).pins p m in
      rw (e, ← (is.pin i j inside l)) (h j (rw (is.count i inside) l))

  -- where a function's value stands at each pin's place, the gate's word is made of those values
  pub gate_of : (F : ℕ → ℕ) (places rows r : List ℕ) → GateWords (gate_at flat i).kind (gate_at flat i).count places rows r → (w : ℕ) → w < 8
      → ((j : ℕ) → j < length (record_of b i).pins → get_or rows (get_or places j 0 + w) 0 ≡ F (get_or (gate_at flat i).pins j 0))
      → get_or r w 0 ≡ gate_word (record_of b i).kind (map F (record_of b i).pins)
  gate_of F places rows r words_are w l at =
      let pins = (record_of b i).pins in
      let many : (gate_at flat i).count ≡ length pins = is.count i inside in
      words_are w (map F pins) l (length-map pins F ∙ sym many) (λ j m.
      let k = rw many at m in
      map_at F pins j k ∙ sym (ap F (is.pin i j inside k)) ∙ sym (at j k))
      ∙ ap (λ (q : ℕ). gate_word q (map F pins)) (is.kind i inside)

  -- the good word of an input, and of a gate
  pub good_input : (base : ℕ) → (gate_at flat i).kind ≡ 0 → input_word base i ≡ value (words base) b i
  good_input base e = sym (value_is (words base) b low_board i ∙ rw (eq-eqb (record_of b i).kind 0 (sym (is.kind i inside) ∙ e)))

  pub good-gate : (base : ℕ) → ((gate_at flat i).kind ≡ 0 → ⊥)
      → gate_word (record_of b i).kind (map (value (words base) b) (record_of b i).pins) ≡ value (words base) b i
  good-gate base ne = sym (value_is (words base) b low_board i ∙ rw (ne_eqb (record_of b i).kind 0 (λ e. ne (is.kind i inside ∙ e))))

-- eight words put among those of the lines leave the room behind them
pub room_kept : {b : Board} {at : ℕ} {rows e new : List ℕ} → Put rows at e new → at + 8 ≤ 16 * size b → Roomy b rows → Roomy b new
room_kept {b} put fits h =
    record {
      long = put.long ∙ h.long;
      zeros = λ w l. put.off (16 * size b + w) (inr (omega arith)) ∙ h.zeros w l;
      ones = λ w l. put.off (16 * size b + 8 + w) (inr (omega arith)) ∙ h.ones w l;
    }

-- eight words put among the good ones, of line i, and the rest is as before
module _ (b : Board) (base i : ℕ) {rows e new : List ℕ} (put : Put rows (8 * i) e new) where
  pub good_next : GoodTo b base i rows → ((w : ℕ) → w < 8 → get_or e w 0 ≡ value (words (base + 64 * w)) b i) → GoodTo b base (i + 1) new
  good_next h is k w l m =
      ⊎_elim
      (λ (q : ltb k i ≡ true). let lt = ltb-true k i q in put.off (8 * k + w) (inl (omega arith)) ∙ h k w lt m)
      (λ (q : ltb k i ≡ false).
      let le = ltb-false k i q in
      let same : k ≡ i = omega arith in
      rw same (put.here w m ∙ is w m))
      (way (ltb k i))

-- eight words of 0s and eight of 1s put behind the lines' words
pub room_made : {b : Board} {old zeros mid ones new : List ℕ} → length old ≡ 16 * size b + 16 → Put old (16 * size b) zeros mid → Put mid (16 * size b + 8) ones new
    → ((w : ℕ) → w < 8 → get_or zeros w 0 ≡ 0) → ((w : ℕ) → w < 8 → get_or ones w 0 ≡ full) → Roomy b new
room_made {b} long put put2 dark lit =
    record {
      long = put2.long ∙ put.long ∙ long;
      zeros = λ w l. put2.off (16 * size b + w) (inl (omega arith)) ∙ put.here w l ∙ dark w l;
      ones = λ w l. put2.here w l ∙ lit w l;
    }
