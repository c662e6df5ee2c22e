-- A change of line l passed up the board, line by line: a line that reads no changed line keeps its words, and one that does has its gate's.
use mathlib.Core.Path.{◌≡◌, sym, ap, ◌∙◌}
use mathlib.Core.Logic.{inl, ⊎_elim}
use mathlib.Core.List.{List, map}
use mathlib.Core.Bool.{true, false, ◌&&◌}
use Prim.Native.Nat.{ℕ, zero, suc, ◌+◌, ◌-◌, ◌*◌, ◌≤◌, ◌<◌}
use native.Mathlib.Nat.{add-zero, add-suc}
use native.Mathlib.Numerals.{add-one}
use native.Mathlib.Omega.{arith}
use lib.Dec.{eqb, leb, ltb}
use lib.Bits.{bit_or, bit_xor, or_zero_r}
use lib.ListN.{length, get_or, set, length-set}
use lib.Seq.{get_or-set_same, get_or-set_other}
use borrow.Author.Tests.{eq-eqb, ne_eqb, ltb-true, ltb-false, le-leb, lt-leb}
use Rattle.board.specs.Lists.{◌among◌}
use Rattle.board.specs.Board.{Board, record_of, Low}
use Rattle.board.specs.Row.{value}
use Rattle.board.specs.declared.Fault.TheVariants.{Line}
use Rattle.board.specs.declared.Condition.TheVariants.{Having}
use Rattle.board.proofs.Lists.{way, map_same, lower}
use Rattle.board.proofs.Row.{value_is}
use Rattle.lanes.specs.Words.{turned, words, flipped_words, gate_word, is_out, apart_below}
use Rattle.lanes.specs.Inner.{size, Block, Put, is_changed, place_of, Passed, PassedOn, Heard, adds}
use Rattle.lanes.proofs.Laws.Through.{off_line, below_line, at_line}
use Rattle.lanes.proofs.Laws.Eight.{xor_same}
use Rattle.lanes.proofs.Laws.Fill.{room_kept}

-- where a line's words stand
module _ (n l : ℕ) (changed : List ℕ) (p : ℕ) where
  pub place_changed : is_changed l changed p ≡ true → place_of n l changed p ≡ 8 * (n + p)
  place_changed e = rw e

  pub place_kept : is_changed l changed p ≡ false → place_of n l changed p ≡ 8 * p
  place_kept e = rw e

  pub note_changed : l ≤ p → get_or changed p 0 ≡ 1 → is_changed l changed p ≡ true
  note_changed h e = rw (le-leb l p h, eq-eqb (get_or changed p 0) 1 e)

  pub note_kept : (get_or changed p 0 ≡ 1 → ⊥) → is_changed l changed p ≡ false
  note_kept ne = ⊎_elim (λ (q : leb l p ≡ true). rw (q, ne_eqb (get_or changed p 0) 1 ne)) (λ (q : leb l p ≡ false). rw q) (way (leb l p))

  pub note_below : p < l → is_changed l changed p ≡ false
  note_below h = rw (lt-leb l p h)

  pub place_inside : p < n → place_of n l changed p + 8 ≤ 16 * n
  place_inside h =
      ⊎_elim
      (λ (e : is_changed l changed p ≡ true). rw e (omega arith))
      (λ (e : is_changed l changed p ≡ false). rw e (omega arith))
      (way (is_changed l changed p))

-- a note of another line does not matter
same_note : (l : ℕ) (changed new : List ℕ) (p : ℕ) → get_or new p 0 ≡ get_or changed p 0 → is_changed l new p ≡ is_changed l changed p
same_note l changed new p e = ap (λ (v : ℕ). leb l p && eqb v 1) e

module _ (b : Board) (low : Low b) (base l : ℕ) where
  -- the words of line p, and with line l turned over
  abbrev v : ℕ → ℕ → ℕ
  v w p = value (words (base + 64 * w)) b p

  abbrev f : ℕ → ℕ → ℕ
  f w p = value (flipped_words l (base + 64 * w)) b p

  flip_below : (w p : ℕ) → p < l → f w p ≡ v w p
  flip_below w p h = below_line b low (λ s x. turned x) (Having (Line l 0)) (words (base + 64 * w)) p h

  flip_here : (w : ℕ) → f w l ≡ turned (v w l)
  flip_here w = at_line b low (λ s x. turned x) l 0 (words (base + 64 * w))

  -- a line off l, by its pins
  module _ (i : ℕ) (off : i ≡ l → ⊥) (w : ℕ) where
    flip_rule : f w i ≡ words (base + 64 * w) i (record_of b i).kind (map (f w) (record_of b i).pins)
    flip_rule =
        value_is (flipped_words l (base + 64 * w)) b low i
        ∙ ap (λ (F : ℕ → List ℕ → ℕ). F (record_of b i).kind (map (f w) (record_of b i).pins))
        (off_line (λ s x. turned x) (Having (Line l 0)) (words (base + 64 * w)) i off)

    pub quiet_line : ((p : ℕ) → p among (record_of b i).pins → f w p ≡ v w p) → f w i ≡ v w i
    quiet_line h =
        flip_rule
        ∙ ap (words (base + 64 * w) i (record_of b i).kind) (map_same (f w) (v w) (record_of b i).pins h)
        ∙ sym (value_is (words (base + 64 * w)) b low i)

    pub loud_line : ((record_of b i).kind ≡ 0 → ⊥) → f w i ≡ gate_word (record_of b i).kind (map (f w) (record_of b i).pins)
    loud_line ne = flip_rule ∙ rw (ne_eqb (record_of b i).kind 0 ne)

  -- eight words put behind the good ones, for line i
  module _ {i : ℕ} {rows e new : List ℕ} (inside : i < size b) (put : Put rows (8 * (size b + i)) e new) where
    pub block_put : Block b base rows → Block b base new
    block_put h =
        record {
          room = room_kept put (omega arith) h.room;
          number = h.number;
          base_is = h.base_is;
          good = λ p w m k. put.off (8 * p + w) (inl (omega arith)) ∙ h.good p w m k;
        }

    place_put : (changed : List ℕ) (p w : ℕ) → p < i → w < 8 → get_or new (place_of (size b) l changed p + w) 0 ≡ get_or rows (place_of (size b) l changed p + w) 0
    place_put changed p w m k =
        ⊎_elim
        (λ (q : is_changed l changed p ≡ true). rw q (put.off (8 * (size b + p) + w) (inl (omega arith))))
        (λ (q : is_changed l changed p ≡ false). rw q (put.off (8 * p + w) (inl (omega arith))))
        (way (is_changed l changed p))

  -- an unchanged line has its good words
  pub unchanged : {i : ℕ} {rows changed : List ℕ} → Passed b base l i rows changed → i ≤ size b → (p w : ℕ) → p < i → w < 8 → is_changed l changed p ≡ false → f w p ≡ v w p
  unchanged h few p w m k e = sym (h.reads p w m k) ∙ rw e (h.block.good p w (omega arith) k)

  pub changed_words : {i : ℕ} {rows changed : List ℕ} → Passed b base l i rows changed → (p w : ℕ) → p < i → w < 8 → is_changed l changed p ≡ true
      → get_or rows (8 * (size b + p) + w) 0 ≡ f w p
  changed_words h p w m k e = rw e at (h.reads p w m k)

  -- one line more: it is noted as kept where its words are the good ones, and as changed where its words are put behind
  module _ (i : ℕ) (inside : i < size b) where
    others : (changed : List ℕ) (x p : ℕ) → (p ≡ i → ⊥) → get_or (set changed i x) p 0 ≡ get_or changed p 0
    others changed x p ne = get_or-set_other changed i p x 0 ne

    split : {A : Type 0} (p : ℕ) → p < i + 1 → (p < i → A) → (p ≡ i → A) → A
    split p m under here =
        ⊎_elim (λ (q : ltb p i ≡ true). under (ltb-true p i q)) (λ (q : ltb p i ≡ false). let le = ltb-false p i q in here (omega arith)) (way (ltb p i))

    pub pass_kept : {rows changed : List ℕ} → Passed b base l i rows changed → ((w : ℕ) → w < 8 → f w i ≡ v w i) → PassedOn b base l i changed rows (set changed i 0)
    pass_kept {rows} {changed} h same =
        let kept : is_changed l (set changed i 0) i ≡ false =
        note_kept (size b) l (set changed i 0) i (λ e. omega (arith, get_or-set_same changed i 0 0 (rw h.long inside))) in
        record {
          passed =
              record {
                block = h.block;
                long = length-set changed i 0 ∙ h.long;
                reads = λ p w m k.
                    split p m
                    (λ lt. rw (same_note l changed (set changed i 0) p (others changed 0 p (λ e. omega arith))) (h.reads p w lt k))
                    (λ (e : p ≡ i). rw (e, kept) (h.block.good i w inside k ∙ sym (same w k)));
              };
          kept = others changed 0;
        }

    pub pass_changed : {rows changed e new : List ℕ} → l ≤ i → Passed b base l i rows changed → Put rows (8 * (size b + i)) e new → ((w : ℕ) → w < 8 → get_or e w 0 ≡ f w i)
        → PassedOn b base l i changed new (set changed i 1)
    pass_changed {rows} {changed} above h put is =
        let noted : is_changed l (set changed i 1) i ≡ true =
        note_changed (size b) l (set changed i 1) i above (get_or-set_same changed i 1 0 (rw h.long inside)) in
        record {
          passed =
              record {
                block = block_put inside put h.block;
                long = length-set changed i 1 ∙ h.long;
                reads = λ p w m k.
                    split p m
                    (λ lt.
                    rw (same_note l changed (set changed i 1) p (others changed 1 p (λ e. omega arith))) (place_put inside put changed p w lt k ∙ h.reads p w lt k))
                    (λ (e : p ≡ i). rw (e, noted) (put.here w k ∙ is w k));
              };
          kept = others changed 1;
        }

  -- below line l every line has its good words
  pub pass_none : {rows changed : List ℕ} → l < size b → Block b base rows → length changed ≡ size b → Passed b base l l rows changed
  pass_none inside h long =
      record {
        block = h;
        long = long;
        reads = λ p w m k. rw (note_below (size b) l _ p m) (h.good p w (omega arith) k ∙ sym (flip_below w p m));
      }

  -- what is turned over
  pub turned_here : (w x : ℕ) → x ≡ v w l → turned x ≡ f w l
  turned_here w x e = ap turned e ∙ sym (flip_here w)

  -- where a line does not differ it adds nothing
  pub adds_none : (i w : ℕ) → f w i ≡ v w i → adds b base l i w ≡ 0
  adds_none i w e =
      ⊎_elim
      (λ (q : is_out b i ≡ true). rw (q, e) (xor_same (v w i)))
      (λ (q : is_out b i ≡ false). rw q)
      (way (is_out b i))

  abbrev pub apart : ℕ → ℕ → ℕ
  apart w n = apart_below (v w) (f w) (is_out b) n

  pub apart_next : (w n : ℕ) → apart w (n + 1) ≡ bit_or (apart w n) (adds b base l n w)
  unfolding apart_below
  apart_next w n = rw add-one

  -- lines that do not differ add nothing
  apart-same : (w n k : ℕ) → ((q : ℕ) → n ≤ q → q < n + k → f w q ≡ v w q) → apart w (n + k) ≡ apart w n
  unfolding apart_below
  apart-same w n zero h = rw (add-zero n)
  apart-same w n (suc k) h =
      rw (add-suc n k)
      (ap (bit_or (apart w (n + k))) (adds_none (n + k) w (h (n + k) (omega arith) (omega arith)))
      ∙ or_zero_r (apart w (n + k))
      ∙ apart-same w n k (λ q m lt. h q m (omega arith)))

  pub apart_start : (w : ℕ) → apart w l ≡ 0
  unfolding apart_below
  apart_start w = let all : 0 + l ≡ l = omega arith in rw all at (apart-same w 0 l (λ q m lt. flip_below w q (omega arith)))

  -- above the last line that hears a change, none differs
  pub quiet_above : {i last : ℕ} {rows changed : List ℕ} → Passed b base l i rows changed → l < i → i ≤ size b → last < i → Heard b l i last changed
      → (w : ℕ) → w < 8 → (q : ℕ) → i ≤ q → q < size b → f w q ≡ v w q
  quiet_above {i} {last} {rows} {changed} h above few past heard w k = lower _ (λ q ih le lt.
      quiet_line q (λ e. omega arith) w (λ p m.
      ⊎_elim
      (λ (s : ltb p i ≡ true).
      let under = ltb-true p i s in
      ⊎_elim
      (λ (e : is_changed l changed p ≡ true). let far = heard q p lt under m e in absurd (omega arith))
      (λ (e : is_changed l changed p ≡ false). unchanged h few p w under k e)
      (way (is_changed l changed p)))
      (λ (s : ltb p i ≡ false). let down = low q p m in ih p down (ltb-false p i s) (omega arith))
      (way (ltb p i))))

  pub apart_all : {i last : ℕ} {rows changed : List ℕ} → Passed b base l i rows changed → l < i → i ≤ size b → last < i → Heard b l i last changed
      → (w : ℕ) → w < 8 → apart w i ≡ apart w (size b)
  apart_all {i} h above few past heard w k =
      let all : i + (size b - i) ≡ size b = omega arith in
      sym (rw all at (apart-same w i (size b - i) (λ q le lt. quiet_above h above few past heard w k q le (omega arith))))

  -- what is gathered at a line that adds nothing, and at an output that differs
  pub gather_none : (x i w : ℕ) → adds b base l i w ≡ 0 → x ≡ bit_or x (adds b base l i w)
  gather_none x i w e = sym (ap (bit_or x) e ∙ or_zero_r x)

  pub adds_off : (i w : ℕ) → is_out b i ≡ false → adds b base l i w ≡ 0
  adds_off i w e = rw e

  pub adds_on : (i w : ℕ) → is_out b i ≡ true → bit_xor (v w i) (f w i) ≡ adds b base l i w
  adds_on i w e = rw e
