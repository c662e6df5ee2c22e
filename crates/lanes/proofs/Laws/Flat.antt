-- A board decoded record by record: each step notes a line's last reader, puts a line's gate, or marks an output, and keeps all that the others
-- left.
use mathlib.Core.Path.{◌≡◌, refl, sym, ◌∙◌}
use mathlib.Core.Logic.{inl, inr, ⊎_elim}
use mathlib.Core.List.{List, [], ◌∷◌, ◌++◌}
use mathlib.Core.Bool.{Bool, true, false, ◌||◌}
use Prim.Native.Nat.{ℕ, zero, suc, ◌+◌, ◌*◌, ◌≤◌, ◌<◌}
use native.Mathlib.Nat.{le_of_suc-le-suc, not-suc-le-zero, lt_trans, le_refl}
use native.Mathlib.Numerals.{add-one}
use native.Mathlib.Omega.{arith}
use lib.Dec.{eqb, ltb}
use lib.ListN.{length, get_or, set, length-set, get_or-eq_default}
use lib.Seq.{get_or-set_same, get_or-set_other}
use borrow.Author.Tests.{eqb-true, eqb-false, ltb-true, ltb-false, eq-eqb, ne_eqb}
use Rattle.board.specs.Lists.{◌among◌, somewhere, build}
use Rattle.board.specs.Board.{Board, record_of, Low}
use Rattle.board.specs.Fine.{Fine}
use Rattle.board.proofs.Lists.{way, or_right, build_at}
use Rattle.board.proofs.Fine.{fine_low}
use Rattle.image.specs.Bytes.{byte_at, word_at, words_at}
use Rattle.image.specs.Image.{line_count, output_count, first_record, record_place, output_at, record_at, board_of}
use Rattle.image.specs.Refusals.{Accepted}
use Rattle.image.proofs.Laws.Fine.{line_count_lem, four_used, accepted_fine}
use Rattle.image.proofs.Laws.Records.{records_at}
use Rattle.image.proofs.Laws.Line.{pin_count}
use Rattle.reach.proofs.Laws.Image.{output_inside, pin_inside}
use Rattle.lanes.specs.declared.flat.Gate.{Gate}
use Rattle.lanes.specs.Inner.{size, bare_gate, gate_at, read_by, as_output, Flat, Decoded}

-- what stands at a place stands in the list, and what stands in the list stands at a place
pub at_among : (xs : List ℕ) (j : ℕ) → j < length xs → get_or xs j 0 among xs
at_among [] j l = absurd (not-suc-le-zero l)
at_among (x ∷ xs) zero l = inl refl
at_among (x ∷ xs) (suc j) l = inr (at_among xs j (le_of_suc-le-suc l))

pub among_at : (xs : List ℕ) (x : ℕ) → x among xs → (j : ℕ) × (j < length xs) × (x ≡ get_or xs j 0)
among_at [] x m = absurd m
among_at (y ∷ ys) x (inl e) = (0, omega arith, e)
among_at (y ∷ ys) x (inr m) = let (j, l, e) = among_at ys x m in (suc j, omega arith, e)

-- a test of a list and one more
somewhere_end : (t : ℕ → Bool) (xs : List ℕ) (y : ℕ) → somewhere t (xs ++ (y ∷ [])) ≡ (t y || somewhere t xs)
somewhere_end t [] y = refl
somewhere_end t (x ∷ xs) y =
    ⊎_elim
    (λ (e : t x ≡ true). rw e (sym (or_right (t y) true refl)))
    (λ (e : t x ≡ false). rw e (somewhere_end t xs y))
    (way (t x))

-- nothing is decoded yet
none_decoded : {b : Board} {flat : List Gate} → size b ≤ length flat → Decoded b 0 [] flat
none_decoded long = record {
  long = long;
  kind = λ i l. absurd (not-suc-le-zero l);
  count = λ i l. absurd (not-suc-le-zero l);
  pin = λ i j l m. absurd (not-suc-le-zero l);
  out = λ i l. absurd (not-suc-le-zero l);
  last = λ i p l m. absurd (not-suc-le-zero l);
  last_inside = λ i l. absurd (not-suc-le-zero l);
}

-- where a gate is put at a place, what holds of it there and of the others elsewhere
module _ (flat : List Gate) (k : ℕ) (g : Gate) (inside : k < length flat) where
  pub gate_put : (P : Gate → Type 0) (i : ℕ) → (i ≡ k → P g) → ((i ≡ k → ⊥) → P (gate_at flat i)) → P (gate_at (set flat k g) i)
  gate_put P i here there =
      ⊎_elim
      (λ (t : eqb i k ≡ true). let same = eqb-true i k t in rw (same, get_or-set_same flat k g bare_gate inside) (here same))
      (λ (t : eqb i k ≡ false). let off = eqb-false i k t in rw (get_or-set_other flat k i g bare_gate off) (there off))
      (way (eqb i k))

  -- what the gate has in common with the one before it
  gate_kept : {A : Type 0} (f : Gate → A) → f g ≡ f (gate_at flat k) → (i : ℕ) → f (gate_at (set flat k g) i) ≡ f (gate_at flat i)
  gate_kept f same i = gate_put (λ x. f x ≡ f (gate_at flat i)) i (λ e. rw e same) (λ off. refl)

module _ {b : Board} {n : ℕ} {marked : List ℕ} {flat : List Gate} (so : Decoded b n marked flat) where
  -- a line noted as the last that reads another
  note_decoded : (line p : ℕ) → p < length flat → n ≤ line → line < size b → Decoded b n marked (set flat p (read_by (gate_at flat p) line))
  note_decoded line p inside above low =
      let g = read_by (gate_at flat p) line in
      record {
        long = rw (length-set flat p g) so.long;
        kind = λ i l. gate_kept flat p g inside (λ x. x.kind) refl i ∙ so.kind i l;
        count = λ i l. gate_kept flat p g inside (λ x. x.count) refl i ∙ so.count i l;
        pin = λ i j l m. gate_kept flat p g inside (λ x. get_or x.pins j 0) refl i ∙ so.pin i j l m;
        out = λ i l. gate_kept flat p g inside (λ x. x.is_output) refl i ∙ so.out i l;
        last = λ i q l m. gate_put flat p g inside (λ x. i ≤ x.last_reader) q (λ e. omega arith) (λ off. so.last i q l m);
        last_inside = λ i l. gate_put flat p g inside (λ x. x.last_reader < size b) i (λ e. low) (λ off. so.last_inside i l);
      }

  -- an output marked
  mark_decoded : (o : ℕ) → o < length flat → Decoded b n (marked ++ (o ∷ [])) (set flat o (as_output (gate_at flat o)))
  mark_decoded o inside =
      let g = as_output (gate_at flat o) in
      record {
        long = rw (length-set flat o g) so.long;
        kind = λ i l. gate_kept flat o g inside (λ x. x.kind) refl i ∙ so.kind i l;
        count = λ i l. gate_kept flat o g inside (λ x. x.count) refl i ∙ so.count i l;
        pin = λ i j l m. gate_kept flat o g inside (λ x. get_or x.pins j 0) refl i ∙ so.pin i j l m;
        out = λ i l.
            rw (somewhere_end (eqb i) marked o)
            (gate_put flat o g inside (λ x. x.is_output ≡ (eqb i o || somewhere (eqb i) marked)) i
            (λ e. rw (eq-eqb i o e) refl)
            (λ off. rw (ne_eqb i o off) (so.out i l)));
        last = λ i q l m. rw (gate_kept flat o g inside (λ x. x.last_reader) refl q) (so.last i q l m);
        last_inside = λ i l. rw (gate_kept flat o g inside (λ x. x.last_reader) refl i) (so.last_inside i l);
      }

-- a line's gate, put where its pins' lines are noted as read
next_decoded : {b : Board} {n : ℕ} {flat : List Gate} → Low b → n < size b → Decoded b n [] flat → (g : Gate)
    → g.kind ≡ (record_of b n).kind → g.count ≡ length (record_of b n).pins → ((j : ℕ) → j < 4 → get_or g.pins j 0 ≡ get_or (record_of b n).pins j 0)
    → g.is_output ≡ false → g.last_reader ≡ 0 → ((p : ℕ) → p among (record_of b n).pins → n ≤ (gate_at flat p).last_reader)
    → Decoded b (n + 1) [] (set flat n g)
next_decoded {b} {n} {flat} low few so g kind count pin off unread read =
    let inside : n < length flat = omega (arith, so.long) in
    record {
      long = rw (length-set flat n g) so.long;
      kind = λ i l. gate_put flat n g inside (λ x. x.kind ≡ (record_of b i).kind) i (λ e. rw e kind) (λ ne. so.kind i (omega arith));
      count = λ i l. gate_put flat n g inside (λ x. x.count ≡ length (record_of b i).pins) i (λ e. rw e count) (λ ne. so.count i (omega arith));
      pin = λ i j l m.
          gate_put flat n g inside (λ x. get_or x.pins j 0 ≡ get_or (record_of b i).pins j 0) i (λ e. rw e (pin j m)) (λ ne. so.pin i j (omega arith) m);
      out = λ i l. gate_put flat n g inside (λ x. x.is_output ≡ false) i (λ e. off) (λ ne. so.out i (omega arith));
      last = λ i p l m.
          let under = low i p m in
          gate_put flat n g inside (λ x. i ≤ x.last_reader) p (λ e. absurd (omega arith)) (λ ne.
          ⊎_elim
          (λ (t : eqb i n ≡ true). let same = eqb-true i n t in rw same (read p (rw same at m)))
          (λ (t : eqb i n ≡ false). let other = eqb-false i n t in so.last i p (omega arith) m)
          (way (eqb i n)));
      last_inside = λ i l. gate_put flat n g inside (λ x. x.last_reader < size b) i (λ e. omega arith) (λ ne. so.last_inside i (omega arith));
    }

-- a board that is decoded to the end, with its outputs marked
all_decoded : {b : Board} {n : ℕ} {flat : List Gate} → Fine b → ((i : ℕ) → i < size b → length (record_of b i).pins ≤ 4) → n ≡ size b
    → Decoded b n b.outs flat → Flat b flat
all_decoded {b} {n} {flat} fine four all so =
    let few : (i : ℕ) → i < size b → i < n = λ i l. omega arith in
    record {
      fine = fine;
      long = so.long;
      kind = λ i l. so.kind i (few i l);
      count = λ i l. so.count i (few i l);
      pin = λ i j l m. let most = four i l in so.pin i j (few i l) (omega arith);
      inside = λ i j l m.
          rw (so.pin i j (few i l) m)
          (⊎_elim
          (λ (t : ltb j (length (record_of b i).pins) ≡ true). lt_trans (fine_low b fine i _ (at_among (record_of b i).pins j (ltb-true j _ t))) l)
          (λ (t : ltb j (length (record_of b i).pins) ≡ false). rw (get_or-eq_default (record_of b i).pins 0 (ltb-false j _ t)) fine.some_line)
          (way (ltb j (length (record_of b i).pins))));
      out = λ i l. so.out i (few i l);
      last = λ i p l m. so.last i p (few i l) m;
      last_inside = λ i l. so.last_inside i (few i l);
    }

-- a line's pins before j: they are read, the line is noted as the last that reads their lines, and the places past them are 0
pub record Pins (b : Board) (line j : ℕ) (pins : List ℕ) (flat : List Gate) : Type 0 where
  pub decoded : Decoded b line [] flat
  pub four : length pins ≡ 4
  pub pin : (k : ℕ) → k < j → get_or pins k 0 ≡ get_or (record_of b line).pins k 0
  pub bare : (k : ℕ) → j ≤ k → get_or pins k 0 ≡ 0
  pub read : (k : ℕ) → k < j → line ≤ (gate_at flat (get_or (record_of b line).pins k 0)).last_reader

-- the board of an accepted image, decoded from its bytes
module _ (s : List ℕ) (ok : Accepted s) where
  pub room : {n : ℕ} {marked : List ℕ} {flat : List Gate} → Decoded (board_of s) n marked flat → line_count s ≤ length flat
  room so = rw (line_count_lem s) at so.long

  pub begins : {flat : List Gate} → line_count s ≤ length flat → Decoded (board_of s) 0 [] flat
  begins long = none_decoded (rw (line_count_lem s) long)

  pub ends : {flat : List Gate} → Decoded (board_of s) (line_count s) (board_of s).outs flat → Flat (board_of s) flat
  ends so = all_decoded (accepted_fine s ok) (four_used (accepted_fine s ok)) (sym (line_count_lem s)) so

  -- one output more
  pub output_decoded : {n j o : ℕ} {flat : List Gate} → j < output_count s → o ≡ output_at s j
      → Decoded (board_of s) n (words_at s (record_place s (line_count s)) j) flat
      → Decoded (board_of s) n (words_at s (record_place s (line_count s)) (j + 1)) (set flat o (as_output (gate_at flat o)))
  unfolding build
  output_decoded {j = j} l is so =
      let inside = output_inside s ok j l in
      let long = room so in
      rw (add-one j, is) (mark_decoded so (output_at s j) (omega arith))

  module _ {line at : ℕ} (inside : line < line_count s) (is : at ≡ record_place s line) where
    record_is : record_of (board_of s) line ≡ record_at s at
    record_is = rw is (records_at s (first_record s) (line_count s) line (record { kind = 0; pins = [] }) inside)

    count_is : length (record_of (board_of s) line).pins ≡ byte_at s (at + 1)
    count_is = rw is (sym (pin_count s line inside))

    pin_is : (j : ℕ) → j < byte_at s (at + 1) → get_or (record_of (board_of s) line).pins j 0 ≡ word_at s (at + 2 + 2 * j)
    pin_is j l = rw record_is (build_at _ (byte_at s (at + 1)) j l)

    pub few_pins : byte_at s (at + 1) ≤ 4
    few_pins = rw (← count_is) (four_used (accepted_fine s ok) line (rw (line_count_lem s) inside))

    pub pin_low : {p : ℕ} (j : ℕ) → j < byte_at s (at + 1) → p ≡ word_at s (at + 2 + 2 * j) → p < line_count s
    pin_low j l e = rw (e, is) (pin_inside s ok j (rw is at l) refl inside)

    -- one pin more
    pub pins_next : {j p : ℕ} {pins : List ℕ} {flat : List Gate} → j < byte_at s (at + 1) → p ≡ word_at s (at + 2 + 2 * j)
        → Pins (board_of s) line j pins flat
        → Pins (board_of s) line (j + 1) (set pins j p) (set flat p (read_by (gate_at flat p) line))
    pins_next {j} {p} {pins} {flat} l e so =
        let long = room so.decoded in
        let few = few_pins in
        let low : p < length flat = omega (arith, pin_low j l e) in
        let most : j < length pins = omega (arith, so.four) in
        let g = read_by (gate_at flat p) line in
        let pin-is : get_or (record_of (board_of s) line).pins j 0 ≡ p = pin_is j l ∙ sym e in
        record {
          decoded = note_decoded so.decoded line p low (le_refl line) (rw (line_count_lem s) inside);
          four = length-set pins j p ∙ so.four;
          pin = λ k m.
              ⊎_elim
              (λ (t : eqb k j ≡ true). let same = eqb-true k j t in rw same (get_or-set_same pins j p 0 most ∙ sym pin-is))
              (λ (t : eqb k j ≡ false). let off = eqb-false k j t in get_or-set_other pins j k p 0 off ∙ so.pin k (omega arith))
              (way (eqb k j));
          bare = λ k m. get_or-set_other pins j k p 0 (λ r. omega arith) ∙ so.bare k (omega arith);
          read = λ k m.
              gate_put flat p g low (λ x. line ≤ x.last_reader) (get_or (record_of (board_of s) line).pins k 0) (λ r. le_refl line) (λ off.
              ⊎_elim
              (λ (t : eqb k j ≡ true). absurd (off (rw (eqb-true k j t) pin-is)))
              (λ (t : eqb k j ≡ false). let other = eqb-false k j t in so.read k (omega arith))
              (way (eqb k j)));
        }

    -- and all: the line's gate
    pub pins_decoded : {j : ℕ} {pins : List ℕ} {flat : List Gate} → j ≡ byte_at s (at + 1) → Pins (board_of s) line j pins flat → (g : Gate)
        → g.kind ≡ byte_at s at → g.count ≡ byte_at s (at + 1) → g.pins ≡ pins → g.is_output ≡ false → g.last_reader ≡ 0
        → Decoded (board_of s) (line + 1) [] (set flat line g)
    pins_decoded {j} {pins} {flat} all so g kind count same off unread =
        let b = board_of s in
        let size_is = count_is in
        next_decoded (fine_low b (accepted_fine s ok)) (rw (line_count_lem s) inside) so.decoded g (kind ∙ rw record_is refl) (count ∙ sym count_is)
        (λ k l.
        rw same
        (⊎_elim
        (λ (t : ltb k j ≡ true). so.pin k (ltb-true k j t))
        (λ (t : ltb k j ≡ false).
        let past = ltb-false k j t in
        so.bare k past ∙ sym (get_or-eq_default (record_of b line).pins 0 {n = k} (omega arith)))
        (way (ltb k j))))
        off unread (λ p m.
        let (k, l, e) = among_at (record_of b line).pins p m in
        rw e (so.read k (omega arith)))
