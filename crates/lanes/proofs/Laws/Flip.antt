-- The lanes in which a change of a line is seen are the patterns under which it is seen; and with the lanes in which a fault changes its own
-- line they are the patterns that show the fault.
use mathlib.Core.Path.{◌≡◌, refl, sym, ap, ◌∙◌}
use mathlib.Core.Logic.{⊎_elim}
use mathlib.Core.List.{List, []}
use mathlib.Core.Bool.{Bool, true, false, not, ◌||◌, ◌&&◌, false≢true}
use Prim.Native.Nat.{ℕ, zero, suc, ◌+◌, ◌*◌, ◌≤◌, ◌<◌, max, zero-le}
use native.Mathlib.Nat.{eq-or-lt_of_le, le_of_suc-le-suc, not-suc-le-zero}
use native.Mathlib.Omega.{arith}
use lib.Dec.{eqb, leb, ltb}
use lib.Bits.{bit_or, bit_xor, differ}
use lib.ListN.{get_or, get_or-eq_default}
use borrow.Author.Tests.{eqb-true, eq-eqb, ltb-true, ltb-false, leb-true}
use Rattle.board.specs.Lists.{◌among◌, somewhere, bit}
use Rattle.board.specs.Board.{Board, Low}
use Rattle.board.specs.Fine.{Fine}
use Rattle.board.specs.Row.{value}
use Rattle.board.specs.Gate.{bit_of, good, site, stuck}
use Rattle.board.specs.Test.{differs}
use Rattle.board.specs.declared.Condition.{Condition}
use Rattle.board.proofs.Lists.{way, or_true, or_right, and_true, passes_somewhere, where_passes, somewhere-same}
use Rattle.board.proofs.Fine.{fine_low}
use Rattle.lanes.specs.Words.{words, flipped, flipped_words, faulty_words, seen, is_out, apart_below}
use Rattle.lanes.specs.declared.flat.Gate.{Gate}
use Rattle.lanes.specs.Inner.{gate_at, size, Flat, Passed, PassedOn, Heard, adds}
use Rattle.reach.proofs.Laws.Bits.{bit_low, zero_bit, or_bit}
use Rattle.lanes.proofs.Laws.Lane.{each-bit, lane_xor}
use Rattle.lanes.proofs.Laws.Row.{Known, good-lane, flipped_lane, faulty-lane}
use Rattle.lanes.proofs.Laws.Eight.{Holds}
use Rattle.lanes.proofs.Laws.Pass.{apart, apart_next, apart_start}

-- two tests that pass together are one
pub together : (s t : Bool) → (s ≡ true → t ≡ true) → (t ≡ true → s ≡ true) → s ≡ t
together true t h k = sym (h refl)
together false true h k = k refl
together false false h k = refl

-- a test passes somewhere below n
abbrev any_below : (ℕ → Bool) → ℕ → Bool
any_below t zero = false
any_below t (suc n) = any_below t n || t n

any_at : (t : ℕ → Bool) (n i : ℕ) → i < n → t i ≡ true → any_below t n ≡ true
any_at t zero i l e = absurd (not-suc-le-zero l)
any_at t (suc n) i l e =
    ⊎_elim
    (λ (same : i ≡ n). or_right (any_below t n) (t n) (rw same at e))
    (λ less. rw (any_at t n i less e))
    (eq-or-lt_of_le (le_of_suc-le-suc l))

any_where : (t : ℕ → Bool) (n : ℕ) → any_below t n ≡ true → (i : ℕ) × (i < n) × (t i ≡ true)
any_where t zero e = absurd (false≢true e)
any_where t (suc n) e =
    ⊎_elim
    (λ h. let (i, l, passes) = any_where t n h in (i, omega arith, passes))
    (λ h. (n, omega arith, h))
    (or_true (any_below t n) (t n) e)

-- to pass at some output is to pass at some line that is one
outs_below : (b : Board) (n : ℕ) → ((o : ℕ) → o among b.outs → o < n) → (t : ℕ → Bool) → any_below (λ i. is_out b i && t i) n ≡ somewhere t b.outs
outs_below b n within t =
    together _ _
    (λ h.
    let (i, l, passes) = any_where (λ i. is_out b i && t i) n h in
    let (out, here) = and_true (is_out b i) (t i) passes in
    let (o, m, e) = where_passes (eqb i) b.outs out in
    passes_somewhere t b.outs o m (rw (eqb-true i o e) at here))
    (λ h.
    let (o, m, e) = where_passes t b.outs h in
    any_at (λ i. is_out b i && t i) n o (within o m) (rw (passes_somewhere (eqb o) b.outs o m (eq-eqb o o refl), e)))

-- in one lane a line differs, or does not
apart-bit : (u v : ℕ) → u < 2 → v < 2 → differ u v ≡ bit (not (eqb u v))
apart-bit u v h k =
    each-bit (λ (u : ℕ). differ u v ≡ bit (not (eqb u v)))
    (each-bit (λ (v : ℕ). differ 0 v ≡ bit (not (eqb 0 v))) refl refl v k)
    (each-bit (λ (v : ℕ). differ 1 v ≡ bit (not (eqb 1 v))) refl refl v k)
    u h

either : (s t : Bool) → max (bit s) (bit t) ≡ bit (s || t)
either true true = refl
either true false = refl
either false true = refl
either false false = refl

pub xor_lane : (u v j : ℕ) → bit_of (bit_xor u v) j ≡ bit (not (eqb (bit_of u j) (bit_of v j)))
xor_lane u v j = lane_xor u v j ∙ apart-bit (bit_of u j) (bit_of v j) (bit_low u j) (bit_low v j)

-- the words differ at some of the lines, lane by lane
apart-lane : (g f : ℕ → ℕ) (t : ℕ → Bool) (j : ℕ) → j < 64 → (n : ℕ)
    → bit_of (apart_below g f t n) j ≡ bit (any_below (λ i. t i && not (eqb (bit_of (g i) j) (bit_of (f i) j))) n)
unfolding apart_below
apart-lane g f t j inside zero = zero_bit j
apart-lane g f t j inside (suc n) =
    let here = not (eqb (bit_of (g n) j) (bit_of (f n) j)) in
    let before = any_below (λ i. t i && not (eqb (bit_of (g i) j) (bit_of (f i) j))) n in
    or_bit (apart_below g f t n) _ j
    ∙ rw (apart-lane g f t j inside n)
    (⊎_elim
    (λ (e : t n ≡ true). rw (e, xor_lane (g n) (f n) j) (either before here))
    (λ (e : t n ≡ false). rw (e, zero_bit j) (either before false))
    (way (t n)))

-- every kind of a board within the rules is one of the table's, and no line has more pins than its kind
pub known_kinds : (b : Board) → Fine b → Known b
known_kinds b fine i =
    ⊎_elim
    (λ (e : ltb i (size b) ≡ true). let stands = fine.records i (ltb-true i _ e) in (stands.kind, stands.few))
    (λ (e : ltb i (size b) ≡ false). rw (get_or-eq_default b.lines (record { kind = 0; pins = [] }) (ltb-false i _ e)) (zero-le, zero-le))
    (way (ltb i (size b)))

module _ (b : Board) (fine : Fine b) (base number : ℕ) (base_is : base ≡ 512 * number) (w : ℕ) where
  -- a word's own block of 64 patterns
  word_base : base + 64 * w ≡ 64 * (8 * number + w)
  word_base = omega arith

  -- the lanes in which a change of line l is seen
  pub seen_holds : (l : ℕ) → Holds (apart b (fine_low b fine) base l w (size b)) (seen b l) (base + 64 * w)
  unfolding seen
  seen_holds l j inside =
      let low = fine_low b fine in
      let known = known_kinds b fine in
      let block = 8 * number + w in
      let x = base + 64 * w + j in
      let differ-at : ℕ → Bool = λ i. not (eqb (bit_of (value (words (base + 64 * w)) b i) j) (bit_of (value (flipped_words l (base + 64 * w)) b i) j)) in
      apart-lane (value (words (base + 64 * w)) b) (value (flipped_words l (base + 64 * w)) b) (is_out b) j inside (size b)
      ∙ ap bit
      (outs_below b (size b) fine.outs_inside differ-at
      ∙ somewhere-same differ-at (λ o. not (eqb (value (good x) b o) (value (flipped l x) b o))) b.outs (λ o m.
      rw (word_base) (rw (good-lane b low known block j inside o, flipped_lane b low known block j inside l o))))

  -- the lanes in which a fault of any sort changes its own line
  pub changed_holds : (φ : Condition) → stuck φ < 2
      → Holds (bit_xor (value (words (base + 64 * w)) b (site φ)) (value (faulty_words φ (base + 64 * w)) b (site φ))) (λ x. differs b φ x (site φ)) (base + 64 * w)
  unfolding differs
  changed_holds φ held j inside =
      let low = fine_low b fine in
      let known = known_kinds b fine in
      let block = 8 * number + w in
      let l = site φ in
      xor_lane (value (words (base + 64 * w)) b l) (value (faulty_words φ (base + 64 * w)) b l) j
      ∙ rw word_base (rw (good-lane b low known block j inside l, faulty-lane b low known block j inside φ held l))

-- what is heard at first, and after one line more
module _ {b : Board} {flat : List Gate} (is : Flat b flat) (base l : ℕ) where
  pub heard_first : {rows changed : List ℕ} → Passed b base l (l + 1) rows changed → Heard b l (l + 1) ((gate_at flat l).last_reader) changed
  heard_first passed q p inside low m e =
      let above = leb-true l p (and_true (leb l p) _ e).0 in
      let same : p ≡ l = omega arith in
      is.last q l inside (rw same at m)

  pub heard_next : {i last later : ℕ} {old rows changed : List ℕ} → Heard b l i last old → PassedOn b base l i old rows changed → last ≤ later
      → (get_or changed i 0 ≡ 1 → (gate_at flat i).last_reader ≤ later) → Heard b l (i + 1) later changed
  heard_next {i} {last} {later} {old} {rows} {changed} heard on more own q p inside low m e =
      ⊎_elim
      (λ (s : ltb p i ≡ true).
      let under = ltb-true p i s in
      let same = ap (λ (v : ℕ). leb l p && eqb v 1) (on.kept p (λ r. omega arith)) in
      omega (arith, heard q p inside under m (sym same ∙ e)))
      (λ (s : ltb p i ≡ false).
      let over = ltb-false p i s in
      let same : p ≡ i = omega arith in
      let noted = eqb-true (get_or changed p 0) 1 (and_true (leb l p) _ e).1 in
      omega (arith, rw same at (is.last q p inside m), own (rw same at noted)))
      (way (ltb p i))

-- what is gathered at first, and after one line more
module _ (b : Board) (low : Low b) (base l : ℕ) where
  pub shown_first : (w x r : ℕ) → x ≡ 0 → r ≡ bit_or x (adds b base l l w) → r ≡ apart b low base l w (l + 1)
  shown_first w x r none is =
      is ∙ ap (λ (y : ℕ). bit_or y (adds b base l l w)) (none ∙ sym (apart_start b low base l w)) ∙ sym (apart_next b low base l w l)

  pub shown_next : (w i x r : ℕ) → x ≡ apart b low base l w i → r ≡ bit_or x (adds b base l i w) → r ≡ apart b low base l w (i + 1)
  shown_next w i x r before is = is ∙ ap (λ (y : ℕ). bit_or y (adds b base l i w)) before ∙ sym (apart_next b low base l w i)
