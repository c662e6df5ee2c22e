-- An entry after a block: the lowest lane that shows a fault is the smallest pattern of the block, an entry that is not none stays, and so does
-- one whose fault the block does not show.
use mathlib.Core.Path.{◌≡◌, refl, sym, ap, ◌∙◌}
use mathlib.Core.Logic.{⊎_elim}
use mathlib.Core.Option.{Option, none, some}
use mathlib.Core.List.{List}
use mathlib.Core.Bool.{Bool, true, false, ◌&&◌}
use Prim.Native.Nat.{ℕ, ◌+◌, ◌-◌, ◌/◌, ◌%◌, ◌≤◌, ◌<◌, min}
use native.Mathlib.Nat.{le_refl, le_trans, lt_of_lt_of_le}
use native.Mathlib.Omega.{arith}
use lib.Dec.{ltb}
use lib.Bits.{bit_and}
use lib.ListN.{get_or}
use borrow.Author.Tests.{ltb-true, ltb-false}
use Rattle.board.specs.Lists.{bit, on}
use Rattle.board.specs.Limits.{none_mark}
use Rattle.board.specs.Board.{Board, Low}
use Rattle.board.specs.Gate.{site, stuck, absent}
use Rattle.board.specs.Test.{Smallest, differs, shows, first}
use Rattle.board.specs.Book.{entry}
use Rattle.board.specs.declared.Condition.{Condition}
use Rattle.board.proofs.Lists.{way, clash}
use Rattle.board.proofs.Search.{Below, first_is_smallest, first_at, first_none}
use Rattle.board.proofs.Absent.{absent_hidden}
use Rattle.reach.proofs.Laws.Bits.{and_bit, zero_bit}
use Rattle.lanes.specs.Words.{seen, each, lane, Lanes, below}
use Rattle.lanes.specs.Inner.{Lowest}
use Rattle.lanes.proofs.Laws.Eight.{word_at}
use Rattle.lanes.proofs.Laws.Through.{shows_through}
use Rattle.find.specs.Inner.{Span, Goes, Onward}

-- an entry that is right for no pattern yet
pub none_yet : (t : ℕ → Bool) → none_mark ≡ below t 0
unfolding first
none_yet t = refl

module _ (t : ℕ → Bool) (m : ℕ) where
  -- after patterns that do not pass, an entry is as before
  pub same-below : (n : ℕ) → m ≤ n → ((q : ℕ) → m ≤ q → q < n → t q ≡ false) → below t m ≡ below t n
  same-below n l dark = go (first t 0 m) (first_is_smallest t m)
    where
      go : (o : Option ℕ) → Smallest t m o → entry o ≡ below t n
      go none h =
          ap entry (first_none t n n (le_refl n) (λ q k.
          ⊎_elim (λ (e : ltb q m ≡ true). h q (ltb-true q m e)) (λ (e : ltb q m ≡ false). dark q (ltb-false q m e) k) (way (ltb q m))))
      go (some p) h = ap entry (first_at t n p (lt_of_lt_of_le h.0 l) h.1 h.2)

  -- an entry that is not none stays
  pub settled : (n old : ℕ) → m ≤ n → (old ≡ none_mark → ⊥) → Goes t m n old old
  settled n old l ne is = is ∙ go (first t 0 m) (first_is_smallest t m) (λ e. ne (is ∙ e))
    where
      go : (o : Option ℕ) → Smallest t m o → (entry o ≡ none_mark → ⊥) → entry o ≡ below t n
      go none h other = absurd (other refl)
      go (some p) h other = ap entry (first_at t n p (lt_of_lt_of_le h.0 l) h.1 h.2)

  -- where an entry is none, no pattern passes
  none_below : m ≤ none_mark → below t m ≡ none_mark → Below t m
  none_below l e = go (first t 0 m) (first_is_smallest t m) e
    where
      go : (o : Option ℕ) → Smallest t m o → entry o ≡ none_mark → Below t m
      go none h is = h
      go (some p) h is = absurd (omega (arith, h.0))

module _ (t : ℕ → Bool) (base : ℕ) (e : List ℕ) (holds : Lanes e t base) where
  unlit : (k : ℕ) → k < 512 → lane e k ≡ 0 → t (base + k) ≡ false
  unlit k l dark = go (t (base + k)) (sym (holds k l) ∙ dark)
    where
      go : (s : Bool) → bit s ≡ 0 → s ≡ false
      go false q = refl
      go true q = absurd (omega arith)

  lit : (k : ℕ) → k < 512 → lane e k ≡ 1 → t (base + k) ≡ true
  lit k l light = go (t (base + k)) (sym (holds k l) ∙ light)
    where
      go : (s : Bool) → bit s ≡ 1 → s ≡ true
      go true q = refl
      go false q = absurd (omega arith)

  -- none in the first z lanes of the block
  dark_to : (z : ℕ) → z ≤ 512 → ((k : ℕ) → k < z → lane e k ≡ 0) → (q : ℕ) → base ≤ q → q < base + z → t q ≡ false
  dark_to z few dark q over l =
      let same : base + (q - base) ≡ q = omega arith in
      rw same at (unlit (q - base) (omega arith) (dark (q - base) (omega arith)))

  module _ {end : ℕ} (span : Span base end) {z : ℕ} (low : Lowest e z) where
    -- an entry that is none is then the lowest lane, or none still where that is no pattern of the block
    below_low : below t base ≡ none_mark → Below t (base + z)
    below_low is q l =
        ⊎_elim
        (λ (f : ltb q base ≡ true). none_below t base (omega (arith, span.some_left, span.bounded)) is q (ltb-true q base f))
        (λ (f : ltb q base ≡ false). dark_to z low.few low.dark q (ltb-false q base f) l)
        (way (ltb q base))

    pub noted_lane : (old : ℕ) → old ≡ none_mark → base + z < end → Goes t base end old (base + z)
    noted_lane old is_none l is =
        let inside : z < 512 = omega (arith, span.few) in
        ap entry (first_at t end (base + z) l (lit z inside (low.lit inside)) (below_low (sym is ∙ is_none)))

    pub noted_none : (old : ℕ) → old ≡ none_mark → end ≤ base + z → Goes t base end old old
    noted_none old is_none l is = is_none ∙ ap entry (first_none t end (base + z) l (below_low (sym is ∙ is_none)))

both : (s t : Bool) → min (bit s) (bit t) ≡ bit (s && t)
both true true = refl
both true false = refl
both false true = refl
both false false = refl

-- the lanes in which a fault shows are those in which it changes its line and a change of that line is seen
module _ (b : Board) (low : Low b) (φ : Condition) (held : stuck φ < 2) (base : ℕ) (own : List ℕ)
    (changes : Lanes own (λ x. differs b φ x (site φ)) base) where
  pub shown_lanes : (through shown : List ℕ) → Lanes through (seen b (site φ)) base → shown ≡ each (λ w. bit_and (get_or own w 0) (get_or through w 0))
      → Lanes shown (shows b φ) base
  shown_lanes through shown sees is k l =
      rw (word_at shown (λ w. bit_and (get_or own w 0) (get_or through w 0)) is (k / 64) (omega arith))
      (and_bit (get_or own (k / 64) 0) (get_or through (k / 64) 0) (k % 64)
      ∙ rw (changes k l, sees k l, shows_through b low (base + k) φ held) (both (differs b φ (base + k) (site φ)) (seen b (site φ) (base + k))))

  -- where it changes its line in no lane of a block, its entry is as before
  pub idle_same : (n : ℕ) → base ≤ n → n ≤ base + 512 → ((w : ℕ) → w < 8 → get_or own w 0 ≡ 0) → below (shows b φ) base ≡ below (shows b φ) n
  idle_same n over few dark =
      same-below (shows b φ) base n over (λ q m l.
      shows_through b low q φ held
      ∙ rw (dark_to (λ x. differs b φ x (site φ)) base own changes 512 (omega arith) (λ k i. rw (dark (k / 64) (omega arith)) (zero_bit (k % 64))) q m (omega arith)))

-- a fault on an absent pin shows under no pattern
pub absent-same : (b : Board) (φ : Condition) → absent b φ ≡ true → (m n : ℕ) → m ≤ n → below (shows b φ) m ≡ below (shows b φ) n
absent-same b φ gone m n l = same-below (shows b φ) m n l (λ q i k. absent_hidden b φ gone q)

-- entries of lines that are done or still to do, from patterns to patterns
pub onward_on : {t : ℕ → Bool} {l m n o e o' e' o'' e'' : ℕ} → m ≤ n → Onward t l m o e o' e' → Onward t m n o' e' o'' e'' → Onward t l n o e o'' e''
onward_on {o' = o'} le h k =
    record {
      done = λ s. let (same, still) = h.done s in let (again, at_last) = k.done still in (again ∙ same, at_last);
      going = λ a c is.
          ⊎_elim
          (λ (on' : on o' ≡ true). k.going on' c (h.going a on' is))
          (λ (off : on o' ≡ false). clash _ c (k.done off).1)
          (way (on o'));
      ended = λ a c p ge is.
          ⊎_elim
          (λ (on' : on o' ≡ true). k.ended on' c p ge (h.going a on' is))
          (λ (off : on o' ≡ false). (k.done off).0 ∙ h.ended a off p (le_trans le ge) is)
          (way (on o'));
    }

-- at the end of the patterns, and where a line is done before it
pub onward_end : {t : ℕ → Bool} {n o e o' e' : ℕ} → Onward t 0 n o e o' e' → on o ≡ true → e ≡ none_mark → e' ≡ below t n
onward_end {t = t} {o' = o'} h a is =
    ⊎_elim
    (λ (on' : on o' ≡ true). h.going a on' (is ∙ none_yet t))
    (λ (off : on o' ≡ false). h.ended a off _ (le_refl _) (is ∙ none_yet t))
    (way (on o'))

pub onward_done : {t : ℕ → Bool} {n limit o e o' e' : ℕ} → Onward t 0 n o e o' e' → on o' ≡ false → n ≤ limit → on o ≡ true → e ≡ none_mark → e' ≡ below t limit
onward_done {t = t} h off l a is = h.ended a off _ l (is ∙ none_yet t)
