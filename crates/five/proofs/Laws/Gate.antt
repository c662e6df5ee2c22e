-- The five-valued gates of every kind and of up to four pins, from the table's three sections of four pins: a kind that asks the opposite
-- has the opposite value, and a pin that changes nothing of what a kind asks changes nothing of its value.
use mathlib.Core.Path.{◌≡◌, refl, sym, ap, ap₂, ◌∙◌, fun_ext}
use mathlib.Core.Logic.{⊎_elim}
use mathlib.Core.List.{List, [], ◌∷◌, ◌++◌, map}
use mathlib.Core.Bool.{Bool, true, false, not, cond}
use Prim.Native.Nat.{ℕ, zero, suc, ◌+◌, ◌-◌, ◌≤◌, ◌<◌}
use native.Mathlib.Nat.{add-zero, zero-add, add-suc}
use native.Mathlib.Numerals.{add-one}
use native.Mathlib.Omega.{arith}
use lib.Dec.{eqb, ltb, eqb→eq, eqb-suc-suc}
use lib.ListN.{length, get_or, length-append, get_or-eq_default, get_or-append}
use lib.Seq.{ext_get_or}
use borrow.Author.Tests.{eqb-true, eqb-false, eq-eqb, ne_eqb, ltb-true, ltb-false}
use Rattle.std.specs.List.{range_with_len}
use Rattle.std.proofs.lemmas.List.FromFn.{length-map-range_with_len, get_or-map-range_with_len}
use Rattle.board.specs.Lists.{somewhere, bit, ones, build}
use Rattle.board.specs.Limits.{last_kind}
use Rattle.board.specs.Fine.{most}
use Rattle.board.specs.Gate.{kinds, asks, gate}
use Rattle.board.specs.Five.{good_half, faulty_half, pair, fillings, agreed, every_filling, gate5}
use Rattle.board.proofs.Lists.{way, somewhere-same, somewhere-map, ones_end, build-length, build_at}
use Rattle.image.proofs.Laws.Fine.{tie_bare}
use Rattle.five.specs.Table.{kind_of}
use Rattle.five.specs.Inner.{number_of, filler_of, way_of}
use Rattle.five.specs.declared.table.Section.{Section}
use Rattle.five.specs.declared.table.Section.TheVariants.{And, Or, ExclusiveOr}
use Rattle.five.specs.declared.way.Way.{Way}
use Rattle.five.proofs.Laws.Lists.{any_default}
use Rattle.five.proofs.Laws.Table.{from}

-- the opposite of a value: 0 and 1, D and D-bar change places, and an x stays x
abbrev opposites : List ℕ
opposites = 1 ∷ 0 ∷ 2 ∷ 4 ∷ 3 ∷ []

abbrev opposite : ℕ → ℕ
opposite v = get_or opposites v v

opposite_twice : (v : ℕ) → opposite (opposite v) ≡ v
opposite_twice zero = refl
opposite_twice (suc zero) = refl
opposite_twice (suc (suc zero)) = refl
opposite_twice (suc (suc (suc zero))) = refl
opposite_twice (suc (suc (suc (suc zero)))) = refl
opposite_twice (suc (suc (suc (suc (suc v))))) = refl

opposite_same : (u w : ℕ) → eqb (opposite u) (opposite w) ≡ eqb u w
opposite_same u w =
    ⊎_elim
    (λ (e : eqb u w ≡ true). eq-eqb (opposite u) (opposite w) (ap opposite (eqb-true u w e)) ∙ sym e)
    (λ (e : eqb u w ≡ false).
    ne_eqb (opposite u) (opposite w) (λ q. eqb-false u w e (sym (opposite_twice u) ∙ ap opposite q ∙ opposite_twice w)) ∙ sym e)
    (way (eqb u w))

-- what some values' opposites agree on is the opposite of what they agree on
agreed_opposite : (f : ℕ → ℕ) (ws : List ℕ) → agreed (map (λ w. opposite (f w)) ws) ≡ opposite (agreed (map f ws))
agreed_opposite f [] = refl
agreed_opposite f (w ∷ ws) =
    let same : somewhere (λ u. not (eqb (opposite (f w)) u)) (map (λ v. opposite (f v)) ws) ≡ somewhere (λ u. not (eqb (f w) u)) (map f ws)
    = somewhere-map _ (λ v. opposite (f v)) ws ∙ somewhere-same _ _ ws (λ v m. ap not (opposite_same (f w) (f v))) ∙ sym (somewhere-map _ f ws) in
    rw same (go (somewhere (λ u. not (eqb (f w) u)) (map f ws)))
  where
    go : (t : Bool) → cond t 2 (opposite (f w)) ≡ opposite (cond t 2 (f w))
    go true = refl
    go false = refl

filling_opposite : (f : List ℕ → List ℕ → ℕ) (vs : List ℕ) → every_filling (λ gs hs. opposite (f gs hs)) vs ≡ opposite (every_filling f vs)
unfolding every_filling
filling_opposite f [] = refl
filling_opposite f (v ∷ vs) =
    ap agreed (ap (λ (h : ℕ → ℕ). map h (fillings v)) (fun_ext (λ w. filling_opposite (λ gs hs. f (good_half w ∷ gs) (faulty_half w ∷ hs)) vs)))
    ∙ agreed_opposite (λ w. every_filling (λ gs hs. f (good_half w ∷ gs) (faulty_half w ∷ hs)) vs) (fillings v)

pair_opposite : (s t : Bool) → pair (bit (not s)) (bit (not t)) ≡ opposite (pair (bit s) (bit t))
pair_opposite true true = refl
pair_opposite true false = refl
pair_opposite false true = refl
pair_opposite false false = refl

-- a kind that asks the same has the same value, and one that asks the opposite the opposite
gate_same : (k l : ℕ) → ((n s : ℕ) → asks l n s ≡ asks k n s) → (vs : List ℕ) → gate5 l vs ≡ gate5 k vs
gate_same k l h vs =
    ap (λ (f : List ℕ → List ℕ → ℕ). every_filling f vs)
    (fun_ext (λ gs. fun_ext (λ hs. ap₂ pair (ap bit (h (length gs) (ones gs))) (ap bit (h (length hs) (ones hs))))))

gate_opposite : (k l : ℕ) → ((n s : ℕ) → asks l n s ≡ not (asks k n s)) → (vs : List ℕ) → gate5 l vs ≡ opposite (gate5 k vs)
gate_opposite k l h vs =
    ap (λ (f : List ℕ → List ℕ → ℕ). every_filling f vs)
    (fun_ext (λ gs. fun_ext (λ hs.
    rw (h (length gs) (ones gs), h (length hs) (ones hs)) (pair_opposite (asks k (length gs) (ones gs)) (asks k (length hs) (ones hs))))))
    ∙ filling_opposite (λ gs hs. pair (gate k gs) (gate k hs)) vs

-- what a way by the table asks, and the value that it has where its section has v
abbrev asked : Way → ℕ → ℕ → Bool
asked w n s = let t = asks (kind_of (number_of w.section)) n s in cond w.opposite (not t) t

abbrev pub turned : Way → ℕ → ℕ
turned w v = cond w.opposite (opposite v) v

-- each kind that has pins asks what its way by the table asks
pinned : ℕ → ℕ → List Bool
pinned n s = map (λ (k : ℕ). asked (way_of k) n s) (range_with_len 1 8)

kinds_by : (n s : ℕ) → kinds n s ≡ false ∷ pinned n s ++ (false ∷ true ∷ [])
unfolding kinds pinned
kinds_by n s = refl

asks_by : (k : ℕ) → k < 8 → (n s : ℕ) → asks (suc k) n s ≡ asked (way_of (suc k)) n s
unfolding pinned
asks_by k l n s =
    ap (λ (ts : List Bool). get_or ts (suc k) false) (kinds_by n s)
    ∙ get_or-append (pinned n s) (false ∷ true ∷ []) false k (rw (length-map-range_with_len (λ (k : ℕ). asked (way_of k) n s) 1 8) l)
    ∙ get_or-map-range_with_len (λ (k : ℕ). asked (way_of k) n s) 1 8 k (suc k) false l (omega arith)

-- so its value is what that way has
pin_gate_by : (k : ℕ) → k < 8 → (vs : List ℕ) → gate5 (suc k) vs ≡ turned (way_of (suc k)) (gate5 (kind_of (number_of (way_of (suc k)).section)) vs)
pin_gate_by k l vs =
    let w = way_of (suc k) in
    let by = kind_of (number_of w.section) in
    ⊎_elim
    (λ (e : w.opposite ≡ true). rw e (gate_opposite by (suc k) (λ n s. asks_by k l n s ∙ rw e) vs))
    (λ (e : w.opposite ≡ false). rw e (gate_same by (suc k) (λ n s. asks_by k l n s ∙ rw e) vs))
    (way w.opposite)

-- and of no pins that of every kind is: computed over all kinds
bare_by : ℕ → ℕ → Bool
unfolding every_filling kinds
bare_by k x = eqb (gate5 (suc k) []) (turned (way_of (suc k)) (gate5 (kind_of (number_of (way_of (suc k)).section)) []))

gate_by : (k : ℕ) → k < last_kind → (vs : List ℕ) → length vs ≤ most (suc k)
    → gate5 (suc k) vs ≡ turned (way_of (suc k)) (gate5 (kind_of (number_of (way_of (suc k)).section)) vs)
unfolding bare_by
gate_by k l [] few = eqb→eq _ _ (rw zero-add at (from bare_by (range_with_len 1 last_kind) 0 tt k 2 l))
gate_by k l (v ∷ vs) few =
    ⊎_elim
    (λ (e : ltb k 8 ≡ true). pin_gate_by k (ltb-true k 8 e) (v ∷ vs))
    (λ (e : ltb k 8 ≡ false). let tied = ltb-false k 8 e in absurd (omega (arith, few, tie_bare (suc k) (omega arith) (omega arith))))
    (way (ltb k 8))

pub gate_goes : (kind v : ℕ) (vs : List ℕ) → 0 < kind → kind ≤ last_kind → length vs ≤ most kind → v ≡ gate5 (kind_of (number_of (way_of kind).section)) vs
    → turned (way_of kind) v ≡ gate5 kind vs
gate_goes kind v vs some known few q =
    let k : suc (kind - 1) ≡ kind = omega arith in
    sym (rw (k, ← q) at (gate_by (kind - 1) (omega arith) vs (rw k few)))

pub turned_opposite : (w : Way) (v r : ℕ) → w.opposite ≡ true → v < 5 → r ≡ get_or opposites v 2 → r ≡ turned w v
turned_opposite w v r e l is = rw e (is ∙ any_default opposites v 2 v l)

pub turned_same : (w : Way) (v : ℕ) → w.opposite ≡ false → v ≡ turned w v
turned_same w v e = rw e

-- one more pin, that is settled
filling_end : (f : List ℕ → List ℕ → ℕ) (w : ℕ) → eqb w 2 ≡ false → (vs : List ℕ)
    → every_filling f (vs ++ (w ∷ [])) ≡ every_filling (λ gs hs. f (gs ++ (good_half w ∷ [])) (hs ++ (faulty_half w ∷ []))) vs
unfolding every_filling
filling_end f w e [] = rw e
filling_end f w e (v ∷ vs) =
    ap agreed (ap (λ (h : ℕ → ℕ). map h (fillings v)) (fun_ext (λ u. filling_end (λ gs hs. f (good_half u ∷ gs) (faulty_half u ∷ hs)) w e vs)))

-- the first pins of a list and nothing else
firsts : (vs : List ℕ) (w : ℕ) → build (λ j before. get_or vs j w) (length vs) ≡ vs
firsts vs w =
    let n = build-length (λ j before. get_or vs j w) (length vs) in
    ext_get_or 0 _ vs n (λ i l. let m = rw n at l in build_at (λ j before. get_or vs j w) (length vs) i m ∙ any_default vs i w 0 m)

-- a value w on more pins changes nothing of a kind that asks the same with one pin more that has it
module _ (k w : ℕ) (settled : eqb w 2 ≡ false) (plain : good_half w ≡ faulty_half w) (idle : (n s : ℕ) → asks k (n + 1) (s + good_half w) ≡ asks k n s) where
  gate_idle : (gs : List ℕ) → gate k (gs ++ (good_half w ∷ [])) ≡ gate k gs
  gate_idle gs =
      let n : length (gs ++ (good_half w ∷ [])) ≡ length gs + 1 = length-append gs (good_half w ∷ []) in
      rw (n, ones_end gs (good_half w)) (ap bit (idle (length gs) (ones gs)))

  one_more : (vs : List ℕ) → gate5 k (vs ++ (w ∷ [])) ≡ gate5 k vs
  one_more vs =
      filling_end (λ gs hs. pair (gate k gs) (gate k hs)) w settled vs
      ∙ rw (← plain) (ap (λ (f : List ℕ → List ℕ → ℕ). every_filling f vs) (fun_ext (λ gs. fun_ext (λ hs. ap₂ pair (gate_idle gs) (gate_idle hs)))))

  some_more : (vs : List ℕ) (m : ℕ) → gate5 k (build (λ j before. get_or vs j w) (length vs + m)) ≡ gate5 k vs
  unfolding build
  some_more vs zero = rw (add-zero, firsts vs w)
  some_more vs (suc m) =
      let past : get_or vs (length vs + m) w ≡ w = get_or-eq_default vs w (omega arith) in
      rw (add-suc, past) (one_more (build (λ j before. get_or vs j w) (length vs + m)) ∙ some_more vs m)

-- what fills an absent pin is settled, and changes nothing of what the section's gates ask
idle_filler : (section : Section) →
    let w = filler_of section in
    let k = kind_of (number_of section) in
    (eqb w 2 ≡ false) × (good_half w ≡ faulty_half w) × ((n s : ℕ) → asks k (n + 1) (s + good_half w) ≡ asks k n s)
unfolding kinds
idle_filler And = (refl, refl, λ n s. rw (add-one, add-one) (eqb-suc-suc s n))
idle_filler Or = (refl, refl, λ n s. rw add-zero)
idle_filler ExclusiveOr = (refl, refl, λ n s. rw add-zero)

-- a gate of up to four pins, absent ones filled
four_pins : (section : Section) (vs : List ℕ) → length vs ≤ 4 →
    let w = filler_of section in
    let k = kind_of (number_of section) in
    gate5 k (get_or vs 0 w ∷ get_or vs 1 w ∷ get_or vs 2 w ∷ get_or vs 3 w ∷ []) ≡ gate5 k vs
unfolding build
four_pins section vs few =
    let (settled, plain, idle) = idle_filler section in
    let four : length vs + (4 - length vs) ≡ 4 = omega arith in
    rw four at (some_more (kind_of (number_of section)) (filler_of section) settled plain idle vs (4 - length vs))

-- so the table's entry for what four pins read, absent ones filled, is the value
pub pins_read : (section : Section) (vs : List ℕ) → length vs ≤ 4 → (w : ℕ) → w ≡ filler_of section → (a b c d : ℕ)
    → a ≡ get_or vs 0 w → b ≡ get_or vs 1 w → c ≡ get_or vs 2 w → d ≡ get_or vs 3 w
    → gate5 (kind_of (number_of section)) (a ∷ b ∷ c ∷ d ∷ []) ≡ gate5 (kind_of (number_of section)) vs
pins_read section vs few w e a b c d p q r s = rw (p, q, r, s, e) (four_pins section vs few)
