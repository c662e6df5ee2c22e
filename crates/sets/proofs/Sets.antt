-- Laws of sets of pairs: what a computed test says of each pair, and what the sets 0, 3, 12 and 15 hold. Each by going through the bits.
use mathlib.Core.Path.{◌≡◌, refl, ap}
use mathlib.Core.Logic.{⊎_elim}
use mathlib.Core.List.{[], ◌∷◌}
use mathlib.Core.Bool.{Bool, true, false, not, ◌&&◌, ◌||◌, false≢true}
use Prim.Native.Nat.{ℕ, zero, suc, ◌+◌, ◌*◌, ◌<◌}
use native.Mathlib.Nat.{le_of_suc-le-suc, not-suc-le-zero, eq-or-lt_of_le}
use native.Mathlib.Omega.{arith}
use lib.Dec.{T, eqb, ltb, lit<, ltb→lt, eqb→eq}
use mir.Facts.{and_yes}
use borrow.Author.Tests.{eqb-true, eq-eqb, ne_eqb}
use Rattle.board.specs.Lists.{bit, ones}
use Rattle.board.specs.Gate.{kinds, asks}
use Rattle.sets.specs.Sets.{has, In, join}

-- what holds of 0 and of 1 holds of each bit
pub each-bit : (P : ℕ → Type 0) → P 0 → P 1 → (g : ℕ) → g < 2 → P g
each-bit P a b zero l = a
each-bit P a b (suc zero) l = b
each-bit P a b (suc (suc g)) l = absurd (not-suc-le-zero (le_of_suc-le-suc (le_of_suc-le-suc l)))

-- a test that passes at both bits
abbrev pub bits : (ℕ → Bool) → Bool
bits f = f 0 && f 1

pub at_bit : (f : ℕ → Bool) → T (bits f) → (g : ℕ) → g < 2 → T (f g)
at_bit f t = each-bit (λ g. T (f g)) (and_yes (f 0) (f 1) t).0 (and_yes (f 0) (f 1) t).1

-- a test that passes at both bits of both halves of a pair
unfoldable pub pairs : (ℕ → ℕ → Bool) → Bool
pairs f = bits (λ g. bits (f g))

pub at_pair : (f : ℕ → ℕ → Bool) → T (pairs f) → (g h : ℕ) → g < 2 → h < 2 → T (f g h)
unfolding pairs
at_pair f t g h a b = at_bit (f g) (at_bit (λ u. bits (f u)) t g a) h b

-- a test that passes below a number
unfoldable pub below : ℕ → (ℕ → Bool) → Bool
below zero f = true
below (suc n) f = f n && below n f

pub at_below : (n : ℕ) (f : ℕ → Bool) → T (below n f) → (k : ℕ) → k < n → T (f k)
unfolding below
at_below zero f t k l = absurd (not-suc-le-zero l)
at_below (suc n) f t k l =
    let (last, rest) = and_yes (f n) (below n f) t in
    ⊎_elim (λ (e : k ≡ n). rw e last) (λ m. at_below n f rest k m) (eq-or-lt_of_le (le_of_suc-le-suc l))

-- a test that passes wherever another does
unfoldable pub implies : Bool → Bool → Bool
implies a b = not a || b

pub implied : (a b : Bool) → T (implies a b) → a ≡ true → b ≡ true
unfolding implies
implied true true t e = refl
implied true false t e = absurd t
implied false b t e = absurd (false≢true e)

pub T_true : (a : Bool) → T a → a ≡ true
T_true true t = refl
T_true false t = absurd t

pub true-T : (a : Bool) → a ≡ true → T a
true-T true e = tt
true-T false e = absurd (false≢true e)

-- the set r holds what p and q make of each pair that passes the test f
unfoldable pub images : (ℕ → ℕ → Bool) → (ℕ → ℕ → ℕ) → (ℕ → ℕ → ℕ) → ℕ → Bool
unfolding has pairs implies
images f p q r = ltb r 16 && pairs (λ g h. implies (f g h) (has r (p g h) (q g h)))

pub image_in : (f : ℕ → ℕ → Bool) (p q : ℕ → ℕ → ℕ) (r : ℕ) → T (images f p q r)
    → {g h : ℕ} → g < 2 → h < 2 → f g h ≡ true → p g h < 2 → q g h < 2 → In r (p g h) (q g h)
unfolding images
image_in f p q r t {g} {h} gb hb e pb qb =
    let (small, all) = and_yes (ltb r 16) _ t in
    record {
      set = ltb→lt r 16 small;
      good-bit = pb;
      faulty-bit = qb;
      inside = implied (f g h) _ (at_pair (λ u v. implies (f u v) (has r (p u v) (q u v))) all g h gb hb) e;
    }

-- the gates of two pins: a bit, the pins either way round, and an exclusive-or undone
bit_below : (t : Bool) → bit t < 2
bit_below true = lit< tt
bit_below false = lit< tt

pub join-below : (o u v : ℕ) → join o u v < 2
unfolding join
join-below o u v = bit_below (asks (3 + 2 * o) 2 (ones (u ∷ v ∷ [])))

pub join-turned : (o u v : ℕ) → join o u v ≡ join o v u
unfolding join
join-turned o u v =
    let same : ones (u ∷ v ∷ []) ≡ ones (v ∷ u ∷ []) = omega arith in
    ap (λ (n : ℕ). bit (asks (3 + 2 * o) 2 n)) same

undone : T (pairs (λ f g. eqb (join 2 (join 2 g f) f) g))
unfolding join kinds pairs
undone = tt

pub join_undone : (f g : ℕ) → f < 2 → g < 2 → join 2 (join 2 g f) f ≡ g
join_undone f g fb gb = eqb→eq _ g (at_pair (λ u v. eqb (join 2 (join 2 v u) u) v) undone f g fb gb)

-- the empty set holds nothing
nothing : T (pairs (λ g h. not (has 0 g h)))
unfolding has pairs
nothing = tt

refuted : (a : Bool) → T (not a) → a ≡ true → ⊥
refuted true t e = t
refuted false t e = false≢true e

pub in_empty : {g h : ℕ} → In 0 g h → ⊥
in_empty {g} {h} a = refuted (has 0 g h) (at_pair (λ u v. not (has 0 u v)) nothing g h a.good-bit a.faulty-bit) a.inside

-- a set below 4 holds no pair that differs
alike : T (below 4 (λ s. pairs (λ g h. implies (has s g h) (eqb g h))))
unfolding has pairs implies below
alike = tt

pub in_alike : {s g h : ℕ} → In s g h → s < 4 → g ≡ h
in_alike {s} {g} {h} a l =
    let here = at_pair (λ u v. implies (has s u v) (eqb u v)) (at_below 4 (λ w. pairs (λ u v. implies (has w u v) (eqb u v))) alike s l) g h a.good-bit a.faulty-bit in
    eqb-true g h (implied (has s g h) (eqb g h) here a.inside)

-- 15 holds every pair, 3 each that is alike, 12 each that differs
in_15 : T (images (λ g h. true) (λ g h. g) (λ g h. h) 15)
unfolding images
in_15 = tt

in_3 : T (images (λ g h. eqb g h) (λ g h. g) (λ g h. h) 3)
unfolding images
in_3 = tt

in_12 : T (images (λ g h. not (eqb g h)) (λ g h. g) (λ g h. h) 12)
unfolding images
in_12 = tt

module _ {g h : ℕ} (gb : g < 2) (hb : h < 2) where
  pub in_all : In 15 g h
  in_all = image_in (λ u v. true) (λ u v. u) (λ u v. v) 15 in_15 gb hb refl gb hb

  pub in_same : g ≡ h → In 3 g h
  in_same e = image_in (λ u v. eqb u v) (λ u v. u) (λ u v. v) 3 in_3 gb hb (eq-eqb g h e) gb hb

  pub in_differ : (g ≡ h → ⊥) → In 12 g h
  in_differ ne = image_in (λ u v. not (eqb u v)) (λ u v. u) (λ u v. v) 12 in_12 gb hb (ap not (ne_eqb g h ne)) gb hb
