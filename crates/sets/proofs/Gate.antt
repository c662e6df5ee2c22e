-- A gate's step loses no pair: forward over its pins in turn, then back; and every kind is a gate of four pins, absent ones filled.
use mathlib.Core.Path.{◌≡◌, refl}
use mathlib.Core.Logic.{inl, inr}
use mathlib.Core.List.{List, [], ◌∷◌}
use mathlib.Core.Bool.{Bool, ◌&&◌}
use Prim.Native.Nat.{ℕ, zero, suc, ◌/◌, ◌%◌, ◌≤◌, ◌<◌}
use native.Mathlib.Nat.{not-suc-le-zero}
use native.Mathlib.Omega.{arith}
use lib.Dec.{T, eqb, ltb, eqb→eq, ltb→lt}
use mir.Facts.{and_yes}
use lib.ListN.{length, get_or}
use Rattle.board.specs.Lists.{◌among◌}
use Rattle.board.specs.Limits.{last_kind}
use Rattle.board.specs.Gate.{kinds, gate}
use Rattle.board.specs.Fine.{most}
use Rattle.sets.specs.Sets.{has, In, join, four, Forward, Backward, Common, Stepped, way_of, filler, filled}
use Rattle.sets.specs.Inner.{Turned, Back}
use Rattle.sets.proofs.Sets.{bits, at_bit, pairs, at_pair, below, at_below, implies, implied, T_true, true-T, join-below, join-turned, join_undone}

-- one pin and what stands before it
pub step_back : (o z p x pin before first second : ℕ) → Backward o z p first → Common x first pin → Backward o z x second → Common p second before
    → Back o z p x pin before
step_back o z p x pin before first second on-pin meets on-before joins g h u v a b c = (
  meets u v c (on-pin g h u v c.good-bit c.faulty-bit a b),
  joins g h b (on-before u v g h b.good-bit b.faulty-bit (rw (join-turned o u g, join-turned o v h) a) c),
)

-- a turned set, turned back
pub turned_back : {f l z g h : ℕ} → f < 2 → g < 2 → h < 2 → Turned f l z → In l (join 2 g f) (join 2 h f) → In z g h
turned_back {f} {l} {z} {g} {h} fb gb hb turn a = rw (join_undone f g fb gb, join_undone f h fb hb) at (turn _ _ a)

-- the whole step of four pins
pub step_keeps : (o f l a b c d : ℕ) → f < 2 → (p₁ p₂ p₃ z₀ z q₂ q₁ l' a' b' c' d' : ℕ)
    → Forward o a b p₁ → Forward o p₁ c p₂ → Forward o p₂ d p₃ → Turned f l z₀ → Common z₀ p₃ z
    → Back o z p₂ d d' q₂ → Back o q₂ p₁ c c' q₁ → Back o q₁ a b b' a' → Turned f z l'
    → Stepped o f l a b c d l' a' b' c' d'
step_keeps o f l a b c d fb p₁ p₂ p₃ z₀ z q₂ q₁ l' a' b' c' d' up₁ up₂ up₃ turn meet back₂ back₁ back₀ turn' =
    record {
      keeps = λ ga ha gb hb gc hc gd hd ina inb inc ind line.
          let one = up₁ ga ha gb hb ina inb in
          let two = up₂ _ _ gc hc one inc in
          let three = up₃ _ _ gd hd two ind in
          let new = meet _ _ (turned_back fb three.good-bit three.faulty-bit turn line) three in
          let (newd, after₂) = back₂ _ _ gd hd new two ind in
          let (newc, after₁) = back₁ _ _ gc hc after₂ one inc in
          let (newb, newa) = back₀ ga ha gb hb after₁ ina inb in
          (turn' _ _ new, newa, newb, newc, newd);
    }

-- the filler leaves a gate's value as it is, and its set holds nothing else
filler_plain : T (below 3 (λ o. bits (λ u. eqb (join o u (filler o)) u)))
unfolding below join kinds
filler_plain = tt

filler_alone : T (below 3 (λ o. has (filled o) (filler o) (filler o) && pairs (λ g h. implies (has (filled o) g h) (eqb g (filler o) && eqb h (filler o)))))
unfolding below has pairs implies
filler_alone = tt

filler_small : T (below 3 (λ o. ltb (filler o) 2))
unfolding below
filler_small = tt

module _ (o : ℕ) (ob : o < 3) where
  alone : T (has (filled o) (filler o) (filler o) && pairs (λ g h. implies (has (filled o) g h) (eqb g (filler o) && eqb h (filler o))))
  alone = at_below 3 (λ p. has (filled p) (filler p) (filler p) && pairs (λ g h. implies (has (filled p) g h) (eqb g (filler p) && eqb h (filler p)))) filler_alone o ob

  joins_plain : (u : ℕ) → u < 2 → join o u (filler o) ≡ u
  joins_plain u ub = eqb→eq _ u (at_bit (λ v. eqb (join o v (filler o)) v) (at_below 3 (λ p. bits (λ v. eqb (join p v (filler p)) v)) filler_plain o ob) u ub)

  only_filler : {g h : ℕ} → In (filled o) g h → (g ≡ filler o) × (h ≡ filler o)
  only_filler {g} {h} a =
      let here = at_pair (λ u v. implies (has (filled o) u v) (eqb u (filler o) && eqb v (filler o))) (and_yes (has (filled o) (filler o) (filler o)) _ alone).1 g h a.good-bit a.faulty-bit in
      let (one, two) = and_yes (eqb g (filler o)) _ (true-T _ (implied (has (filled o) g h) _ here a.inside)) in
      (eqb→eq g _ one, eqb→eq h _ two)

  -- a gate of four pins, the last two filled, is one of two
  four_two : (f a b c d : ℕ) → c ≡ filler o → d ≡ filler o → four o f a b c d ≡ join 2 (join o a b) f
  four_two f a b c d e e' =
      rw (e, e', joins_plain (join o a b) (join-below o a b), joins_plain (join o a b) (join-below o a b))

  -- the filler is in its set
  pub in_filled : In (filled o) (filler o) (filler o)
  in_filled =
      record {
        set = omega (arith, tiny);
        good-bit = tiny;
        faulty-bit = tiny;
        inside = T_true _ (and_yes (has (filled o) (filler o) (filler o)) _ alone).0;
      }
    where
      tiny : filler o < 2
      tiny = ltb→lt _ 2 (at_below 3 (λ p. ltb (filler p) 2) filler_small o ob)

  -- the step of two pins
  pub pair_keeps : (f l a b : ℕ) → f < 2 → (p z₀ z l' a' b' : ℕ) → Forward o a b p → Turned f l z₀ → Common z₀ p z → Back o z a b b' a' → Turned f z l'
      → Stepped o f l a b (filled o) (filled o) l' a' b' (filled o) (filled o)
  pair_keeps f l a b fb p z₀ z l' a' b' up turn meet back turn' =
      record {
        keeps = λ ga ha gb hb gc hc gd hd ina inb inc ind line.
            let good : four o f ga gb gc gd ≡ join 2 (join o ga gb) f = four_two f ga gb gc gd (only_filler inc).0 (only_filler ind).0 in
            let bad : four o f ha hb hc hd ≡ join 2 (join o ha hb) f = four_two f ha hb hc hd (only_filler inc).1 (only_filler ind).1 in
            let one = up ga ha gb hb ina inb in
            let new = meet _ _ (turned_back fb one.good-bit one.faulty-bit turn (rw (good, bad) at line)) one in
            let (newb, newa) = back ga ha gb hb new ina inb in
            let out : In l' (four o f ga gb gc gd) (four o f ha hb hc hd) = rw (good, bad) (turn' _ _ new) in
            (out, newa, newb, inc, ind);
      }

-- the value of a gate of kind k as one of four pins
abbrev pub four_of : ℕ → List ℕ → ℕ
four_of k vs =
    let e = filler (way_of k / 2) in
    four (way_of k / 2) (way_of k % 2) (get_or vs 0 e) (get_or vs 1 e) (get_or vs 2 e) (get_or vs 3 e)

-- each of the list is a bit
abbrev pub Bits : List ℕ → Type 0
Bits vs = (v : ℕ) → v among vs → v < 2

-- a test that passes at each list of n bits
unfoldable each_list : ℕ → (List ℕ → Bool) → Bool
each_list zero f = f []
each_list (suc n) f = bits (λ v. each_list n (λ vs. f (v ∷ vs)))

at_list : (vs : List ℕ) (f : List ℕ → Bool) → T (each_list (length vs) f) → Bits vs → T (f vs)
unfolding each_list
at_list [] f t b = t
at_list (v ∷ vs) f t b =
    at_list vs (λ ws. f (v ∷ ws)) (at_bit (λ u. each_list (length vs) (λ ws. f (u ∷ ws))) t v (b v (inl refl))) (λ w m. b w (inr m))

unfoldable fits : ℕ → List ℕ → Bool
unfolding join kinds
fits k vs = eqb (gate k vs) (four_of k vs)

every_kind : T (below last_kind (λ k. below (suc (most (suc k))) (λ n. each_list n (fits (suc k)))))
unfolding below each_list fits
every_kind = tt

-- every kind from 1 up is a gate of four pins
pub gate-four : (k : ℕ) → 0 < k → k ≤ last_kind → (vs : List ℕ) → length vs ≤ most k → Bits vs → gate k vs ≡ four_of k vs
unfolding fits
gate-four zero p l vs few b = absurd (not-suc-le-zero p)
gate-four (suc k) p l vs few b =
    let short : length vs < suc (most (suc k)) = omega arith in
    let kind = at_below last_kind (λ j. below (suc (most (suc j))) (λ n. each_list n (fits (suc j)))) every_kind k l in
    let count = at_below (suc (most (suc k))) (λ n. each_list n (fits (suc k))) kind (length vs) short in
    eqb→eq (gate (suc k) vs) (four_of (suc k) vs) (at_list vs (fits (suc k)) count b)
