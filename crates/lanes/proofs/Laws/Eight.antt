-- Eight words, one by one.
use mathlib.Core.Path.{◌≡◌, refl, sym, ap, ◌∙◌}
use mathlib.Core.Logic.{⊎_elim}
use mathlib.Core.List.{List, [], ◌∷◌}
use mathlib.Core.Bool.{Bool}
use Prim.Native.Nat.{ℕ, zero, suc, ◌+◌, ◌*◌, ◌/◌, ◌%◌, ◌≤◌, ◌<◌}
use native.Mathlib.Omega.{arith}
use lib.Bits.{bit_or, bit_xor, and_le_l, and_le_r, or_add_and, xor_add_and, and_self}
use lib.Lanes.{zip2, put_chunk, fold_l}
use lib.ListN.{length, get_or}
use Rattle.std.proofs.lemmas.List.{ext_get_or}
use Rattle.std.proofs.lemmas.Simd.{length-zip2, get_or-zip2, length-put_chunk, get_or-put_chunk_below, get_or-put_chunk_at, get_or-put_chunk_above}
use Rattle.board.specs.Lists.{bit}
use Rattle.board.specs.Gate.{bit_of}
use Rattle.lanes.specs.Words.{each, Lanes}
use Rattle.lanes.specs.Inner.{Put}

-- what holds of each of the eight
each_word : (P : ℕ → Type 0) → P 0 → P 1 → P 2 → P 3 → P 4 → P 5 → P 6 → P 7 → (w : ℕ) → w < 8 → P w
each_word P a b c d e f g h zero l = a
each_word P a b c d e f g h (suc zero) l = b
each_word P a b c d e f g h (suc (suc zero)) l = c
each_word P a b c d e f g h (suc (suc (suc zero))) l = d
each_word P a b c d e f g h (suc (suc (suc (suc zero)))) l = e
each_word P a b c d e f g h (suc (suc (suc (suc (suc zero))))) l = f
each_word P a b c d e f g h (suc (suc (suc (suc (suc (suc zero)))))) l = g
each_word P a b c d e f g h (suc (suc (suc (suc (suc (suc (suc zero))))))) l = h
each_word P a b c d e f g h (suc (suc (suc (suc (suc (suc (suc (suc w)))))))) l = absurd (omega arith)

pub each_at : (f : ℕ → ℕ) (w : ℕ) → w < 8 → get_or (each f) w 0 ≡ f w
each_at f = each_word (λ (w : ℕ). get_or (each f) w 0 ≡ f w) refl refl refl refl refl refl refl refl

-- eight words that are worked out, one of them
pub word_at : (e : List ℕ) (f : ℕ → ℕ) → e ≡ each f → (w : ℕ) → w < 8 → get_or e w 0 ≡ f w
word_at e f is w l = ap (λ (x : List ℕ). get_or x w 0) is ∙ each_at f w l

-- eight words by what each of them is
pub each_of : (e : List ℕ) (f : ℕ → ℕ) → length e ≡ 8 → ((w : ℕ) → w < 8 → get_or e w 0 ≡ f w) → e ≡ each f
each_of e f long at = ext_get_or 0 e (each f) long (λ w l. let few = rw long at l in at w few ∙ sym (each_at f w few))

-- what two words join to is 0 only where both are
pub or_none : (a b : ℕ) → bit_or a b ≡ 0 → (a ≡ 0) × (b ≡ 0)
or_none a b e =
    let all = or_add_and a b in
    let left = and_le_l a b in
    let right = and_le_r a b in (
      omega arith,
      omega arith,
    )

-- words that join to 0 are 0, each of them
pub none_lit : (e : List ℕ) (a : ℕ) → fold_l bit_or a e ≡ 0 → (a ≡ 0) × ((w : ℕ) → get_or e w 0 ≡ 0)
none_lit [] a h = (h, λ w. refl)
none_lit (x ∷ xs) a h =
    let (both, rest) = none_lit xs (bit_or a x) h in
    let (first, here) = or_none a x both in
    (first, λ w. at w here rest)
  where
    at : (w : ℕ) → x ≡ 0 → ((v : ℕ) → get_or xs v 0 ≡ 0) → get_or (x ∷ xs) w 0 ≡ 0
    at zero here rest = here
    at (suc w) here rest = rest w

-- words that differ nowhere are one, and a word differs nowhere from itself
pub xor_none : (a b : ℕ) → bit_xor a b ≡ 0 → a ≡ b
xor_none a b e = omega (arith, xor_add_and a b, and_le_l a b, and_le_r a b)

pub xor_same : (a : ℕ) → bit_xor a a ≡ 0
xor_same a = omega (arith, xor_add_and a a, and_self a)

-- eight words joined with eight, one of them
pub joined_at : (f : ℕ → ℕ → ℕ) (a b : List ℕ) → length a ≡ 8 → length b ≡ 8 → (w : ℕ) → w < 8 → get_or (zip2 f a b) w 0 ≡ f (get_or a w 0) (get_or b w 0)
joined_at f a b m n w l = get_or-zip2 f a b w 0 0 0 (omega arith) (omega arith)

-- eight words joined with one word
pub joined_alike : (f : ℕ → ℕ → ℕ) (a : List ℕ) (v : ℕ) → length a ≡ 8 → (w : ℕ) → w < 8 → get_or (zip2 f a (each (λ i. v))) w 0 ≡ f (get_or a w 0) v
joined_alike f a v m w l = joined_at f a (each (λ i. v)) m refl w l ∙ ap (f (get_or a w 0)) (each_at (λ i. v) w l)

-- eight words joined with eight, all of them
pub joined_is : (f : ℕ → ℕ → ℕ) (a b : List ℕ) → length a ≡ 8 → length b ≡ 8 → zip2 f a b ≡ each (λ w. f (get_or a w 0) (get_or b w 0))
joined_is f a b m n = each_of (zip2 f a b) _ (length-zip2 f a b (m ∙ sym n) ∙ m) (joined_at f a b m n)

-- eight words put at a place
pub put_at : (old : List ℕ) (at : ℕ) (e : List ℕ) → at + 8 ≤ length old → length e ≡ 8 → Put old at e (put_chunk at old e)
put_at old at e inside long = record {
  long = length-put_chunk at old e;
  here = λ w l. get_or-put_chunk_at at old e w 0 (omega arith) (omega arith);
  off = λ k s. ⊎_elim (λ l. get_or-put_chunk_below at old e k 0 l) (λ l. get_or-put_chunk_above at old e k 0 (omega arith)) s;
}

-- a word has a test's value in each of its 64 lanes
abbrev pub Holds : ℕ → (ℕ → Bool) → ℕ → Type 0
Holds v t base = (j : ℕ) → j < 64 → bit_of v j ≡ bit (t (base + j))

-- eight words that each have it, have it in every lane
pub lanes_of : (e : List ℕ) (t : ℕ → Bool) (base : ℕ) → ((w : ℕ) → w < 8 → Holds (get_or e w 0) t (base + 64 * w)) → Lanes e t base
lanes_of e t base h k l =
    let same : base + 64 * (k / 64) + k % 64 ≡ base + k = omega arith in
    rw same at (h (k / 64) (omega arith) (k % 64) (omega arith))
