-- A text made piece by piece: what is made, and the text of what is left, is the whole.
use mathlib.Core.Path.{◌≡◌, sym, ◌∙◌}
use mathlib.Core.List.{List, [], ◌∷◌, ◌++◌, append_assoc, append-nil}
use Prim.Native.Nat.{ℕ, ◌+◌, ◌*◌, ◌≤◌, ◌<◌}
use native.Mathlib.Numerals.{add-one}
use native.Mathlib.Omega.{arith}
use lib.ListN.{length, take, set, length-append, length-set}
use lib.Seq.{take-suc-set, take_at, take-length, length-take-le}

module _ (all made rest : List ℕ) (is : all ≡ made ++ rest) where
  -- one piece more
  pub next : (piece left more : List ℕ) → rest ≡ piece ++ left → more ≡ made ++ piece → all ≡ more ++ left
  next piece left more e put = rw (put, is, e) (sym (append_assoc made piece left))

  -- nothing is left
  pub finished : rest ≡ [] → made ≡ all
  finished e = sym (is ∙ rw (e, append-nil))

-- one byte more
pub one_more : (out : List ℕ) (at b : ℕ) → at < length out → take (at + 1) (set out at b) ≡ take at out ++ (b ∷ [])
one_more out at b room = rw (add-one at) (take-suc-set out at b room)

-- two bytes more
pub two_more : (out : List ℕ) (i a b : ℕ) → 2 * i + 1 < length out → take (2 * (i + 1)) (set (set out (2 * i) a) (2 * i + 1) b) ≡ take (2 * i) out ++ (a ∷ b ∷ [])
two_more out i a b room =
    let two : 2 * (i + 1) ≡ 2 * i + 1 + 1 = omega arith in
    rw (two, one_more (set out (2 * i) a) (2 * i + 1) b (rw length-set room), one_more out (2 * i) a (omega arith)) (append_assoc (take (2 * i) out) _ _)

-- what a copy leaves behind the first bytes
pub behind : (src tail part out rest : List ℕ) (at : ℕ) → at ≤ length out → part ≡ take (length src) src ++ tail
    → take (at + length src) (take at out ++ (part ++ rest)) ≡ take at out ++ src
behind src tail part out rest at room e =
    rw (e, take-length src, append_assoc src tail rest, ← append_assoc (take at out) src (tail ++ rest))
    (take_at (take at out ++ src) (tail ++ rest) (at + length src) (rw (length-append, length-take-le at out room)))
