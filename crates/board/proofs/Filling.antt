-- A buffer that a loop fills from its front, one number a turn: what each turn keeps, and what stands there at the end.
use mathlib.Core.Path.{◌≡◌, refl, sym, ap, ◌∙◌}
use mathlib.Core.Logic.{⊎_elim}
use mathlib.Core.List.{List, [], ◌∷◌, ◌++◌, append-nil, append_assoc}
use mathlib.Core.Bool.{true, false}
use Prim.Native.Nat.{ℕ, ◌+◌, ◌≤◌, ◌<◌}
use native.Mathlib.Nat.{zero-add}
use native.Mathlib.Numerals.{add-one}
use native.Mathlib.Omega.{arith}
use lib.Dec.{ltb}
use lib.ListN.{length, get_or, take, set, length-set}
use lib.Seq.{take-suc-set, take_all, get_or-set_same, get_or-set_other}
use borrow.Author.Tests.{ltb-true, ltb-false}
use Rattle.board.specs.Lists.{build, grow}
use Rattle.board.proofs.Lists.{way, grow-build}

-- the first i numbers of the buffer are what grows by f behind those before it; the others are as they were
pub record Filling (f : ℕ → List ℕ → ℕ) (before old : List ℕ) (i : ℕ) (now : List ℕ) : Type 0 where
  pub within : i ≤ length old
  pub long : length now ≡ length old
  pub front : before ++ take i now ≡ grow f before i
  pub rest : (k : ℕ) → i ≤ k → get_or now k 0 ≡ get_or old k 0

module _ (f : ℕ → List ℕ → ℕ) where
  pub begun : (before old : List ℕ) → Filling f before old 0 old
  unfolding grow
  begun before old = record { within = omega arith; long = refl; front = append-nil before; rest = λ k l. refl }

  module _ {before old : List ℕ} {i : ℕ} {now : List ℕ} (so : Filling f before old i now) where
    -- one number more
    pub stored : (v : ℕ) → i < length old → v ≡ f (length before + i) (before ++ take i now) → Filling f before old (i + 1) (set now i v)
    unfolding grow
    stored v l e =
        let inside : i < length now = omega (arith, so.long) in
        record {
          within = omega arith;
          long = length-set now i v ∙ so.long;
          front = rw (add-one, take-suc-set now i v inside, ← (append_assoc before (take i now) (v ∷ [])), e, so.front);
          rest = λ k m. get_or-set_other now i k v 0 (λ q. omega arith) ∙ so.rest k (omega arith);
        }

    -- the whole buffer
    pub filled : length old ≤ i → before ++ now ≡ grow f before (length old)
    filled l =
        let all : i ≡ length old = omega (arith, so.within) in
        rw (all, take_all (length old) now (omega (arith, so.long))) at so.front

  -- what grows from nothing is built
  pub grown_whole : (n : ℕ) → grow f [] n ≡ build f n
  unfolding build
  grown_whole n = grow-build f 0 n ∙ ap (build f) (zero-add n)

  -- the same of a buffer with nothing before it
  module _ {old : List ℕ} {i : ℕ} {now : List ℕ} (so : Filling f [] old i now) where
    pub stored_next : (v : ℕ) → i < length old → v ≡ f i (take i now) → Filling f [] old (i + 1) (set now i v)
    stored_next v l e = stored so v l (e ∙ ap (λ (k : ℕ). f k (take i now)) (sym (zero-add i)))

    pub front_built : take i now ≡ build f i
    front_built = so.front ∙ grown_whole i

    pub built : length old ≤ i → now ≡ build f (length old)
    built l = filled so l ∙ grown_whole (length old)

-- the same, number by number: the first i numbers are as they should be, and the others as they were
pub record Storing (P : ℕ → ℕ → Type 0) (old : List ℕ) (i : ℕ) (new : List ℕ) : Type 0 where
  pub long : length new ≡ length old
  pub each : (k : ℕ) → k < i → P k (get_or new k 0)
  pub rest : (k : ℕ) → i ≤ k → get_or new k 0 ≡ get_or old k 0

module _ (P : ℕ → ℕ → Type 0) (old : List ℕ) where
  pub none_stored : Storing P old 0 old
  none_stored = record { long = refl; each = λ k l. absurd (omega arith); rest = λ k l. refl }

  pub one_stored : (i v : ℕ) (new : List ℕ) → i < length old → Storing P old i new → P i v → Storing P old (i + 1) (set new i v)
  one_stored i v new inside h is =
      record {
        long = length-set new i v ∙ h.long;
        each = λ k l.
            ⊎_elim
            (λ (q : ltb k i ≡ true). let m = ltb-true k i q in rw (get_or-set_other new i k v 0 (λ e. omega arith)) (h.each k m))
            (λ (q : ltb k i ≡ false).
            let m = ltb-false k i q in
            let same : k ≡ i = omega arith in
            rw (same, get_or-set_same new i v 0 (omega (arith, h.long))) is)
            (way (ltb k i));
        rest = λ k l. get_or-set_other new i k v 0 (λ e. omega arith) ∙ h.rest k (omega arith);
      }
