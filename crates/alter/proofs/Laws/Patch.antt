-- The bytes of a patched image: the new record's in its place, and the old ones everywhere else, so that trailer and outputs stay.
use mathlib.Core.Path.{◌≡◌, sym, ap, ◌∙◌}
use mathlib.Core.Logic.{◌⊎◌, inl, inr}
use mathlib.Core.List.{List, [], ◌++◌, append-nil, append_assoc}
use mathlib.Core.Bool.{not}
use Prim.Native.Nat.{ℕ, ◌+◌, ◌-◌, ◌≤◌, ◌<◌}
use native.Mathlib.Omega.{arith}
use lib.Dec.{eqb, ltb}
use lib.ListN.{length, get_or, take, drop, length-append, length-take, length-drop, drop_of_length-le, get_or-append}
use lib.Seq.{take_all, drop-drop, get_or-append-add, get_or-take, get_or-drop, length-take-le}
use borrow.Author.Tests.{eqb-true, ltb-false, not-false}
use Rattle.board.proofs.Lists.{or_false}
use Rattle.image.specs.Bytes.{byte_at, word_at, long_at}
use Rattle.image.specs.Image.{line_count, output_count, distance, full_distance, record_place}
use Rattle.image.specs.Refusals.{Accepted}
use Rattle.image.proofs.Laws.Fine.{passed}
use Rattle.alter.specs.Patch.{patched}

-- the distance of an accepted image: its records, its outputs and its trailer, all in the image
pub well_placed : (s : List ℕ) → Accepted s → (distance s ≡ full_distance (output_count s) (line_count s)) × (distance s ≤ length s)
well_placed s ok =
    let (exact, rest) = or_false (not (eqb (distance s) (full_distance (output_count s) (line_count s)))) _ (passed s ok).placed in
    (eqb-true (distance s) _ (not-false _ exact), ltb-false (length s) (distance s) (or_false (ltb (length s) (distance s)) _ rest).0)

-- a line's record ends before the outputs and the trailer
pub record_fits : (s : List ℕ) (line : ℕ) → Accepted s → line < line_count s → record_place s line + 10 + 12 ≤ length s
record_fits s line ok l = let (exact, fits) = well_placed s ok in omega arith

module _ (s : List ℕ) (line : ℕ) (new : List ℕ) (ten : length new ≡ 10) (fits : record_place s line + 10 ≤ length s) where
  pub patched-length : length (patched s line new) ≡ length s
  unfolding patched
  patched-length = simp (length-append, length-take, length-drop) (omega arith)

  front_length : length (take (record_place s line) s) ≡ record_place s line
  front_length = length-take-le (record_place s line) s (omega arith)

  head_length : length (take (record_place s line) s ++ new) ≡ record_place s line + 10
  head_length = length-append (take (record_place s line) s) new ∙ cc (front_length, ten)

  -- the new bytes
  pub byte_new : (j : ℕ) → j < 10 → byte_at (patched s line new) (record_place s line + j) ≡ byte_at new j
  unfolding patched
  byte_new j l =
      get_or-append (take (record_place s line) s ++ new) (drop (record_place s line + 10) s) 0 (record_place s line + j) (rw head_length (omega arith))
      ∙ ap (λ (n : ℕ). get_or (take (record_place s line) s ++ new) (n + j) 0) (sym front_length)
      ∙ get_or-append-add (take (record_place s line) s) new j 0

  -- the old bytes
  pub byte_kept : (k : ℕ) → (k < record_place s line) ⊎ (record_place s line + 10 ≤ k) → byte_at (patched s line new) k ≡ byte_at s k
  unfolding patched
  byte_kept k (inl l) =
      get_or-append (take (record_place s line) s ++ new) (drop (record_place s line + 10) s) 0 k (rw head_length (omega arith))
      ∙ get_or-append (take (record_place s line) s) new 0 k (rw front_length l)
      ∙ get_or-take (record_place s line) s k 0 l
  byte_kept k (inr l) =
      let p = record_place s line in
      let e : p + 10 + (k - (p + 10)) ≡ k = omega arith in
      ap (λ (n : ℕ). get_or ((take p s ++ new) ++ drop (p + 10) s) n 0) (sym e ∙ ap (λ (n : ℕ). n + (k - (p + 10))) (sym head_length))
      ∙ get_or-append-add (take p s ++ new) (drop (p + 10) s) (k - (p + 10)) 0
      ∙ get_or-drop (p + 10) s (k - (p + 10)) 0
      ∙ ap (λ (n : ℕ). get_or s n 0) e

  pub word_new : (j : ℕ) → j < 9 → word_at (patched s line new) (record_place s line + j) ≡ word_at new j
  word_new j l =
      let e : record_place s line + j + 1 ≡ record_place s line + (j + 1) = omega arith in
      rw (e, byte_new j (omega arith), byte_new (j + 1) (omega arith))

  pub word_kept : (k : ℕ) → (k + 1 < record_place s line) ⊎ (record_place s line + 10 ≤ k) → word_at (patched s line new) k ≡ word_at s k
  word_kept k (inl l) = rw (byte_kept k (inl (omega arith)), byte_kept (k + 1) (inl l))
  word_kept k (inr l) = rw (byte_kept k (inr l), byte_kept (k + 1) (inr (omega arith)))

  pub long_kept : (k : ℕ) → record_place s line + 10 ≤ k → long_at (patched s line new) k ≡ long_at s k
  long_kept k l = rw (word_kept k (inr l), word_kept (k + 2) (inr (omega arith)))

-- what a copy of the new record to its place leaves is the patched image
pub pasted : (s : List ℕ) (line : ℕ) (new part : List ℕ) (at : ℕ) → at ≡ record_place s line → length new ≡ 10 → record_place s line + 10 ≤ length s
    → part ≡ new ++ drop (length new) (take (length s - at) (drop at s))
    → take at s ++ (part ++ drop (length s - at) (drop at s)) ≡ patched s line new
unfolding patched
pasted s line new part at place ten fits e =
    let rest : take (length s - at) (drop at s) ≡ drop at s = take_all (length s - at) (drop at s) (simp length-drop (omega arith)) in
    let none : drop (length s - at) (drop at s) ≡ [] = drop_of_length-le (drop at s) {i = length s - at} (simp length-drop (omega arith)) in
    rw (none, append-nil, e, rest, drop-drop (length new) at s, ten, place) (sym (append_assoc (take (record_place s line) s) new (drop (record_place s line + 10) s)))
