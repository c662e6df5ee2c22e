-- The last twelve bytes of what came, at the front of a buffer: as more comes, and the refusal that they alone decide.
use mathlib.Core.Path.{◌≡◌, refl, sym, ◌∙◌}
use mathlib.Core.Option.{some}
use mathlib.Core.List.{List, [], ◌∷◌, ◌++◌}
use mathlib.Core.Bool.{Bool, true, false}
use Prim.Native.Nat.{ℕ, ◌+◌, ◌-◌, ◌≤◌, ◌<◌}
use native.Mathlib.Omega.{arith}
use lib.ListN.{length, take, drop, length-append, length-take, length-drop}
use lib.Seq.{take_all, take-length, take-paste, drop-append-le, drop-drop, take-add, drop_at, length-take-le}
use Rattle.std.specs.List.{copy_within}
use Rattle.image.specs.Image.{longest_image, last_twelve}
use Rattle.image.specs.Refusals.{given, unmarked, miscounted, image_refusals, first_refusal}
use Rattle.image.specs.Promise.{numbers}
use Rattle.image.specs.declared.Refusal.{Refusal}
use Rattle.image.specs.declared.Refusal.TheVariants.{Mark, Counts, Distance}
use Rattle.image.proofs.Laws.Long.{long_refused}
use Rattle.report.specs.Lines.{checked_line}
use Rattle.report.specs.Book.{program_lines, RefusedAlike, Tail}

-- twelve bytes put at the front of a buffer
put_first : (bytes after : List ℕ) (r : ℕ) → length bytes ≡ 12 → r ≡ 0 + length bytes → take r after ≡ bytes → take 12 after ≡ bytes
put_first bytes after r twelve end put = let same : r ≡ 12 = omega arith in rw same at put

-- the last twelve of what came first
module _ (s after : List ℕ) (r : ℕ) (whole : 12 ≤ length s) where
  abbrev last-part : List ℕ
  last-part = take (length s - (length s - 12)) (drop (length s - 12) s)

  pub tail_first : r ≡ 0 + length last-part → take r after ≡ last-part → Tail s after
  tail_first end put =
      let all : last-part ≡ last_twelve s = take_all (length s - (length s - 12)) (drop (length s - 12) s) (omega (arith, length-drop (length s - 12) s)) in
      let many : length last-part ≡ 12 = rw all (length-drop (length s - 12) s ∙ omega arith) in
      put_first last-part after r many end put ∙ all

-- twelve bytes brought to the front
pub brought : (buf : List ℕ) (got : ℕ) → got + 12 ≤ length buf → take 12 (copy_within buf got (got + 12) 0) ≡ take 12 (drop got buf)
brought buf got room =
    let twelve : got + 12 - got ≡ 12 = omega arith in
    rw twelve (take-paste buf 0 (drop got buf) 12 (omega arith) (omega (arith, length-drop got buf)))

-- the end of a front is the front of a later part
drop-take : (m n : ℕ) (l : List ℕ) → m ≤ length l → drop m (take (m + n) l) ≡ take n (drop m l)
drop-take m n l room = rw take-add (drop_at (take m l) (take n (drop m l)) m (length-take-le m l room))

-- more comes behind the last twelve: the last twelve of all stand as much further on
pub tail_next : (s buf after : List ℕ) (got : ℕ) → 12 ≤ length s → got + 12 ≤ length buf → Tail s buf → take 12 after ≡ take 12 (drop got buf)
    → Tail (s ++ take got (drop 12 buf)) after
tail_next s buf after got whole room last brought =
    let came = take got (drop 12 buf) in
    let many : length came ≡ got = simp (length-take, length-drop) (omega arith) in
    let place : length s + got - 12 ≡ length s - 12 + got = omega arith in
    let turn : 12 + got ≡ got + 12 = omega arith in
    brought ∙ sym
    (rw (length-append s came, many, place, ← (drop-drop got (length s - 12) (s ++ came)), drop-append-le (length s - 12) s came (omega arith), ← last, ← (take-add 12 got buf), turn)
    (drop-take got 12 buf (omega arith)))

-- some refusal is given
some_given : (a b : Bool) → (r : Refusal) × (first_refusal (given a Mark ∷ given b Counts ∷ some Distance ∷ []) ≡ some r)
some_given true b = (Mark, refl)
some_given false true = (Counts, refl)
some_given false false = (Distance, refl)

refused_text_lem : (s : List ℕ) (r : Refusal) → first_refusal (image_refusals s) ≡ some r → program_lines s ≡ checked_line (numbers r) ∷ []
refused_text_lem s r e = rw e

-- the text of inputs that are refused alike is the same
pub same_text : (s t : List ℕ) → RefusedAlike s t → program_lines t ≡ program_lines s
same_text s t (r, first, second) = refused_text_lem t r second ∙ sym (refused_text_lem s r first)

-- inputs longer than any good image are refused alike where their last twelve bytes are the same
same_refusal : (s t : List ℕ) → longest_image < length s → longest_image < length t → last_twelve t ≡ last_twelve s → RefusedAlike s t
same_refusal s t long longer same =
    let (r, is) = some_given (unmarked (last_twelve s)) (miscounted (last_twelve s)) in
    (r, long_refused s long ∙ is, rw same at (long_refused t longer) ∙ is)

-- the last twelve bytes put at the end of a long image have it refused as all that came is
module _ (s buf img after : List ℕ) (r : ℕ) (room : 12 ≤ length buf) (long : longest_image < length s) (longer : longest_image < length img) where
  pub refusal_kept : length after ≡ length img → Tail s buf → r ≡ length img - 12 + length (take 12 buf)
      → take r after ≡ take (length img - 12) img ++ take 12 buf → RefusedAlike s after
  refusal_kept same last end put =
      let twelve : length (take 12 buf) ≡ 12 = length-take-le 12 buf room in
      let whole : r ≡ length img = omega arith in
      let all : after ≡ take (length img - 12) img ++ take 12 buf = sym (rw same at (take-length after)) ∙ rw whole at put in
      let ends : last_twelve after ≡ last_twelve s =
      rw (same, all) (drop_at (take (length img - 12) img) (take 12 buf) (length img - 12) (length-take-le (length img - 12) img (omega arith)) ∙ last) in
      same_refusal s after long (rw same longer) ends
