-- The image of a board, read again: each number stands where it was put, so the board is the same, and its trailer is right.
use mathlib.Core.Path.{◌≡◌, refl, sym, ap, ◌∙◌}
use mathlib.Core.Logic.{⊎_elim}
use mathlib.Core.Option.{none, map}
use mathlib.Core.Bool.{true, false, ◌||◌}
use mathlib.Core.List.{List, [], ◌∷◌, ◌++◌, append_assoc}
use Prim.Native.Nat.{ℕ, zero, suc, ◌+◌, ◌-◌, ◌*◌, ◌/◌, ◌%◌, ◌≤◌, ◌<◌, suc-le-suc, zero-le}
use native.Mathlib.Nat.{not-suc-le-zero, le_of_suc-le-suc}
use native.Mathlib.Omega.{arith}
use lib.Dec.{ltb}
use lib.ListN.{length, get_or, take, drop, replicate, length-append, length-replicate}
use lib.Seq.{get_or-drop, get_or-append-add, get_or-take, drop-drop, drop_at, drop-append_seam, take-take, take-append_seam, take-length, length-take-le, ext_get_or}
use borrow.Author.Tests.{eq-eqb, le-ltb, ltb-true, ltb-false}
use Rattle.board.specs.Board.{Record, Board, record_of, inputs}
use Rattle.board.specs.Limits.{most_lines, most_outputs}
use Rattle.board.proofs.Lists.{way, build-length, build_at}
use Rattle.image.specs.Bytes.{byte_at, word_at, long_at, words_at}
use Rattle.image.specs.Image.{line_count, output_count, distance, last_four, the_mark, full_distance, first_record, record_at, records, board_of}
use Rattle.image.specs.Refusals.{unmarked, outside, miscounted, misplaced, first_bad, first_bad_output, image_refusals}
use Rattle.image.specs.declared.Refusal.TheVariants.{Counts, Record as BadRecord, Output}
use Rattle.image.proofs.Laws.Answer.{not-given}
use Rattle.text.specs.Text.{each}
use Rattle.drawing.specs.Form.{Drawn}
use Rattle.drawing.specs.Image.{word_bytes, record_bytes, lines_bytes, trailer_bytes, image_of}
use Rattle.drawing.specs.Calls.{miscounts}

-- lengths
pub words-length : (ws : List ℕ) → length (each word_bytes ws) ≡ 2 * length ws
unfolding each
words-length [] = refl
words-length (w ∷ ws) = omega (arith, words-length ws)

pub record_length : (r : Record) → length (record_bytes r) ≡ 10
record_length r =
    let four : length (take 4 (r.pins ++ replicate 4 0)) ≡ 4 = length-take-le 4 (r.pins ++ replicate 4 0) (rw length-append (omega (arith, length-replicate {A = ℕ} 4 0))) in
    omega (arith, words-length (take 4 (r.pins ++ replicate 4 0)), four)

pub lines_length : (rs : List Record) → length (lines_bytes rs) ≡ 10 * length rs
unfolding lines_bytes
lines_length [] = refl
lines_length (r ∷ rs) = rw length-append (omega (arith, record_length r, lines_length rs))

-- a word behind some bytes
word_again : (n : ℕ) → n % 256 + 256 * (n / 256) ≡ n
word_again n = omega arith

-- what stands behind the first bytes
module _ (front t : List ℕ) (i : ℕ) where
  word_behind : word_at (front ++ t) (length front + i) ≡ word_at t i
  word_behind =
      let next : length front + i + 1 ≡ length front + (i + 1) = omega arith in
      rw (next, get_or-append-add front t i 0, get_or-append-add front t (i + 1) 0)

long_behind : (front t : List ℕ) (i : ℕ) → long_at (front ++ t) (length front + i) ≡ long_at t i
long_behind front t i =
    let next : length front + i + 2 ≡ length front + (i + 2) = omega arith in
    rw (next, word_behind front t i, word_behind front t (i + 2))

-- word i of words that stand at a place
word_of : (ws post s : List ℕ) (p i : ℕ) → drop p s ≡ each word_bytes ws ++ post → i < length ws → word_at s (p + 2 * i) ≡ get_or ws i 0
unfolding each
word_of [] post s p i e h = absurd (not-suc-le-zero h)
word_of (w ∷ ws) post s p zero e h =
    let here : p + 2 * 0 ≡ p + 0 = omega arith in
    let next : p + 0 + 1 ≡ p + 1 = omega arith in
    rw (here, next, ← (get_or-drop p s 0 0), ← (get_or-drop p s 1 0), e) (word_again w)
word_of (w ∷ ws) post s p (suc i) e h =
    let on : p + 2 * suc i ≡ p + 2 + 2 * i = omega arith in
    rw on (word_of ws post s (p + 2) i (sym (drop-drop 2 p s) ∙ ap (λ (l : List ℕ). drop 2 l) e) (le_of_suc-le-suc h))

words_back : (ws post s : List ℕ) (p n : ℕ) → drop p s ≡ each word_bytes ws ++ post → n ≤ length ws → words_at s p n ≡ take n ws
words_back ws post s p n e h =
    let long : length (words_at s p n) ≡ n = build-length _ n in
    ext_get_or 0 (words_at s p n) (take n ws) (long ∙ sym (length-take-le n ws h))
    (λ i l. let m = rw long at l in build_at _ n i m ∙ word_of ws post s p i e (omega arith) ∙ sym (get_or-take n ws i 0 m))

-- a record of a kind and pins
abbrev pub made : ℕ → List ℕ → Record
made k ps = record { kind = k; pins = ps }

-- the record that stands at a place
record_back : (r : Record) (post s : List ℕ) (p : ℕ) → length r.pins ≤ 4 → drop p s ≡ record_bytes r ++ post → record_at s p ≡ r
record_back r post s p few e =
    let words : List ℕ = take 4 (r.pins ++ replicate 4 0) in
    let start : p + 0 ≡ p = omega arith in
    let kind : byte_at s p ≡ r.kind = ap (λ (n : ℕ). get_or s n 0) (sym start) ∙ sym (get_or-drop p s 0 0) ∙ ap (λ (l : List ℕ). get_or l 0 0) e in
    let count : byte_at s (p + 1) ≡ length r.pins = sym (get_or-drop p s 1 0) ∙ ap (λ (l : List ℕ). get_or l 1 0) e in
    let behind : drop (p + 2) s ≡ each word_bytes words ++ post = sym (drop-drop 2 p s) ∙ ap (λ (l : List ℕ). drop 2 l) e in
    let four : length words ≡ 4 = length-take-le 4 (r.pins ++ replicate 4 0) (rw length-append (omega (arith, length-replicate {A = ℕ} 4 0))) in
    let pins : take (length r.pins) words ≡ r.pins = take-take (length r.pins) 4 (r.pins ++ replicate 4 0) few ∙ take-append_seam r.pins (replicate 4 0) in
    let same : words_at s (p + 2) (byte_at s (p + 1)) ≡ r.pins = rw count (words_back words post s (p + 2) (length r.pins) behind (omega arith) ∙ pins) in
    ap (λ (k : ℕ). made k (words_at s (p + 2) (byte_at s (p + 1)))) kind ∙ ap (λ (ps : List ℕ). made r.kind ps) same

lines_back : (rs : List Record) (d : Record) (post s : List ℕ) (p : ℕ) → ((i : ℕ) → i < length rs → length (get_or rs i d).pins ≤ 4) → drop p s ≡ lines_bytes rs ++ post
    → records s p (length rs) ≡ rs
unfolding lines_bytes
lines_back [] d post s p few e = refl
lines_back (r ∷ rs) d post s p few e =
    let whole : drop p s ≡ record_bytes r ++ (lines_bytes rs ++ post) = e ∙ append_assoc (record_bytes r) (lines_bytes rs) post in
    let here = record_back r (lines_bytes rs ++ post) s p (few 0 (suc-le-suc zero-le)) whole in
    let rest : drop (p + 10) s ≡ lines_bytes rs ++ post = sym (drop-drop 10 p s) ∙ ap (λ (l : List ℕ). drop 10 l) whole ∙ drop_at (record_bytes r) (lines_bytes rs ++ post) 10 (record_length r) in
    cc (here, lines_back rs d post s (p + 10) (λ i l. few (suc i) (suc-le-suc l)) rest)

-- a board of lines and outputs
abbrev board : List Record → List ℕ → Board
board ls os = record { lines = ls; outs = os }

-- the image of a board
module _ (b : Board) where
  abbrev body : List ℕ
  body = lines_bytes b.lines ++ each word_bytes b.outs

  abbrev trailer : List ℕ
  trailer = trailer_bytes (length b.lines) (length b.outs)

  body_length : length body ≡ 10 * length b.lines + 2 * length b.outs
  body_length = rw length-append (omega (arith, lines_length b.lines, words-length b.outs))

  pub image_length : length (image_of b) ≡ full_distance (length b.outs) (length b.lines)
  unfolding image_of
  image_length = length-append body trailer ∙ omega (arith, body_length)

  back : (k i : ℕ) → i + k ≡ 12 → length (image_of b) - k ≡ length body + i
  back k i e = omega (arith, image_length, body_length)

  pub image_lines : line_count (image_of b) ≡ length b.lines
  unfolding image_of
  image_lines = rw (back 12 0 refl) (word_behind body trailer 0 ∙ word_again (length b.lines))

  pub image_outputs : output_count (image_of b) ≡ length b.outs
  unfolding image_of
  image_outputs = rw (back 10 2 refl) (word_behind body trailer 2 ∙ word_again (length b.outs))

  pub image_distance : distance (image_of b) ≡ full_distance (length b.outs) (length b.lines)
  unfolding image_of
  image_distance = rw (back 8 4 refl) (long_behind body trailer 4 ∙ omega arith)

  image_mark : last_four (image_of b) ≡ the_mark
  unfolding image_of
  image_mark = rw (back 4 8 refl) (long_behind body trailer 8)

  pub image_first : first_record (image_of b) ≡ 0
  image_first = omega (arith, image_length, image_distance)

  -- refusals 1 and 3 never apply, and 2 where it applies to the board
  pub image_marked : unmarked (image_of b) ≡ false
  image_marked = rw (le-ltb (length (image_of b)) 12 (omega (arith, image_length)), eq-eqb (last_four (image_of b)) the_mark image_mark)

  pub image_counted : miscounts b ≡ none → miscounted (image_of b) ≡ false
  image_counted h = rw (image_lines, image_outputs) (not-given (outside most_lines (length b.lines) || outside most_outputs (length b.outs)) Counts h)

  pub image_placed : misplaced (image_of b) ≡ false
  image_placed =
      let all : distance (image_of b) ≡ full_distance (output_count (image_of b)) (line_count (image_of b)) = rw (image_lines, image_outputs) image_distance in
      rw (eq-eqb _ _ all, le-ltb (length (image_of b)) (distance (image_of b)) (omega (arith, image_length, image_distance)), image_first)

  -- so only 4 and 5 are left
  pub image_refusals_lem : miscounts b ≡ none → image_refusals (image_of b)
      ≡ none ∷ none ∷ none ∷ map (λ k. BadRecord (k / 6) (k % 6)) (first_bad (image_of b)) ∷ map Output (first_bad_output (image_of b)) ∷ []
  unfolding image_refusals
  image_refusals_lem h = rw (image_marked, image_counted h, image_placed)

  -- the board that the image names
  pub image_board : Drawn b → board_of (image_of b) ≡ b
  unfolding image_of
  image_board drawn =
      let s : List ℕ = image_of b in
      let few : (i : ℕ) → i < length b.lines → length (record_of b i).pins ≤ 4 =
      λ i l. ⊎_elim (λ (e : ltb i (inputs b) ≡ true). rw (drawn.bare i (ltb-true i (inputs b) e)) zero-le) (λ (e : ltb i (inputs b) ≡ false). (drawn.worded i (ltb-false i (inputs b) e) l).four_pins) (way (ltb i (inputs b))) in
      let whole : s ≡ lines_bytes b.lines ++ (each word_bytes b.outs ++ trailer) = append_assoc (lines_bytes b.lines) (each word_bytes b.outs) trailer in
      let lines = lines_back b.lines (record { kind = 0; pins = [] }) (each word_bytes b.outs ++ trailer) s 0 few whole in
      let place : 0 + 10 * length b.lines ≡ length (lines_bytes b.lines) = omega (arith, lines_length b.lines) in
      let after : drop (0 + 10 * length b.lines) s ≡ each word_bytes b.outs ++ trailer = rw (place, whole) (drop-append_seam (lines_bytes b.lines) (each word_bytes b.outs ++ trailer)) in
      let outs = words_back b.outs trailer s (0 + 10 * length b.lines) (length b.outs) after (omega arith) ∙ take-length b.outs in
      rw (image_first, image_lines, image_outputs)
      (ap (λ (ls : List Record). board ls (words_at s (0 + 10 * length b.lines) (length b.outs))) lines ∙ ap (λ (os : List ℕ). board b.lines os) outs)
