-- An accepted image is accepted without its note: the tests read the same bytes, from the first record on.
use mathlib.Core.Path.{◌≡◌, refl, sym, ap, ◌∙◌}
use mathlib.Core.Option.{none}
use mathlib.Core.Bool.{Bool, ◌&&◌, ◌||◌}
use mathlib.Core.List.{List}
use Prim.Native.Nat.{ℕ, zero, suc, ◌+◌, ◌-◌, ◌*◌, ◌/◌, ◌%◌}
use native.Mathlib.Nat.{le_refl}
use native.Mathlib.Omega.{arith}
use lib.Dec.{leb, ltb}
use lib.ListN.{drop}
use lib.Seq.{get_or-drop}
use Rattle.board.specs.Board.{Record, Board, leading}
use Rattle.board.proofs.Lists.{build-same}
use Rattle.board.proofs.Search.{first_is_smallest, first_none}
use Rattle.image.specs.Bytes.{byte_at, word_at, words_at}
use Rattle.image.specs.Image.{line_count, output_count, first_record, output_at, record_at, records, board_of}
use Rattle.image.specs.Refusals.{bad_field, bad_at, first_bad, bad_output, first_bad_output, Accepted}
use Rattle.image.proofs.Laws.Fine.{passed, line_count_lem, output_count_lem}
use Rattle.image.proofs.Laws.Check.{accepted}
use Rattle.drawing.specs.Calls.{miscounts}
use Rattle.drawing.proofs.Laws.ImageBytes.{made, image_lines, image_outputs, image_first, image_marked, image_counted, image_placed}
use Rattle.drawing.specs.Image.{image_of, AllBytes}
use Rattle.drawing.proofs.Laws.ImageAgain.{image_again}

-- bytes from a place on, read from there
module _ (s : List ℕ) (q : ℕ) where
  word_on : (p : ℕ) → word_at (drop q s) p ≡ word_at s (q + p)
  word_on p =
      let next : q + (p + 1) ≡ q + p + 1 = omega arith in
      rw (get_or-drop q s p 0, get_or-drop q s (p + 1) 0, next)

  words-on : (p n : ℕ) → words_at (drop q s) p n ≡ words_at s (q + p) n
  words-on p n = build-same _ _ n (λ i r l. let on : q + (p + 2 * i) ≡ q + p + 2 * i = omega arith in word_on (p + 2 * i) ∙ ap (λ (k : ℕ). word_at s k) on)

  record_on : (p : ℕ) → record_at (drop q s) p ≡ record_at s (q + p)
  record_on p =
      let next : q + (p + 1) ≡ q + p + 1 = omega arith in
      let after : q + (p + 2) ≡ q + p + 2 = omega arith in
      ap (λ (k : ℕ). made k (words_at (drop q s) (p + 2) (byte_at (drop q s) (p + 1)))) (get_or-drop q s p 0)
      ∙ ap (λ (n : ℕ). made (byte_at s (q + p)) (words_at (drop q s) (p + 2) n)) (get_or-drop q s (p + 1) 0 ∙ ap (λ (k : ℕ). byte_at s k) next)
      ∙ ap (λ (ps : List ℕ). made (byte_at s (q + p)) ps) (words-on (p + 2) (byte_at s (q + p + 1)) ∙ ap (λ (k : ℕ). words_at s k (byte_at s (q + p + 1))) after)

  records-on : (p n : ℕ) → records (drop q s) p n ≡ records s (q + p) n
  records-on p zero = refl
  records-on p (suc n) =
      let next : q + (p + 10) ≡ q + p + 10 = omega arith in
      cc (record_on p, records-on (p + 10) n ∙ ap (λ (k : ℕ). records s k n) next)

  field_on : (p i ins f : ℕ) → bad_field (drop q s) p i ins f ≡ bad_field s (q + p) i ins f
  unfolding bad_field
  field_on p i ins f =
      let next : q + (p + 1) ≡ q + p + 1 = omega arith in
      let pin : q + (p + 2 + 2 * (f - 2)) ≡ q + p + 2 + 2 * (f - 2) = omega arith in
      let count : byte_at (drop q s) (p + 1) ≡ byte_at s (q + p + 1) = get_or-drop q s (p + 1) 0 ∙ ap (λ (k : ℕ). byte_at s k) next in
      let word : word_at (drop q s) (p + 2 + 2 * (f - 2)) ≡ word_at s (q + p + 2 + 2 * (f - 2)) = word_on (p + 2 + 2 * (f - 2)) ∙ ap (λ (k : ℕ). word_at s k) pin in
      rw (get_or-drop q s p 0, count, word)

-- the test of an output, by the line count, its number and the one before
abbrev bad : ℕ → ℕ → ℕ → ℕ → Bool
bad lines j out before = leb lines out || (ltb 0 j && leb out before)

-- the counts of an accepted image's board are within their limits
pub counts_good : (s : List ℕ) → Accepted s → miscounts (board_of s) ≡ none
counts_good s ok = rw (line_count_lem s, output_count_lem s, (passed s ok).counted)

-- an accepted image
module _ (s : List ℕ) (small : AllBytes s) (ok : Accepted s) where
  abbrev first : ℕ
  first = first_record s

  again : image_of (board_of s) ≡ drop first s
  again = image_again s small ok

  -- its tests are those of the whole image
  same_lines : line_count (image_of (board_of s)) ≡ line_count s
  same_lines = image_lines (board_of s) ∙ line_count_lem s

  same_field : (k : ℕ) → bad_at (image_of (board_of s)) k ≡ bad_at s k
  same_field k =
      let t : List ℕ = image_of (board_of s) in
      let i : ℕ = k / 6 in
      let start : first + 0 ≡ first = omega arith in
      let place : first + (0 + 10 * i) ≡ first + 10 * i = omega arith in
      ap (λ (p : ℕ). bad_field t (p + 10 * i) i (leading (records t p i)) (k % 6)) (image_first (board_of s))
      ∙ ap (λ (u : List ℕ). bad_field u (0 + 10 * i) i (leading (records u 0 i)) (k % 6)) again
      ∙ field_on s first (0 + 10 * i) i (leading (records (drop first s) 0 i)) (k % 6)
      ∙ ap (λ (rs : List Record). bad_field s (first + (0 + 10 * i)) i (leading rs) (k % 6)) (records-on s first 0 i)
      ∙ ap (λ (p : ℕ). bad_field s p i (leading (records s (first + 0) i)) (k % 6)) place
      ∙ ap (λ (p : ℕ). bad_field s (first + 10 * i) i (leading (records s p i)) (k % 6)) start

  same_output : (j : ℕ) → output_at (image_of (board_of s)) j ≡ output_at s j
  same_output j =
      let t : List ℕ = image_of (board_of s) in
      let place : first + (0 + 10 * line_count s + 2 * j) ≡ first + 10 * line_count s + 2 * j = omega arith in
      ap (λ (p : ℕ). word_at t (p + 10 * line_count t + 2 * j)) (image_first (board_of s))
      ∙ ap (λ (n : ℕ). word_at t (0 + 10 * n + 2 * j)) same_lines
      ∙ ap (λ (u : List ℕ). word_at u (0 + 10 * line_count s + 2 * j)) again
      ∙ word_on s first (0 + 10 * line_count s + 2 * j)
      ∙ ap (λ (p : ℕ). word_at s p) place

  same_bad : (j : ℕ) → bad_output (image_of (board_of s)) j ≡ bad_output s j
  same_bad j =
      let t : List ℕ = image_of (board_of s) in
      ap (λ (n : ℕ). bad n j (output_at t j) (output_at t (j - 1))) same_lines
      ∙ ap (λ (x : ℕ). bad (line_count s) j x (output_at t (j - 1))) (same_output j)
      ∙ ap (λ (x : ℕ). bad (line_count s) j (output_at s j) x) (same_output (j - 1))

  -- so it is accepted too
  pub again_accepted : Accepted (image_of (board_of s))
  unfolding first_bad first_bad_output
  again_accepted =
      let b : Board = board_of s in
      let t : List ℕ = image_of b in
      let tests = passed s ok in
      let outs : output_count t ≡ output_count s = image_outputs b ∙ output_count_lem s in
      let no_record = first_none (bad_at t) (6 * line_count t) (6 * line_count t) (le_refl _)
      (λ k l. same_field k ∙ (rw tests.no_bad_record at (first_is_smallest (bad_at s) (6 * line_count s))) k (rw same_lines at l)) in
      let no_output = first_none (bad_output t) (output_count t) (output_count t) (le_refl _)
      (λ j l. same_bad j ∙ (rw tests.no_bad_output at (first_is_smallest (bad_output s) (output_count s))) j (rw outs at l)) in
      accepted t (image_marked b) (image_counted b (counts_good s ok)) (image_placed b) (sym no_record) (sym no_output)
