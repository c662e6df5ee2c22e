-- An accepted image, made again from its board: the same bytes without the note.
use mathlib.Core.Path.{◌≡◌, refl, sym, ap, ◌∙◌}
use mathlib.Core.Logic.{⊎_elim}
use mathlib.Core.Bool.{true, false, not, ◌&&◌}
use mathlib.Core.List.{List, ◌∷◌, ◌++◌, append_assoc}
use Prim.Native.Nat.{ℕ, zero, suc, ◌+◌, ◌-◌, ◌*◌, ◌/◌, ◌%◌, ◌≤◌, ◌<◌, suc-le-suc, zero-le}
use native.Mathlib.Omega.{arith}
use lib.Dec.{eqb, leb, ltb}
use lib.ListN.{length, get_or, take, drop, replicate, length-append, length-replicate, length-drop, take-append-drop, get_or-append, get_or-replicate}
use lib.Seq.{get_or-append-add, get_or-take, drop-drop, drop-cons, take-add, take_all, length-take-le, ext_get_or}
use borrow.Author.Tests.{eqb-true, not-false, ltb-true, ltb-false, le-leb}
use Rattle.board.specs.Lists.{build}
use Rattle.board.specs.Board.{leading}
use Rattle.board.proofs.Lists.{way, or_false, build-length, build_at}
use Rattle.image.specs.Bytes.{byte_at, word_at, long_at, words_at}
use Rattle.image.specs.Image.{line_count, output_count, distance, last_four, the_mark, full_distance, first_record, record_place, record_at, records, board_of}
use Rattle.image.specs.Refusals.{bad_field, Accepted}
use Rattle.image.proofs.Laws.Fine.{passed, field_good, four_pins, line_count_lem, output_count_lem}
use Rattle.image.proofs.Laws.Records.{pin_field}
use Rattle.text.specs.Text.{each}
use Rattle.drawing.proofs.Laws.Sofar.{each_end}
use Rattle.drawing.specs.Image.{word_bytes, long_bytes, record_bytes, lines_bytes, trailer_bytes, image_of, without_note, AllBytes}

long_split : (w v : ℕ) → w < 65_536 → long_bytes (w + 65_536 * v) ≡ word_bytes w ++ word_bytes v
long_split w v few =
    let low : (w + 65_536 * v) % 65_536 ≡ w = omega arith in
    let high : (w + 65_536 * v) / 65_536 ≡ v = omega arith in
    rw (low, high)

four_same : {a b c d a' b' c' d' : List ℕ} → a ≡ a' → b ≡ b' → c ≡ c' → d ≡ d' → a ++ b ++ c ++ d ≡ a' ++ b' ++ c' ++ d'
four_same p q r t = cc

module _ (s : List ℕ) (small : AllBytes s) where
  -- the bytes of the numbers read are the bytes that stand there
  word_bytes_lem : (q : ℕ) → q + 2 ≤ length s → word_bytes (word_at s q) ≡ take 2 (drop q s)
  word_bytes_lem q h =
      let low : (byte_at s q + 256 * byte_at s (q + 1)) % 256 ≡ byte_at s q = omega (arith, small q) in
      let high : (byte_at s q + 256 * byte_at s (q + 1)) / 256 ≡ byte_at s (q + 1) = omega (arith, small q) in
      let next : suc q ≡ q + 1 = omega arith in
      rw (low, high, drop-cons s q 0 (omega arith), drop-cons s (suc q) 0 (omega arith), next)

  -- two bytes off
  two_off : (q : ℕ) → q + 2 ≤ length s → drop q s ≡ byte_at s q ∷ byte_at s (q + 1) ∷ drop (q + 2) s
  two_off q h =
      let next : suc q ≡ q + 1 = omega arith in
      let after : suc (q + 1) ≡ q + 2 = omega arith in
      drop-cons s q 0 (omega arith)
      ∙ ap (λ (n : ℕ). byte_at s q ∷ drop n s) next
      ∙ ap (λ (l : List ℕ). byte_at s q ∷ l) (drop-cons s (q + 1) 0 (omega arith) ∙ ap (λ (n : ℕ). byte_at s (q + 1) ∷ drop n s) after)

  -- some bytes, and those behind them
  joined : (m n q : ℕ) → take m (drop q s) ++ take n (drop (q + m) s) ≡ take (m + n) (drop q s)
  joined m n q = sym (take-add m n (drop q s) ∙ ap (λ (l : List ℕ). take m (drop q s) ++ take n l) (drop-drop m q s))

  long_bytes_lem : (q : ℕ) → q + 4 ≤ length s → long_bytes (long_at s q) ≡ take 4 (drop q s)
  long_bytes_lem q h =
      let few : word_at s q < 65_536 = omega (arith, small q, small (q + 1)) in
      long_split (word_at s q) (word_at s (q + 2)) few
      ∙ ap (λ (l : List ℕ). l ++ word_bytes (word_at s (q + 2))) (word_bytes_lem q (omega arith))
      ∙ ap (λ (l : List ℕ). take 2 (drop q s) ++ l) (word_bytes_lem (q + 2) (omega arith))
      ∙ joined 2 2 q

  tail_bytes : (e : ℕ) → e + 12 ≡ length s
      → word_bytes (word_at s e) ++ word_bytes (word_at s (e + 2)) ++ long_bytes (long_at s (e + 4)) ++ long_bytes (long_at s (e + 8)) ≡ drop e s
  tail_bytes e h =
      four_same (word_bytes_lem e (omega arith)) (word_bytes_lem (e + 2) (omega arith)) (long_bytes_lem (e + 4) (omega arith)) (long_bytes_lem (e + 8) (omega arith))
      ∙ ap (λ (l : List ℕ). l ++ take 4 (drop (e + 4) s) ++ take 4 (drop (e + 8) s)) (joined 2 2 e)
      ∙ ap (λ (l : List ℕ). l ++ take 4 (drop (e + 8) s)) (joined 4 4 e)
      ∙ joined 8 4 e
      ∙ take_all 12 (drop e s) (rw length-drop (omega arith))

  words-bytes : (p n : ℕ) → p + 2 * n ≤ length s → each word_bytes (words_at s p n) ≡ take (2 * n) (drop p s)
  unfolding build each
  words-bytes p zero h = refl
  words-bytes p (suc n) h =
      let twice : 2 * suc n ≡ 2 * n + 2 = omega arith in
      each_end word_bytes (words_at s p n) (word_at s (p + 2 * n))
      ∙ rw (twice, take-add (2 * n) 2 (drop p s), drop-drop (2 * n) p s, words-bytes p n (omega arith), word_bytes_lem (p + 2 * n) (omega arith))

  -- the unused pins of the record at place p are 0
  pub record Padded (p : ℕ) : Type 0 where
    pub four : byte_at s (p + 1) ≤ 4
    pub unused : (j : ℕ) → byte_at s (p + 1) ≤ j → j < 4 → word_at s (p + 2 + 2 * j) ≡ 0

  padded_words : (p : ℕ) → Padded p → take 4 (words_at s (p + 2) (byte_at s (p + 1)) ++ replicate 4 0) ≡ words_at s (p + 2) 4
  padded_words p pad =
      let count : ℕ = byte_at s (p + 1) in
      let pins : List ℕ = words_at s (p + 2) count in
      let zeros : List ℕ = replicate 4 0 in
      let long : length pins ≡ count = build-length _ count in
      let four : length (take 4 (pins ++ zeros)) ≡ 4 = length-take-le 4 (pins ++ zeros) (rw length-append (omega (arith, length-replicate {A = ℕ} 4 0))) in
      ext_get_or 0 (take 4 (pins ++ zeros)) (words_at s (p + 2) 4) (four ∙ sym (build-length _ 4))
      (λ i l.
      let m = rw four at l in
      get_or-take 4 (pins ++ zeros) i 0 m
      ∙ ⊎_elim
      (λ (e : ltb i count ≡ true).
      let used = ltb-true i count e in
      get_or-append pins zeros 0 i (rw long used) ∙ build_at _ count i used ∙ sym (build_at _ 4 i m))
      (λ (e : ltb i count ≡ false).
      let past = ltb-false i count e in
      let there : i ≡ length pins + (i - count) = omega arith in
      ap (λ (k : ℕ). get_or (pins ++ zeros) k 0) there ∙ get_or-append-add pins zeros (i - count) 0 ∙ get_or-replicate 4 (i - count) 0 0 (omega arith)
      ∙ sym (build_at _ 4 i m ∙ pad.unused i past m))
      (way (ltb i count)))

  record_bytes_lem : (p : ℕ) → p + 10 ≤ length s → Padded p → record_bytes (record_at s p) ≡ take 10 (drop p s)
  record_bytes_lem p h pad =
      let long : length (words_at s (p + 2) (byte_at s (p + 1))) ≡ byte_at s (p + 1) = build-length _ (byte_at s (p + 1)) in
      rw (long, padded_words p pad, words-bytes (p + 2) 4 (omega arith), two_off p (omega arith))

  lines_bytes_lem : (n p : ℕ) → p + 10 * n ≤ length s → ((i : ℕ) → i < n → Padded (p + 10 * i)) → lines_bytes (records s p n) ≡ take (10 * n) (drop p s)
  unfolding lines_bytes
  lines_bytes_lem zero p h pad = refl
  lines_bytes_lem (suc n) p h pad =
      let ten : 10 * suc n ≡ 10 + 10 * n = omega arith in
      let here : p + 10 * 0 ≡ p = omega arith in
      let rest = lines_bytes_lem n (p + 10) (omega arith) (λ i l. let on : p + 10 * suc i ≡ p + 10 + 10 * i = omega arith in rw on at (pad (suc i) (suc-le-suc l))) in
      ap (λ (l : List ℕ). l ++ lines_bytes (records s (p + 10) n)) (record_bytes_lem p (omega arith) (rw here at (pad 0 (suc-le-suc zero-le))))
      ∙ ap (λ (l : List ℕ). take 10 (drop p s) ++ l) rest
      ∙ joined 10 (10 * n) p
      ∙ ap (λ (k : ℕ). take k (drop p s)) (sym ten)

  -- lines, outputs and trailer, one after the other
  parts : (p n o : ℕ) {ls os t : List ℕ} → ls ≡ take (10 * n) (drop p s) → os ≡ take (2 * o) (drop (p + 10 * n) s) → t ≡ drop (p + 10 * n + 2 * o) s → ls ++ os ++ t ≡ drop p s
  parts p n o {ls} {os} {t} e f g =
      let rest : take (2 * o) (drop (p + 10 * n) s) ++ drop (p + 10 * n + 2 * o) s ≡ drop (p + 10 * n) s =
      ap (λ (l : List ℕ). take (2 * o) (drop (p + 10 * n) s) ++ l) (sym (drop-drop (2 * o) (p + 10 * n) s)) ∙ take-append-drop (2 * o) (drop (p + 10 * n) s) in
      rw (e, f, g, append_assoc (take (10 * n) (drop p s)) (take (2 * o) (drop (p + 10 * n) s)) (drop (p + 10 * n + 2 * o) s), rest)
      (ap (λ (l : List ℕ). take (10 * n) (drop p s) ++ l) (sym (drop-drop (10 * n) p s)) ∙ take-append-drop (10 * n) (drop p s))

-- an accepted image
module _ (s : List ℕ) (small : AllBytes s) (ok : Accepted s) where
  abbrev first : ℕ
  first = first_record s

  -- its trailer
  whole : (distance s ≡ full_distance (output_count s) (line_count s)) × (distance s ≤ length s) × (last_four s ≡ the_mark)
  whole =
      let tests = passed s ok in
      let full = full_distance (output_count s) (line_count s) in
      let (is, rest) = or_false (not (eqb (distance s) full)) _ tests.placed in
      let marked = (or_false (ltb (length s) 12) (not (eqb (last_four s) the_mark)) tests.marked).1 in
      (eqb-true (distance s) full (not-false _ is), ltb-false (length s) (distance s) (or_false (ltb (length s) (distance s)) _ rest).0, eqb-true (last_four s) the_mark (not-false _ marked))

  padded : (i : ℕ) → i < line_count s → Padded s small (first + 10 * i)
  padded i l =
      let p = record_place s i in
      let good : (f : ℕ) → f < 6 → bad_field s p i (leading (records s first i)) f ≡ false = λ f m. field_good s (passed s ok) i f l m in
      let count = byte_at s (p + 1) in
      record {
        four = four_pins s p i _ good;
        unused = λ j past m.
            let pin = word_at s (p + 2 + 2 * j) in
            let same : j + 2 - 2 ≡ j = omega arith in
            let passes = rw same at (sym (pin_field s p i _ (j + 2) (omega arith)) ∙ good (j + 2) (omega arith)) in
            eqb-true pin 0 (not-false _ (rw (le-leb count j past) at (or_false (ltb j count && leb i pin) (leb count j && not (eqb pin 0)) passes).1));
      }

  pub image_again : image_of (board_of s) ≡ without_note s
  unfolding image_of
  image_again =
      let (is, inside, mark) = whole in
      let lines : ℕ = line_count s in
      let outs : ℕ = output_count s in
      let end : ℕ = first + 10 * lines + 2 * outs in
      let at-12 : length s - 12 ≡ end = omega arith in
      let at-10 : length s - 10 ≡ end + 2 = omega arith in
      let at_8 : length s - 8 ≡ end + 4 = omega arith in
      let at-4 : length s - 4 ≡ end + 8 = omega arith in
      let last : trailer_bytes lines outs ≡ drop end s =
      four_same
      (ap (λ (n : ℕ). word_bytes (word_at s n)) at-12)
      (ap (λ (n : ℕ). word_bytes (word_at s n)) at-10)
      (ap (λ (n : ℕ). long_bytes n) (sym is) ∙ ap (λ (n : ℕ). long_bytes (long_at s n)) at_8)
      (ap (λ (n : ℕ). long_bytes n) (sym mark) ∙ ap (λ (n : ℕ). long_bytes (long_at s n)) at-4)
      ∙ tail_bytes s small end (omega arith) in
      let counted : trailer_bytes (length (board_of s).lines) (length (board_of s).outs) ≡ drop end s =
      ap (λ (n : ℕ). trailer_bytes n (length (board_of s).outs)) (line_count_lem s) ∙ ap (λ (n : ℕ). trailer_bytes lines n) (output_count_lem s) ∙ last in
      parts s small first lines outs (lines_bytes_lem s small lines first (omega arith) padded) (words-bytes s small (first + 10 * lines) outs (omega arith)) counted
