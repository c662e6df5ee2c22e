-- The board of a patched image is the altered board, and the patched image is accepted with the same counts: every byte but those of the
-- one record is the old one, and that record is good at its line.
use mathlib.Core.Path.{◌≡◌, sym, ap, ◌∙◌, fun_ext}
use mathlib.Core.Logic.{◌⊎◌, inl, inr, ⊎_elim}
use mathlib.Core.Option.{none}
use mathlib.Core.List.{List, []}
use mathlib.Core.Bool.{true, false}
use Prim.Native.Nat.{ℕ, ◌+◌, ◌-◌, ◌*◌, ◌/◌, ◌%◌, ◌≤◌, ◌<◌}
use native.Mathlib.Nat.{le_of_lt, le_refl, le_trans}
use native.Mathlib.Omega.{arith}
use lib.Dec.{eqb, ltb, lit<}
use lib.ListN.{length, set, length-set}
use lib.Seq.{ext_get_or, get_or-set_same, get_or-set_other}
use borrow.Author.Tests.{eqb-true, eqb-false, ltb-true, ltb-false}
use Rattle.board.specs.Board.{Record, leading, inputs, altered}
use Rattle.board.proofs.Fine.{leading-set, inputs-altered}
use Rattle.board.proofs.Lists.{way, build-same}
use Rattle.board.proofs.Search.{first_none}
use Rattle.image.specs.Bytes.{byte_at, word_at, words_at}
use Rattle.image.specs.Image.{line_count, output_count, distance, last_four, first_record, record_place, output_at, record_at, records, board_of}
use Rattle.image.specs.Refusals.{bad_field, bad_at, first_bad, bad_output, first_bad_output, Accepted}
use Rattle.image.specs.Check.{check_promise}
use Rattle.image.specs.Inner.{Known}
use Rattle.image.specs.declared.Counts.{Counts}
use Rattle.image.proofs.Laws.Check.{accepted}
use Rattle.image.proofs.Laws.Records.{records-length, records_at, lead_below}
use Rattle.image.proofs.Laws.Fine.{passed, field_good, four_pins}
use Rattle.alter.specs.Patch.{patched}
use Rattle.alter.proofs.Laws.Patch.{record_fits, patched-length, byte_new, byte_kept, word_new, word_kept, long_kept}
use Rattle.alter.proofs.Laws.Refused.{Fit, any_inputs, leading_stops, takes}

-- the ten bytes of a record at place p of s are those at place q of t
pub record Same (s : List ℕ) (p : ℕ) (t : List ℕ) (q : ℕ) : Type 0 where
  pub kind : byte_at s p ≡ byte_at t q
  pub count : byte_at s (p + 1) ≡ byte_at t (q + 1)
  pub pins : (j : ℕ) → j < 4 → word_at s (p + 2 + 2 * j) ≡ word_at t (q + 2 + 2 * j)

module _ {s : List ℕ} {p : ℕ} {t : List ℕ} {q : ℕ} (same : Same s p t q) where
  same_record : byte_at t (q + 1) ≤ 4 → record_at s p ≡ record_at t q
  same_record few =
      let pins : words_at s (p + 2) (byte_at t (q + 1)) ≡ words_at t (q + 2) (byte_at t (q + 1)) =
      build-same _ _ (byte_at t (q + 1)) (λ j before l. same.pins j (omega arith)) in
      cc (same.kind, same.count, pins)

  pub same_field : (i ins f : ℕ) → f < 6 → bad_field s p i ins f ≡ bad_field t q i ins f
  unfolding bad_field
  same_field i ins f l = ⊎_elim (λ (e : eqb f 0 ≡ true). rw (e, same.kind)) (λ (e : eqb f 0 ≡ false).
      ⊎_elim (λ (g : eqb f 1 ≡ true). rw (e, g, same.kind, same.count)) (λ (g : eqb f 1 ≡ false).
      rw (e, g, same.count, same.pins (f - 2) (omega arith))) (way (eqb f 1))) (way (eqb f 0))

module _ (s : List ℕ) (line : ℕ) (new : List ℕ) (ten : length new ≡ 10) (ok : Accepted s) (inside : line < line_count s) where
  fits : record_place s line + 10 ≤ length s
  fits = let room = record_fits s line ok inside in omega arith

  size : length (patched s line new) ≡ length s
  size = patched-length s line new ten fits

  -- the trailer stays
  pub same_lines : line_count (patched s line new) ≡ line_count s
  same_lines = rw size (word_kept s line new ten fits (length s - 12) (inr (omega (arith, record_fits s line ok inside))))

  pub same_outputs : output_count (patched s line new) ≡ output_count s
  same_outputs = rw size (word_kept s line new ten fits (length s - 10) (inr (omega (arith, record_fits s line ok inside))))

  same-distance : distance (patched s line new) ≡ distance s
  same-distance = rw size (long_kept s line new ten fits (length s - 8) (omega (arith, record_fits s line ok inside)))

  same-mark : last_four (patched s line new) ≡ last_four s
  same-mark = rw size (long_kept s line new ten fits (length s - 4) (omega (arith, record_fits s line ok inside)))

  same_start : first_record (patched s line new) ≡ first_record s
  same_start = cc (size, same-distance)

  -- so do the outputs
  kept_outputs : words_at (patched s line new) (record_place s (line_count s)) (output_count s) ≡ words_at s (record_place s (line_count s)) (output_count s)
  kept_outputs = build-same _ _ (output_count s) (λ j before l. word_kept s line new ten fits (record_place s (line_count s) + 2 * j) (inr (omega (arith, inside))))

  -- and every other record
  clear : (i : ℕ) → (i ≡ line → ⊥) → (record_place s i + 10 ≤ record_place s line) ⊎ (record_place s line + 10 ≤ record_place s i)
  clear i ne =
      ⊎_elim
      (λ e. let l = ltb-true i line e in inl (omega arith))
      (λ e. let l = ltb-false i line e in inr (omega arith))
      (way (ltb i line))

  byte_clear : (i q : ℕ) → (i ≡ line → ⊥) → record_place s i ≤ q → q < record_place s i + 10 → byte_at (patched s line new) q ≡ byte_at s q
  byte_clear i q ne l m =
      ⊎_elim
      (λ h. byte_kept s line new ten fits q (inl (omega arith)))
      (λ h. byte_kept s line new ten fits q (inr (omega arith)))
      (clear i ne)

  word_clear : (i q : ℕ) → (i ≡ line → ⊥) → record_place s i ≤ q → q < record_place s i + 9 → word_at (patched s line new) q ≡ word_at s q
  word_clear i q ne l m = rw (byte_clear i q ne l (omega arith), byte_clear i (q + 1) ne (omega arith) (omega arith))

  same_kept : (i : ℕ) → (i ≡ line → ⊥) → Same (patched s line new) (record_place s i) s (record_place s i)
  same_kept i ne = record {
    kind = byte_clear i _ ne (le_refl _) (omega arith);
    count = byte_clear i _ ne (omega arith) (omega arith);
    pins = λ j l. word_clear i _ ne (omega arith) (omega arith);
  }

  -- the new record stands in its place
  same_new : Same (patched s line new) (record_place s line) new 0
  same_new =
      let p = record_place s line in
      record {
        kind = let e : p + 0 ≡ p = omega arith in rw e at (byte_new s line new ten fits 0 (lit< tt));
        count = byte_new s line new ten fits 1 (lit< tt);
        pins = λ j l. let e : p + 2 + 2 * j ≡ p + (2 + 2 * j) = omega arith in rw e (word_new s line new ten fits (2 + 2 * j) (omega arith));
      }

  module _ (fit : Fit s line new) where
    -- the records of any first lines
    records-patched : (n : ℕ) → n ≤ line_count s → records (patched s line new) (first_record s) n ≡ set (records s (first_record s) n) line (record_at new 0)
    records-patched n few =
        let t = patched s line new in
        let first = first_record s in
        let blank : Record = record { kind = 0; pins = [] } in
        let old = records-length s first n in
        ext_get_or blank (records t first n) (set (records s first n) line (record_at new 0))
        (records-length t first n ∙ sym (length-set (records s first n) line (record_at new 0) ∙ old))
        (λ i h.
        let l : i < n = rw (records-length t first n) at h in
        records_at t first n i blank l
        ∙ ⊎_elim
        (λ (e : eqb i line ≡ true).
        let is = eqb-true i line e in
        rw is
        (same_record same_new (four_pins new 0 line _ fit.good)
        ∙ sym (get_or-set_same (records s first n) line (record_at new 0) blank (rw (old, ← is) l))))
        (λ (e : eqb i line ≡ false).
        let ne = eqb-false i line e in
        same_record (same_kept i ne) (four_pins s (record_place s i) i _ (λ f k. field_good s (passed s ok) i f (omega arith) k))
        ∙ sym (get_or-set_other (records s first n) line i (record_at new 0) blank ne ∙ records_at s first n i blank l))
        (way (eqb i line)))

    leading-same : (n : ℕ) → n ≤ line_count s → leading (records (patched s line new) (first_record s) n) ≡ leading (records s (first_record s) n)
    leading-same n few =
        let blank : Record = record { kind = 0; pins = [] } in
        ap leading (records-patched n few)
        ∙ leading-set (records s (first_record s) n) line (record_at new 0)
        (⊎_elim
        (λ e. leading_stops (records s (first_record s) n) line
        (λ z. fit.old_gate (sym (ap (λ (r : Record). r.kind) (records_at s (first_record s) n line blank (ltb-true line n e))) ∙ z)))
        (λ e. le_trans (lead_below s (first_record s) n) (ltb-false line n e))
        (way (ltb line n)))
        fit.new_gate

    -- the altered board
    pub board_is : board_of (patched s line new) ≡ altered (board_of s) line (record_at new 0)
    board_is = cc (same_start, same_lines, same_outputs, records-patched (line_count s) (le_refl _), kept_outputs)

    -- every field of every record is good
    all_good : (i f : ℕ) → i < line_count s → f < 6
        → bad_field (patched s line new) (record_place s i) i (leading (records (patched s line new) (first_record s) i)) f ≡ false
    all_good i f l m =
        let ins = leading (records (patched s line new) (first_record s) i) in
        ⊎_elim
        (λ (e : eqb i line ≡ true).
        let is = eqb-true i line e in
        rw is (same_field same_new line _ f m ∙ any_inputs new 0 line _ _ f fit.new_gate ∙ fit.good f m))
        (λ (e : eqb i line ≡ false).
        same_field (same_kept i (eqb-false i line e)) i ins f m
        ∙ ap (λ (n : ℕ). bad_field s (record_place s i) i n f) (leading-same i (le_of_lt l))
        ∙ field_good s (passed s ok) i f l m)
        (way (eqb i line))

    no_bad_record : first_bad (patched s line new) ≡ none
    unfolding first_bad
    no_bad_record =
        sym (first_none (bad_at (patched s line new)) (6 * line_count (patched s line new)) _ (le_refl _) (λ k l.
        rw same_start (all_good (k / 6) (k % 6) (omega (arith, same_lines)) (omega arith))))

    no_bad_output : first_bad_output (patched s line new) ≡ none
    unfolding first_bad_output
    no_bad_output =
        let out : (j : ℕ) → output_at (patched s line new) j ≡ output_at s j =
        λ j. rw (same_start, same_lines) (word_kept s line new ten fits (record_place s (line_count s) + 2 * j) (inr (omega (arith, inside)))) in
        let bad : bad_output (patched s line new) ≡ bad_output s = fun_ext (λ j. rw (out j, out (j - 1), same_lines)) in
        rw (bad, same_outputs) (passed s ok).no_bad_output

    -- the patched image is accepted
    pub patched_accepted : Accepted (patched s line new)
    patched_accepted =
        accepted (patched s line new)
        (rw (same-mark, size) (passed s ok).marked)
        (rw (same_lines, same_outputs) (passed s ok).counted)
        (rw (same-distance, same_outputs, same_lines, size) (passed s ok).placed)
        no_bad_record no_bad_output

    -- with the same counts
    pub same_inputs : inputs (board_of (patched s line new)) ≡ inputs (board_of s)
    same_inputs = ap inputs board_is ∙ inputs-altered (board_of s) line (record_at new 0) (takes s line new inside fit)

    pub same_counts : (check_promise (patched s line new)).done ≡ (check_promise s).done
    same_counts = cc (same_lines, same_outputs, same_inputs)

    pub still_known : {c : Counts} → Known s c → Known (patched s line new) c
    still_known known = record {
      ok = patched_accepted;
      lines_are = known.lines_are ∙ sym same_lines;
      ins_are = known.ins_are ∙ sym same_inputs;
      outs_are = known.outs_are ∙ sym same_outputs;
    }
