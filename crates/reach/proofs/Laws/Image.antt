-- The pass on an accepted image: its outputs and its records' pins name lines of its board, so its numbers are those of the board.
use mathlib.Core.Path.{◌≡◌, refl, sym, ap, ◌∙◌}
use mathlib.Core.List.{List, []}
use Prim.Native.Nat.{ℕ, suc, ◌+◌, ◌*◌, ◌<◌, ◌^◌}
use native.Mathlib.Nat.{lt_trans}
use lib.ListN.{get_or}
use Rattle.board.specs.Lists.{build}
use Rattle.board.specs.Board.{Record, record_of, Low}
use Rattle.board.proofs.Lists.{build_among}
use Rattle.board.proofs.Fine.{fine_low}
use Rattle.image.specs.Bytes.{byte_at}
use Rattle.image.specs.Image.{line_count, output_count, first_record, record_place, output_at, board_of}
use Rattle.image.specs.Refusals.{Accepted}
use Rattle.image.proofs.Laws.Fine.{accepted_fine, line_count_lem}
use Rattle.image.proofs.Laws.Records.{records_at}
use Rattle.reach.specs.Inner.{Handed, pin_at}
use Rattle.reach.proofs.Laws.Pass.{PassedDown, passed_none, passed_more}

module _ (s : List ℕ) (ok : Accepted s) where
  pub low : Low (board_of s)
  low = fine_low (board_of s) (accepted_fine s ok)

  pub output_inside : (j : ℕ) → j < output_count s → output_at s j < line_count s
  output_inside j l = rw (line_count_lem s) at ((accepted_fine s ok).outs_inside (output_at s j) (build_among _ (output_count s) j l))

  -- a record's pins, by their places
  pins_are : (i : ℕ) → i < line_count s → (record_of (board_of s) i).pins ≡ build (λ k before. pin_at s (record_place s i) k) (byte_at s (record_place s i + 1))
  pins_are i inside = ap (λ (r : Record). r.pins) (records_at s (first_record s) (line_count s) i (record { kind = 0; pins = [] }) inside)

  pub pin_inside : {first line : ℕ} (k : ℕ) → k < byte_at s (first + 10 * line + 1) → first ≡ first_record s → line < line_count s
      → pin_at s (first + 10 * line) k < line_count s
  pin_inside {first} {line} k l is inside =
      let pin = build_among _ (byte_at s (record_place s line + 1)) k (rw is at l) in
      rw is (lt_trans (low line (pin_at s (record_place s line) k) (rw (pins_are line inside) pin)) inside)

  -- none handed down yet
  pub begins : {bare now : List ℕ} {n m : ℕ} → n ≡ line_count s → m ≡ output_count s → ((l : ℕ) → get_or bare l 0 ≡ 0)
      → Handed (output_at s) (λ j. 2 ^ j) m bare now → PassedDown (board_of s) n now
  begins lines outs none_yet gave = rw (lines ∙ sym (line_count_lem s)) (passed_none (board_of s) low refl none_yet (rw outs at gave))

  -- one line more, the one below those that have
  pub goes_on : {now later : List ℕ} {above below line first : ℕ} → PassedDown (board_of s) above now
      → Handed (pin_at s (first + 10 * line)) (λ k. get_or now line 0) (byte_at s (first + 10 * line + 1)) now later → first ≡ first_record s
      → line < line_count s → above ≡ suc line → below ≡ line → PassedDown (board_of s) below later
  goes_on {line = line} so gave is inside next same = rw same (passed_more (board_of s) low (pins_are line inside) (rw next at so) (rw is at gave))
