-- What a line's gate reads on each pin, present or absent, and a line's value as an input or as a gate, from its record's bytes.
use mathlib.Core.Path.{◌≡◌, sym, ◌∙◌}
use mathlib.Core.List.{List}
use Prim.Native.Nat.{ℕ, ◌+◌, ◌*◌, ◌≤◌, ◌<◌}
use native.Mathlib.Omega.{arith}
use lib.Dec.{lit<}
use lib.ListN.{length, get_or, get_or-eq_default}
use borrow.Author.Tests.{eq-eqb, ne_eqb}
use Rattle.board.specs.Limits.{last_kind}
use Rattle.board.specs.Board.{record_of}
use Rattle.board.specs.Row.{step}
use Rattle.board.specs.Gate.{held_line}
use Rattle.board.specs.Inner.{stuck_pin, held_at}
use Rattle.board.specs.Fine.{most, most_pins, Stands}
use Rattle.board.specs.Five.{gate5, hold5, five}
use Rattle.board.specs.declared.Condition.{Condition}
use Rattle.board.proofs.Lists.{build-length}
use Rattle.image.specs.Bytes.{byte_at, word_at}
use Rattle.image.specs.Image.{line_count, first_record, record_place, record_at, board_of}
use Rattle.image.specs.Refusals.{Accepted}
use Rattle.image.specs.Inner.{line_at}
use Rattle.image.proofs.Laws.Records.{records_at}
use Rattle.image.proofs.Laws.Fine.{line_count_lem, accepted_fine}
use Rattle.image.proofs.Laws.Line.{held_pins_length, pin_reads, line_step}
use Rattle.five.specs.Inner.{read_at, Gated}
use Rattle.five.proofs.Laws.Lists.{any_default}
use Rattle.five.proofs.Laws.Table.{get_or_below}

module _ (φ : Condition) (s : List ℕ) (p i : ℕ) (below : List ℕ) where
  read_length : length (read_at φ s p i below) ≡ byte_at s (p + 1)
  read_length = held_pins_length s p below hold5 φ i

  pub absent_pin : (j w : ℕ) → byte_at s (p + 1) ≤ j → w ≡ get_or (read_at φ s p i below) j w
  absent_pin j w l = sym (get_or-eq_default (read_at φ s p i below) w (rw read_length l))

  module _ (ok : Gated s p φ below) where
    -- no more pins are read than the kind has, and so at most four
    pub few_named : length (read_at φ s p i below) ≤ most (byte_at s p)
    few_named = rw read_length ok.few

    pub few_read : length (read_at φ s p i below) ≤ 4
    few_read = omega (arith, few_named, get_or_below 5 most_pins tt (byte_at s p) 0 (lit< tt))

    pub present_pin : (j w : ℕ) → j < byte_at s (p + 1)
        → held_at hold5 (stuck_pin φ i j) (get_or below (word_at s (p + 2 + 2 * j)) 0) ≡ get_or (read_at φ s p i below) j w
    present_pin j w l =
        sym (any_default (read_at φ s p i below) j w 0 (rw read_length l) ∙ pin_reads s p below hold5 φ i j l)

-- the record of each line of an accepted image has a known kind, and no more pins than the kind has
pub record_good : (s : List ℕ) → Accepted s → (i : ℕ) → i < line_count s →
    let p = record_place s i in
    (byte_at s p ≤ last_kind) × (byte_at s (p + 1) ≤ most (byte_at s p))
record_good s ok i l =
    let p = record_place s i in
    let at : record_of (board_of s) i ≡ record_at s p = records_at s (first_record s) (line_count s) i _ l in
    let stands : Stands i (record_at s p) = rw at at ((accepted_fine s ok).records i (rw (line_count_lem s) l)) in
    let count : length (record_at s p).pins ≡ byte_at s (p + 1) = build-length _ (byte_at s (p + 1)) in
    (stands.kind, rw count at stands.few)

-- a line's value, as an input and as a gate
module _ (φ : Condition) (start : ℕ → ℕ) (s : List ℕ) (i : ℕ) (inside : i < line_count s) (below : List ℕ) where
  pub line_input : byte_at s (record_place s i) ≡ 0 → held_line hold5 φ i (start i) ≡ step (five φ start) (board_of s) i below
  unfolding line_at
  line_input e = rw (eq-eqb (byte_at s (record_place s i)) 0 e) at (line_step (five φ start) s i below inside)

  pub line_gate : (byte_at s (record_place s i) ≡ 0 → ⊥)
      → held_line hold5 φ i (gate5 (byte_at s (record_place s i)) (read_at φ s (record_place s i) i below)) ≡ step (five φ start) (board_of s) i below
  unfolding line_at
  line_gate ne = rw (ne_eqb (byte_at s (record_place s i)) 0 ne) at (line_step (five φ start) s i below inside)
