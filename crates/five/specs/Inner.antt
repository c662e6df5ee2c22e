-- What inner functions ask of each other and leave: no call's promise rests on it.
use Rattle.std.specs.Prelude.{◌≡◌, List, cond, ℕ, ◌+◌, ◌%◌, ◌^◌, ◌≤◌, ◌<◌, eqb, ltb, length, get_or}
use Rattle.board.specs.Limits.{last_kind}
use Rattle.board.specs.Gate.{held_pins}
use Rattle.board.specs.Fine.{most}
use Rattle.board.specs.Five.{hold5}
use Rattle.board.specs.declared.Condition.{Condition}
use Rattle.image.specs.Bytes.{byte_at}
use Rattle.image.specs.Image.{line_count}
use Rattle.image.specs.Refusals.{Accepted}
use Rattle.image.specs.Inner.{OnBoard, pins_at}
use Rattle.five.specs.declared.table.Section.{Section}
use Rattle.five.specs.declared.table.Section.TheVariants.{And, Or, ExclusiveOr}
use Rattle.five.specs.declared.way.Way.{Way}

-- a section's number, and what fills an absent pin in it
abbrev pub number_of : Section → ℕ
number_of And = 0
number_of Or = 1
number_of ExclusiveOr = 2

abbrev pub filler_of : Section → ℕ
filler_of And = 1
filler_of Or = 0
filler_of ExclusiveOr = 0

-- how a kind from 1 up goes by the table: kinds 1 to 4 as "and", 5 and 6 as "or", and the others as exclusive-or, each even one by the opposite
abbrev pub way_of : ℕ → Way
way_of kind = record {
  section = cond (ltb kind 5) And (cond (ltb kind 7) Or ExclusiveOr);
  opposite = eqb (kind % 2) 0;
}

-- every value of a row is one of the five
abbrev pub Fives : List ℕ → Type 0
Fives row = (p : ℕ) → get_or row p 0 < 5

-- what the gate whose record stands at place p reads on its pins as line i, from the lines below
abbrev pub read_at : Condition → List ℕ → ℕ → ℕ → List ℕ → List ℕ
read_at φ s p i below = held_pins hold5 φ i (pins_at s p below)

-- what a gate's value asks: a gate's record at place p with no more pins than its kind has, a condition of the board, and five values below
pub record Gated (s : List ℕ) (p : ℕ) (φ : Condition) (below : List ℕ) : Type 0 where
  pub low : p < 2 ^ 63 + 2 ^ 32
  pub gate : 0 < byte_at s p
  pub kind : byte_at s p ≤ last_kind
  pub few : byte_at s (p + 1) ≤ most (byte_at s p)
  pub condition : OnBoard s φ
  pub fives : Fives below

-- what the value of line i asks: an accepted image's line, a condition of its board, and five values below
pub record Lined (s : List ℕ) (i : ℕ) (φ : Condition) (below : List ℕ) : Type 0 where
  pub ok : Accepted s
  pub inside : i < line_count s
  pub condition : OnBoard s φ
  pub fives : Fives below

-- what the filler asks: an accepted image, a condition of its board, and a row of one byte a line
pub record FiveFillable (s : List ℕ) (φ : Condition) (row : List ℕ) : Type 0 where
  pub ok : Accepted s
  pub condition : OnBoard s φ
  pub long : length row ≡ line_count s
