-- Faults: LINE/STUCK, or LINE.PIN/STUCK for one pin, a number in each place.
use Rattle.std.specs.Prelude.{Option, Some, None, option_and_then, List, ℕ, min}
use Rattle.std.specs.Option.{option_map}
use Rattle.board.specs.declared.Fault.{Fault}
use Rattle.board.specs.declared.Fault.TheVariants.{Line, Pin}
use Rattle.words.specs.Parts.{split_once}
use Rattle.words.specs.Number.{number_of}

-- the fault of a place, with what it is made of where it has a dot: a pin's there, else a line's
abbrev pub fault_from : Option (List ℕ × List ℕ) → List ℕ → ℕ → Option Fault
fault_from None place stuck = option_map (λ line. Line line stuck) (number_of place)
fault_from (Some (line, pin)) place stuck = option_and_then (λ l. option_map (λ p. Pin l p stuck) (number_of pin)) (number_of line)

abbrev pub fault_at : List ℕ → ℕ → Option Fault
fault_at place stuck = fault_from (split_once 46 place) place stuck

-- the fault that a word is read as; a stuck value that is wider than a byte is handed on as 255
abbrev pub fault_of : List ℕ → Option Fault
fault_of w = option_and_then (λ (place, stuck). option_and_then (λ value. fault_at place (min value 255)) (number_of stuck)) (split_once 47 w)
