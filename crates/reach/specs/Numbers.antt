-- Which outputs each line reaches, one number a line: bit j is for the j-th of the output list. No call's promise rests on it.
use Rattle.std.specs.Prelude.{◌≡◌, List, Bool, ◌&&◌, ℕ, ltb, length, get_or}
use Rattle.board.specs.Lists.{bit}
use Rattle.board.specs.Board.{Board}
use Rattle.board.specs.Gate.{bit_of}
use Rattle.board.specs.Reach.{reach}

-- there is a j-th output, and line l reaches it
abbrev pub reaches_output : Board → ℕ → ℕ → Bool
reaches_output b l j = ltb j (length b.outs) && reach b l (get_or b.outs j 0)

-- the numbers of a board's lines: bit j of line l's number is 1 exactly when l reaches output j
abbrev pub Numbered : Board → List ℕ → Type 0
Numbered b numbers = (l j : ℕ) → bit_of (get_or numbers l 0) j ≡ bit (reaches_output b l j)
