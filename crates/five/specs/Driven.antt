-- How many output lines hold D or D-bar.
use Rattle.std.specs.Prelude.{List, map, Bool, ◌||◌, ℕ, eqb, get_or}
use Rattle.board.specs.Lists.{bit, ones}
use Rattle.board.specs.Board.{Board}

-- D or D-bar
abbrev pub is_driven : ℕ → Bool
is_driven v = eqb v 3 || eqb v 4

-- how many of some lines hold D or D-bar in a row
unfoldable pub driven_of : List ℕ → List ℕ → ℕ
driven_of row lines = ones (map (λ (o : ℕ). bit (is_driven (get_or row o 0))) lines)

-- how many output lines of a board do
abbrev pub driven : Board → List ℕ → ℕ
driven b row = driven_of row b.outs
