-- The parts of a text between marks, as a line's words between its spaces.
use Rattle.std.specs.Prelude.{Option, List, [], ◌∷◌, ℕ, ◌+◌, eqb, take, drop}
use Rattle.std.specs.List.{slice_split, position}
use Rattle.std.specs.Option.{option_map}

-- a line's words, between its spaces: always one word more than there are spaces
abbrev pub words : List ℕ → List (List ℕ)
words s = slice_split (λ x. eqb x 32) s

-- the last of them; where there is none, no bytes
unfoldable pub last : List (List ℕ) → List ℕ
last [] = []
last (p ∷ []) = p
last (p ∷ q ∷ ps) = last (q ∷ ps)

-- what stands before a word's first mark, and behind it, where it has one
abbrev pub split_once : ℕ → List ℕ → Option (List ℕ × List ℕ)
split_once mark w = option_map (λ at. (take at w, drop (at + 1) w)) (position (λ x. eqb x mark) w)
