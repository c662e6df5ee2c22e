-- Room for what programs read and make.
use Rattle.std.specs.Prelude.{ℕ}

-- the longest drawing that is read from a file or from standard input
abbrev pub most_text : ℕ
most_text = 1048576

-- the longest target: more than any drawing that is written has
abbrev pub most_target : ℕ
most_target = 262144
