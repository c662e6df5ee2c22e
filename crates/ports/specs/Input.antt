-- Lines from standard input, by way of a buffer.
use Rattle.std.specs.Prelude.{ℕ}

-- what the buffer has room for
abbrev pub roomy : ℕ
roomy = 262144
