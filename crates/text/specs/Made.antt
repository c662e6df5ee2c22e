-- What is made of a line.
use Rattle.std.specs.Prelude.{List, ℕ, take}
use Rattle.text.specs.declared.line.Line.{Line}

-- the bytes in front
abbrev pub made : Line → List ℕ
made line = take line.length line.bytes
