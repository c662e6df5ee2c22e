-- What is made of a statement.
use Rattle.std.specs.Prelude.{List, ℕ, take}
use Rattle.drawing.specs.declared.made.StatementText.{StatementText}

-- the bytes in front
abbrev pub made : StatementText → List ℕ
made m = take m.length m.bytes
