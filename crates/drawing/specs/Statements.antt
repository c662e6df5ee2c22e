-- The statements of a drawing, one by one, as the writer puts them: no call's promise rests on it.
use Rattle.std.specs.Prelude.{List, [], ◌++◌, cond, ℕ, zero, suc, ◌+◌, ◌-◌, ◌≤◌, ◌<◌, ltb, length, get_or}
use Rattle.board.specs.Board.{Board, record_of, inputs}
use Rattle.image.specs.Image.{line_count, output_count, board_of}
use Rattle.drawing.specs.Form.{input_text, output_text, gate_text}

-- statement j of a board's text: inputs, then outputs, then gates
unfoldable pub statement_of : Board → ℕ → List ℕ
statement_of b j =
    let outs = length b.outs in
    cond (ltb j (inputs b)) (input_text j)
    (cond (ltb j (inputs b + outs)) (output_text (get_or b.outs (j - inputs b) 0)) (gate_text (j - outs) (record_of b (j - outs))))

-- n statements from j on
unfoldable pub statements : Board → ℕ → ℕ → List ℕ
statements b j zero = []
statements b j (suc n) = statement_of b j ++ statements b (suc j) n

-- how many statements a board's text has
abbrev pub statement_count : List ℕ → ℕ
statement_count s = line_count s + output_count s

-- room for any statement
abbrev pub statement_room : ℕ
statement_room = 288

-- line i of an accepted image is a gate
pub record GateOf (s : List ℕ) (i : ℕ) : Type 0 where
  pub gate : inputs (board_of s) ≤ i
  pub inside : i < line_count s
