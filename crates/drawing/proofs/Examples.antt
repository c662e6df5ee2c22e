-- Computed examples: the requests' own statements, and board T of document 01 as a drawing and as an image.
use mathlib.Core.Path.{◌≡◌, refl}
use mathlib.Core.List.{List, [], ◌∷◌}
use Prim.Native.Nat.{ℕ}
use Rattle.board.specs.Lists.{text}
use Rattle.board.specs.Board.{Record, Board}
use Rattle.board.specs.Test.{first}
use Rattle.text.specs.Text.{places, decimal, each}
use Rattle.drawing.specs.Form.{input_text, output_text, gate_text, lines_text, text_of}
use Rattle.drawing.specs.Image.{lines_bytes, image_of}

gate : ℕ → List ℕ → Record
gate kind pins = record { kind = kind; pins = pins }

-- a line, its opposite, and their "or"
T : Board
T = record { lines = gate 0 [] ∷ gate 2 (0 ∷ []) ∷ gate 5 (0 ∷ 1 ∷ []) ∷ []; outs = 2 ∷ [] }

an_input : input_text 0 ≡ text "INPUT(n0)\n"
unfolding input_text decimal places first
an_input = refl

an_output : output_text 4 ≡ text "OUTPUT(n4)\n"
unfolding output_text decimal places first
an_output = refl

a_nor : gate_text 4 (gate 6 (1 ∷ 2 ∷ [])) ≡ text "n4 = NOR(n1, n2)\n"
unfolding gate gate_text each decimal places first
a_nor = refl

a_tie : (gate_text 4 (gate 9 []) ≡ text "n4 = TIE0()\n") × (gate_text 5 (gate 10 []) ≡ text "n5 = TIE1()\n")
unfolding gate gate_text each decimal places first
a_tie = (refl, refl)

drawing_of_T : text_of T ≡ text "INPUT(n0)\nOUTPUT(n2)\nn1 = NOT(n0)\nn2 = OR(n0, n1)\n"
unfolding gate T input_text output_text gate_text lines_text text_of each decimal places first
drawing_of_T = refl

image_of_T : image_of T
    ≡ 0 ∷ 0 ∷ 0 ∷ 0 ∷ 0 ∷ 0 ∷ 0 ∷ 0 ∷ 0 ∷ 0 ∷ 2 ∷ 1 ∷ 0 ∷ 0 ∷ 0 ∷ 0 ∷ 0 ∷ 0 ∷ 0 ∷ 0 ∷ 5 ∷ 2 ∷ 0 ∷ 0 ∷ 1 ∷ 0 ∷ 0 ∷ 0 ∷ 0 ∷ 0 ∷ 2 ∷ 0 ∷ 3 ∷ 0 ∷ 1 ∷ 0 ∷ 0x2C ∷ 0 ∷ 0 ∷ 0
    ∷ 0x42 ∷ 0x52 ∷ 0x44 ∷ 0x31 ∷ []
unfolding gate T lines_bytes image_of each
image_of_T = refl
