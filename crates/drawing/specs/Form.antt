-- The form of a drawing: what text a board has, which texts are of the form, and where a text departs from it.
use Rattle.std.specs.Prelude.{◌≡◌, List, [], ◌∷◌, ◌++◌, cond, ℕ, suc, ◌≤◌, ◌<◌, eqb, length, get_or, take, drop}
use Rattle.board.specs.Lists.{text, ◌among◌}
use Rattle.board.specs.Limits.{last_kind}
use Rattle.board.specs.Board.{Record, Board, record_of, inputs}
use Rattle.board.specs.Fine.{first_tie}
use Rattle.text.specs.Text.{form, each}

-- the gate words, by kind
abbrev pub words : List (List ℕ)
words = [] ∷ text "BUFF" ∷ text "NOT" ∷ text "AND" ∷ text "NAND" ∷ text "OR" ∷ text "NOR" ∷ text "XOR" ∷ text "XNOR" ∷ text "TIE0" ∷ text "TIE1" ∷ []

-- INPUT(n0) and OUTPUT(n4), each with its line feed
unfoldable pub input_text : ℕ → List ℕ
input_text i = form "INPUT(n#)\n" (i ∷ [])

unfoldable pub output_text : ℕ → List ℕ
output_text o = form "OUTPUT(n#)\n" (o ∷ [])

-- n4 = NOR(n1, n2): line i's name, its word, and its pins, a comma and a space before each but the first
abbrev pub pins_text : List ℕ → List ℕ
pins_text [] = []
pins_text (p ∷ ps) = form "n#" (p ∷ []) ++ each (λ q. form ", n#" (q ∷ [])) ps

unfoldable pub gate_text : ℕ → Record → List ℕ
gate_text i r = form "n# = " (i ∷ []) ++ get_or words r.kind [] ++ text "(" ++ pins_text r.pins ++ text ")\n"

-- the statements of lines, numbered on from i
unfoldable pub lines_text : ℕ → List Record → List ℕ
lines_text i [] = []
lines_text i (r ∷ rs) = cond (eqb r.kind 0) (input_text i) (gate_text i r) ++ lines_text (suc i) rs

-- a board's text: its inputs, then its outputs, then its gates
unfoldable pub text_of : Board → List ℕ
text_of b = lines_text 0 (take (inputs b) b.lines) ++ each output_text b.outs ++ lines_text (inputs b) (drop (inputs b) b.lines)

-- outputs and pins may be any numbers up to this one
abbrev pub last_number : ℕ
last_number = 65_535

-- what a gate word takes: one to four pins, and of TIE0 and TIE1 none
pub record Worded (r : Record) : Type 0 where
  pub a_gate : 1 ≤ r.kind
  pub a_word : r.kind ≤ last_kind
  pub some_pin : r.kind < first_tie → 1 ≤ length r.pins
  pub four_pins : length r.pins ≤ 4
  pub no_pin : first_tie ≤ r.kind → r.pins ≡ []
  pub numbers : (p : ℕ) → p among r.pins → p ≤ last_number

-- a board that can be drawn, within document 01's rules or not: inputs, which have no pins, then gates, and outputs
pub record Drawn (b : Board) : Type 0 where
  pub bare : (i : ℕ) → i < inputs b → (record_of b i).pins ≡ []
  pub worded : (i : ℕ) → inputs b ≤ i → i < length b.lines → Worded (record_of b i)
  pub numbers : (o : ℕ) → o among b.outs → o ≤ last_number

-- a text of the form: that of such a board
abbrev pub OfForm : List ℕ → Type 0
OfForm t = (b : Board) × Drawn b × (text_of b ≡ t)

-- some text of the form begins with the first n bytes of t
abbrev pub Shares : List ℕ → ℕ → Type 0
Shares t n = (u : List ℕ) × OfForm u × (take n u ≡ take n t)

-- t is not of the form, and its first n bytes are the longest beginning that some text of the form shares
pub record Departs (t : List ℕ) (n : ℕ) : Type 0 where
  pub not_so : OfForm t → ⊥
  pub within : n ≤ length t
  pub shared : Shares t n
  pub longest : n < length t → Shares t (suc n) → ⊥
