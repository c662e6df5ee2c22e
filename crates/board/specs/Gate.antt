-- What a line's value is: document 01's table of kinds, as W3 and W7 amend it, and what a fault does to it: a line is held, or a pin of its gate.
use Rattle.std.specs.Prelude.{List, [], ◌∷◌, Bool, true, false, not, cond, ℕ, ◌/◌, ◌%◌, ◌^◌, eqb, leb, ltb, length, get_or, set}
use Rattle.board.specs.Lists.{bit, ones}
use Rattle.board.specs.Board.{Board, record_of}
use Rattle.board.specs.Row.{Rule}
use Rattle.board.specs.declared.Condition.{Condition}
use Rattle.board.specs.declared.Fault.TheVariants.{Line, Pin}
use Rattle.board.specs.declared.Condition.TheVariants.{Sound, Having}

-- what each kind from 0 up asks of n pins, of which s are 1: that all are (for a buffer, its one), that some are, that an odd number is, or nothing
unfoldable pub kinds : ℕ → ℕ → List Bool
kinds n s =
    let all = eqb s n in
    let some = ltb 0 s in
    let odd = eqb (s % 2) 1 in
    false ∷ all ∷ not all ∷ all ∷ not all ∷ some ∷ not some ∷ odd ∷ not odd ∷ false ∷ true ∷ []

abbrev pub asks : ℕ → ℕ → ℕ → Bool
asks k n s = get_or (kinds n s) k false

-- the value of a gate of kind k from its pins' values
abbrev pub gate : ℕ → List ℕ → ℕ
gate k vs = bit (asks k (length vs) (ones vs))

-- bit i of a pattern, bit 0 the lowest
abbrev pub bit_of : ℕ → ℕ → ℕ
bit_of x i = x / 2 ^ i % 2

-- the good board under pattern x: an input has the pattern's bit, a gate its kind's value
abbrev pub good : ℕ → Rule
good x i k vs = cond (eqb k 0) (bit_of x i) (gate k vs)

-- the line that a condition concerns, and the value that something is held at
abbrev pub site : Condition → ℕ
site Sound = 0
site (Having (Line l s)) = l
site (Having (Pin l p s)) = l

abbrev pub stuck : Condition → ℕ
stuck Sound = 0
stuck (Having (Line l s)) = s
stuck (Having (Pin l p s)) = s

-- the fault is on an absent pin: one that is not below its gate's pin count
abbrev pub absent : Board → Condition → Bool
absent b Sound = false
absent b (Having (Line l s)) = false
absent b (Having (Pin l p s)) = leb (length (record_of b l).pins) p

module _ (hold : ℕ → ℕ → ℕ) where
  -- what line i's gate reads on its pins: a pin that is held at s reads `hold s v` for v
  abbrev pub held_pins : Condition → ℕ → List ℕ → List ℕ
  held_pins Sound i vs = vs
  held_pins (Having (Line l s)) i vs = vs
  held_pins (Having (Pin l p s)) i vs = cond (eqb i l) (set vs p (hold s (get_or vs p 0))) vs

  -- what line i gives: a line that is held at s gives `hold s v` for v
  abbrev pub held_line : Condition → ℕ → ℕ → ℕ
  held_line Sound i v = v
  held_line (Having (Line l s)) i v = cond (eqb i l) (hold s v) v
  held_line (Having (Pin l p s)) i v = v

  -- the rule F in a condition
  abbrev pub under : Condition → Rule → Rule
  under φ F i k vs = held_line φ i (F i k (held_pins φ i vs))

-- the faulty board under pattern x: what is held has the stuck value
abbrev pub faulty : Condition → ℕ → Rule
faulty φ x = under (λ s v. s) φ (good x)
