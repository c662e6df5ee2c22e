-- What inner functions ask of each other and leave: no call's promise rests on it.
use Rattle.std.specs.Prelude.{◌≡◌, Option, Some, None, Result, Ok, Err, List, [], ◌∷◌, ◌++◌, ◌⊎◌, cond, ℕ, zero, suc, ◌+◌, ◌*◌, ◌-◌, ◌≤◌, ◌<◌, ltb, length, get_or, take, drop, replicate, map}
use denote.Ref.{Bor}
use Rattle.board.specs.Lists.{text, ◌among◌}
use Rattle.text.specs.Text.{spelled, decimal, each}
use Rattle.board.specs.Limits.{most_lines, most_outputs}
use Rattle.board.specs.Board.{Record, Board, inputs}
use Rattle.board.specs.Fine.{first_tie}
use Rattle.image.specs.Refusals.{image_refusals}
use Rattle.image.specs.Promise.{Promise}
use Rattle.image.specs.Calls.{◌then◌}
use Rattle.drawing.specs.Calls.{too_short, making}
use Rattle.drawing.specs.Form.{input_text, output_text, gate_text, text_of, last_number, Worded, Drawn, Departs}
use Rattle.drawing.specs.Image.{word_bytes, lines_bytes}
use Rattle.drawing.specs.declared.stop.Stop.{Stop}
use Rattle.drawing.specs.declared.choose.Took.{Took}
use Rattle.drawing.specs.declared.number.Number.{Number}
use Rattle.drawing.specs.declared.form.Tally.{Tally}
use Rattle.drawing.specs.declared.form.Named.{Named}
use Rattle.drawing.specs.declared.line.Line.{Line}
use Rattle.drawing.specs.declared.line.Line.TheVariants.{Input, Output, Gate}
use Rattle.drawing.specs.declared.pins.PinFound.{PinFound}
use Rattle.drawing.specs.declared.pins.PinFound.TheVariants.{Last, More}
use Rattle.drawing.specs.declared.pins.PinsFound.{PinsFound}

-- the forms of the pieces between a drawing's numbers; from 5 on the words of kinds 1 to 10, of which the last two end their statements
unfoldable pub piece_forms : List (List ℕ)
piece_forms =
    text "INPUT(n#)\n"
    ∷ text "OUTPUT(n"
    ∷ text "n# = "
    ∷ text ")\n"
    ∷ text ", n"
    ∷ text "BUFF(n"
    ∷ text "NOT(n"
    ∷ text "AND(n"
    ∷ text "NAND(n"
    ∷ text "OR(n"
    ∷ text "NOR(n"
    ∷ text "XOR(n"
    ∷ text "XNOR(n"
    ∷ text "TIE0()\n"
    ∷ text "TIE1()\n"
    ∷ []

abbrev pub piece_count : ℕ
piece_count = 15

-- a piece, where the next input or gate is numbered k
unfoldable pub piece : ℕ → ℕ → List ℕ
piece which k = spelled (get_or piece_forms which []) (k ∷ [])

-- the texts of a set, where they stand behind m bytes of a text: one has these bytes, and none has the next one, or ends where the text does
pub record Stops (L : List ℕ → Type 0) (rest : List ℕ) (m : ℕ) : Type 0 where
  pub inside : m ≤ length rest
  pub one : (s : List ℕ) × L s × (take m s ≡ take m rest)
  pub most : (s w : List ℕ) → L s → take (suc m) (s ++ w) ≡ take (suc m) rest → ⊥

-- of the pieces from one number up to another, one has the first m bytes of a text, and none has the next one, or ends where the text does
pub record NoPiece (from to k : ℕ) (rest : List ℕ) (m : ℕ) : Type 0 where
  pub inside : m ≤ length rest
  pub one : (which : ℕ) × (from ≤ which) × (which < to) × (take m (piece which k) ≡ take m rest)
  pub most : (which : ℕ) → from ≤ which → which < to → (x : List ℕ) → take (suc m) (piece which k ++ x) ≡ take (suc m) rest → ⊥

-- m bytes of a piece are the first of a text, and no more
pub record Common (rest word : List ℕ) (m : ℕ) : Type 0 where
  pub inside : m ≤ length rest
  pub part : m ≤ length word
  pub same : take m word ≡ take m rest
  pub most : m < length word → take (suc m) word ≡ take (suc m) rest → ⊥

-- the forms of the pieces from one number up to another
abbrev pub Run : ℕ → ℕ → List (Bor (List ℕ)) → Type 0
Run from to forms = (from < to) × (to ≤ piece_count) × (map (λ (form : Bor (List ℕ)). form.now) forms ≡ take (to - from) (drop from piece_forms))

-- which of them, told by its number
abbrev pub numbered : ℕ → Result Took Stop → Result Took Stop
numbered from (Ok took) = Ok (record { which = from + took.which; length = took.length })
numbered from (Err stop) = Err stop

-- which of some pieces a text begins with, and how long it is; or how many bytes it shares with one
abbrev pub Chosen : ℕ → ℕ → ℕ → List ℕ → Result Took Stop → Type 0
Chosen from to k rest (Ok took) =
    (from ≤ took.which) × (took.which < to) × (took.length ≡ length (piece took.which k)) × (took.length ≤ length rest) × (rest ≡ piece took.which k ++ drop took.length rest)
Chosen from to k rest (Err stop) = NoPiece from to k rest stop.along

-- a byte that is a decimal digit
pub record Digit (c : ℕ) : Type 0 where
  pub low : 48 ≤ c
  pub high : c ≤ 57

-- the value of a byte that is a digit
abbrev pub IsDigit : ℕ → Option ℕ → Type 0
IsDigit c (Some d) = (d < 10) × (c ≡ 48 + d)
IsDigit c None = Digit c → ⊥

-- a number can't go on with what stands behind it: that is no digit, or it is 0, or it would be over 65,535
abbrev pub Ends : ℕ → List ℕ → Type 0
Ends v after = (c : ℕ) (x : List ℕ) → after ≡ c ∷ x → Digit c → (v ≡ 0) ⊎ (last_number < 10 * v + (c - 48))

-- a text begins with that number, so long
pub record Leads (rest : List ℕ) (n : Number) : Type 0 where
  pub few : n.value ≤ last_number
  pub long : n.length ≡ length (decimal n.value)
  pub inside : n.length ≤ length rest
  pub is : rest ≡ decimal n.value ++ drop n.length rest
  pub ends : Ends n.value (drop n.length rest)

-- the number that a text begins with, and how long it is; there is none where the text does not begin with a digit
abbrev pub Counted : List ℕ → Option Number → Type 0
Counted rest (Some n) = Leads rest n
Counted rest None = (c : ℕ) (x : List ℕ) → rest ≡ c ∷ x → Digit c → ⊥

-- the sets that the form is made of: a piece out of some, and then the texts that may follow it
abbrev pub PieceThen : ℕ → ℕ → ℕ → (ℕ → List ℕ → Type 0) → List ℕ → Type 0
PieceThen from to k K s = (which : ℕ) × (from ≤ which) × (which < to) × (v : List ℕ) × K which v × (s ≡ piece which k ++ v)

-- and a number, and then the texts that may follow it
abbrev pub NumberThen : (ℕ → List ℕ → Type 0) → List ℕ → Type 0
NumberThen K s = (n : ℕ) × (n ≤ last_number) × (v : List ℕ) × K n v × (s ≡ decimal n ++ v)

-- the texts of up to so many pins, from the first one's number on: the piece between two may follow where another has room
abbrev pub pins_to : ℕ → ℕ
pins_to left = cond (ltb 1 left) 5 4

abbrev pub Pins : ℕ → List ℕ → Type 0
Pins zero s = ⊥
Pins (suc left) s = NumberThen (λ p. PieceThen 3 (pins_to (suc left)) 0 (λ which v. ((which ≡ 3) × (v ≡ [])) ⊎ ((which ≡ 4) × Pins left v))) s

-- the piece of the first tie's word
abbrev pub tie_piece : ℕ
tie_piece = 4 + first_tie

-- what may follow the word of a piece: nothing where it is that of a tie, and else up to four pins
abbrev pub WordThen : ℕ → List ℕ → Type 0
WordThen which v = ((tie_piece ≤ which) × (v ≡ [])) ⊎ ((which < tie_piece) × Pins 4 v)

-- a gate's statement from its word on
abbrev pub GateRest : List ℕ → Type 0
GateRest = PieceThen 5 piece_count 0 WordThen

-- pins as a gate's statement has them, from the first one's number on
abbrev pub pins_rest : List ℕ → List ℕ
pins_rest [] = []
pins_rest (p ∷ []) = decimal p ++ piece 3 0
pins_rest (p ∷ q ∷ qs) = decimal p ++ piece 4 0 ++ pins_rest (q ∷ qs)

-- the pins that a text begins with, up to so many, as four of which unused ones are 0
pub record HasPins (rest : List ℕ) (left : ℕ) (ps pins : List ℕ) (count n : ℕ) : Type 0 where
  pub some_pin : 1 ≤ length ps
  pub few : length ps ≤ left
  pub numbers : (p : ℕ) → p among ps → p ≤ last_number
  pub counts : count ≡ length ps
  pub holds : pins ≡ take 4 (ps ++ replicate 4 0)
  pub inside : n ≤ length rest
  pub is : rest ≡ pins_rest ps ++ drop n rest

-- the pin that a text begins with, and another behind it: where the texts of fewer pins stop behind it, there those of all do
pub record GoesOn (rest : List ℕ) (left p n : ℕ) : Type 0 where
  pub few : p ≤ last_number
  pub two : 1 < left
  pub inside : n ≤ length rest
  pub is : rest ≡ decimal p ++ piece 4 0 ++ drop n rest
  pub on : (m : ℕ) → Stops (Pins (left - 1)) (drop n rest) m → Stops (Pins left) rest (n + m)

abbrev pub PinRead : List ℕ → ℕ → Result PinFound Stop → Type 0
PinRead rest left (Ok (Last p n)) = (p ≤ last_number) × (n ≤ length rest) × (rest ≡ decimal p ++ piece 3 0 ++ drop n rest)
PinRead rest left (Ok (More p n)) = GoesOn rest left p n
PinRead rest left (Err stop) = Stops (Pins left) rest stop.along

abbrev pub PinsRead : List ℕ → ℕ → Result PinsFound Stop → Type 0
PinsRead rest left (Ok found) = (ps : List ℕ) × HasPins rest left ps found.pins found.count found.length
PinsRead rest left (Err stop) = Stops (Pins left) rest stop.along

-- a statement: an input's, an output's or a gate's; its section, what it may hold, and its text, where the next input or gate is numbered k
pub data Statement : Type 0 where
  input : Statement
  output : ℕ → Statement
  gate : Record → Statement

abbrev pub section : Statement → ℕ
section input = 0
section (output o) = 1
section (gate g) = 2

pub data Sound : Statement → Type 0 where
  an_input : Sound input
  an_output : {o : ℕ} → o ≤ last_number → Sound (output o)
  a_gate : {g : Record} → Worded g → Sound (gate g)

abbrev pub statement_text : ℕ → Statement → List ℕ
statement_text k input = input_text k
statement_text k (output o) = output_text o
statement_text k (gate g) = gate_text k g

-- the texts of the statements that may follow in a section
abbrev pub Statements : ℕ → ℕ → List ℕ → Type 0
Statements from k s = (st : Statement) × (from ≤ section st) × Sound st × (s ≡ statement_text k st)

-- a text begins with such a statement, n bytes long
pub record Begins (from k : ℕ) (rest : List ℕ) (st : Statement) (n : ℕ) : Type 0 where
  pub allowed : from ≤ section st
  pub sound : Sound st
  pub some_byte : 0 < n
  pub inside : n ≤ length rest
  pub is : rest ≡ statement_text k st ++ drop n rest

-- the statement that a text begins with, or where those that may follow stop
abbrev pub Lined : ℕ → ℕ → List ℕ → Result Line Stop → Type 0
Lined from k rest (Ok (Input n)) = Begins from k rest input n
Lined from k rest (Ok (Output o n)) = Begins from k rest (output o) n
Lined from k rest (Ok (Gate kind count pins n)) =
    (ps : List ℕ) × Begins from k rest (gate (record { kind = kind; pins = ps })) n × (count ≡ length ps) × (pins ≡ take 4 (ps ++ replicate 4 0))
Lined from k rest (Err stop) = Stops (Statements from k) rest stop.along

-- the same from an output's number on, and from a gate's word on
abbrev pub OutputAt : List ℕ → ℕ → Result Line Stop → Type 0
OutputAt rest at (Ok (Output o n)) = (o ≤ last_number) × (n ≤ length rest) × (drop at rest ≡ decimal o ++ piece 3 0 ++ drop n rest)
OutputAt rest at (Ok (Input n)) = ⊥
OutputAt rest at (Ok (Gate kind count pins n)) = ⊥
OutputAt rest at (Err stop) = (j : ℕ) × (stop.along ≡ at + j) × Stops (Pins 1) (drop at rest) j

abbrev pub GateAt : List ℕ → ℕ → Result Line Stop → Type 0
GateAt rest at (Ok (Gate kind count pins n)) =
    (ps : List ℕ) × Worded (record { kind = kind; pins = ps }) × (count ≡ length ps) × (pins ≡ take 4 (ps ++ replicate 4 0)) × (n ≤ length rest)
    × (drop at rest ≡ piece (4 + kind) 0 ++ pins_rest ps ++ drop n rest)
GateAt rest at (Ok (Input n)) = ⊥
GateAt rest at (Ok (Output o n)) = ⊥
GateAt rest at (Err stop) = (j : ℕ) × (stop.along ≡ at + j) × Stops GateRest (drop at rest) j

-- an input's record; and the board with one statement more
abbrev pub bare : Record
bare = record { kind = 0; pins = [] }

abbrev pub add : Board → Statement → Board
add b input = record { lines = b.lines ++ (bare ∷ []); outs = b.outs }
add b (output o) = record { lines = b.lines; outs = b.outs ++ (o ∷ []) }
add b (gate g) = record { lines = b.lines ++ (g ∷ []); outs = b.outs }

-- the board that statements up to one of that section draw
pub record Sofar (from : ℕ) (b : Board) : Type 0 where
  pub drawn : Drawn b
  pub no_output : from ≡ 0 → b.outs ≡ []
  pub no_gate : from ≤ 1 → inputs b ≡ length b.lines

-- each of some pins is a number of two bytes
abbrev pub Small : List ℕ → Type 0
Small pins = (i : ℕ) → get_or pins i 0 < 65536

-- what is kept of a board within the limits: its records and its outputs
pub record Kept (b : Board) (records outputs : List ℕ) : Type 0 where
  pub lines : length b.lines ≤ most_lines → take (10 * length b.lines) records ≡ lines_bytes b.lines
  pub outs : length b.outs ≤ most_outputs → take (2 * length b.outs) outputs ≡ each word_bytes b.outs

-- a board of so many lines and outputs, of which what fits is kept
pub record Holds (b : Board) (lines outs : ℕ) (records outputs : List ℕ) : Type 0 where
  pub lines_are : lines ≡ length b.lines
  pub outs_are : outs ≡ length b.outs
  pub kept : Kept b records outputs

-- what a text is: the drawing of such a board, or where it departs
abbrev pub FormRead : List ℕ → List ℕ → List ℕ → Result Named Stop → Type 0
FormRead t records outputs (Ok named) = (b : Board) × Drawn b × (text_of b ≡ t) × Holds b named.lines named.outputs records outputs
FormRead t records outputs (Err stop) = Departs t stop.along

-- an image held to the rules of a board
abbrev pub held_promise : List ℕ → List ℕ → Promise
held_promise s target = making (image_refusals s then too_short s target) s target

-- what was read is that statement
abbrev pub ToldBy : Line → Statement → Type 0
ToldBy (Input n) st = st ≡ input
ToldBy (Output o n) st = st ≡ output o
ToldBy (Gate kind count pins n) st = (ps : List ℕ) × (st ≡ gate (record { kind = kind; pins = ps })) × (count ≡ length ps) × (pins ≡ take 4 (ps ++ replicate 4 0))

-- how long it is, and what is counted behind it
abbrev pub length_of : Line → ℕ
length_of (Input n) = n
length_of (Output o n) = n
length_of (Gate kind count pins n) = n

abbrev pub tallied : Tally → Line → Tally
tallied c (Input n) = record { section = 0; lines = c.lines + 1; outputs = c.outputs }
tallied c (Output o n) = record { section = 1; lines = c.lines; outputs = c.outputs + 1 }
tallied c (Gate kind count pins n) = record { section = 2; lines = c.lines + 1; outputs = c.outputs }

-- its numbers have room where they are kept
abbrev pub Storable : Line → Type 0
Storable (Output o n) = o < 65536
Storable (Gate kind count pins n) = (kind < 256) × (count < 256) × Small pins
Storable (Input n) = 0 < 1

-- one statement more is kept: whatever board stood there stands there with the statement
abbrev pub KeepsMore : Line → Tally → List ℕ → List ℕ → List ℕ → List ℕ → Type 0
KeepsMore line c records outputs records2 outputs2 =
    (b : Board) (st : Statement) → ToldBy line st → c.lines ≡ length b.lines → c.outputs ≡ length b.outs → Kept b records outputs → Kept (add b st) records2 outputs2

-- room for any piece
abbrev pub piece_room : ℕ
piece_room = 32
