-- What inner functions ask of each other and leave: no call's promise rests on it.
use Rattle.std.specs.Prelude.{◌≡◌, ◌⊎◌, List, [], Bool, true, false, cond, ◌&&◌, ℕ, ◌+◌, ◌*◌, ◌≤◌, ◌<◌, eqb, leb, length, get_or}
use Rattle.std.specs.Int.Bits.{bit_xor}
use Rattle.board.specs.Lists.{◌among◌, somewhere}
use Rattle.board.specs.Board.{Board, record_of}
use Rattle.board.specs.Row.{value}
use Rattle.board.specs.Gate.{bit_of}
use Rattle.board.specs.Fine.{Fine}
use Rattle.lanes.specs.declared.flat.Gate.{Gate}
use Rattle.lanes.specs.Words.{full, words, flipped_words, gate_word, is_out, lane}

-- how many lines a board has
abbrev pub size : Board → ℕ
size b = length b.lines

-- the gate of a line, decoded, and one with no pins past the end
abbrev pub bare_gate : Gate
bare_gate = record { kind = 0; count = 0; pins = []; is_output = false; last_reader = 0 }

abbrev pub gate_at : List Gate → ℕ → Gate
gate_at flat i = get_or flat i bare_gate

-- a gate noted as read by a line last, and one marked as an output
abbrev pub read_by : Gate → ℕ → Gate
read_by g line = record { kind = g.kind; count = g.count; pins = g.pins; is_output = g.is_output; last_reader = line }

abbrev pub as_output : Gate → Gate
as_output g = record { kind = g.kind; count = g.count; pins = g.pins; is_output = true; last_reader = g.last_reader }

-- a board's records decoded, one gate a line: kind, pin count, four pins, whether the line is an output, and a line above which none reads it
pub record Flat (b : Board) (flat : List Gate) : Type 0 where
  pub fine : Fine b
  pub long : size b ≤ length flat
  pub kind : (i : ℕ) → i < size b → (gate_at flat i).kind ≡ (record_of b i).kind
  pub count : (i : ℕ) → i < size b → (gate_at flat i).count ≡ length (record_of b i).pins
  pub pin : (i j : ℕ) → i < size b → j < length (record_of b i).pins → get_or (gate_at flat i).pins j 0 ≡ get_or (record_of b i).pins j 0
  pub inside : (i j : ℕ) → i < size b → j < 4 → get_or (gate_at flat i).pins j 0 < size b
  pub out : (i : ℕ) → i < size b → (gate_at flat i).is_output ≡ is_out b i
  pub last : (i p : ℕ) → i < size b → p among (record_of b i).pins → i ≤ (gate_at flat p).last_reader
  pub last_inside : (i : ℕ) → i < size b → (gate_at flat i).last_reader < size b

-- the first n lines decoded: their records stand there, with 0s past their pins; the lines in a list are marked as outputs; what their pins
-- read is noted, and each noted line is one of the board's
pub record Decoded (b : Board) (n : ℕ) (marked : List ℕ) (flat : List Gate) : Type 0 where
  pub long : size b ≤ length flat
  pub kind : (i : ℕ) → i < n → (gate_at flat i).kind ≡ (record_of b i).kind
  pub count : (i : ℕ) → i < n → (gate_at flat i).count ≡ length (record_of b i).pins
  pub pin : (i j : ℕ) → i < n → j < 4 → get_or (gate_at flat i).pins j 0 ≡ get_or (record_of b i).pins j 0
  pub out : (i : ℕ) → i < n → (gate_at flat i).is_output ≡ somewhere (eqb i) marked
  pub last : (i p : ℕ) → i < n → p among (record_of b i).pins → i ≤ (gate_at flat p).last_reader
  pub last_inside : (i : ℕ) → i < n → (gate_at flat i).last_reader < size b

-- room for the words of a board's lines twice, eight a line: the good ones and, behind them, the changed ones; then eight words of 0s and
-- eight of 1s
pub record Roomy (b : Board) (rows : List ℕ) : Type 0 where
  pub long : length rows ≡ 16 * size b + 16
  pub zeros : (w : ℕ) → w < 8 → get_or rows (16 * size b + w) 0 ≡ 0
  pub ones : (w : ℕ) → w < 8 → get_or rows (16 * size b + 8 + w) 0 ≡ full

-- the good words of the first n lines, for the 512 patterns from base on
abbrev pub GoodTo : Board → ℕ → ℕ → List ℕ → Type 0
GoodTo b base n rows = (i w : ℕ) → i < n → w < 8 → get_or rows (8 * i + w) 0 ≡ value (words (base + 64 * w)) b i

-- the good words of every line, for a block of 512 patterns
pub record Block (b : Board) (base : ℕ) (rows : List ℕ) : Type 0 where
  pub room : Roomy b rows
  pub number : ℕ
  pub base_is : base ≡ 512 * number
  pub good : GoodTo b base (size b) rows

-- eight words put at a place: they stand there, and nothing else moves
pub record Put (old : List ℕ) (at : ℕ) (e : List ℕ) (new : List ℕ) : Type 0 where
  pub long : length new ≡ length old
  pub here : (w : ℕ) → w < 8 → get_or new (at + w) 0 ≡ get_or e w 0
  pub off : (k : ℕ) → (k < at) ⊎ (at + 8 ≤ k) → get_or new k 0 ≡ get_or old k 0

-- the place of the lowest 1 of a word
pub record LowestOne (d z : ℕ) : Type 0 where
  pub inside : z < 64
  pub one : bit_of d z ≡ 1
  pub none_below : (q : ℕ) → q < z → bit_of d q ≡ 0

-- the lowest lane of eight words, or 512
pub record Lowest (e : List ℕ) (r : ℕ) : Type 0 where
  pub few : r ≤ 512
  pub dark : (k : ℕ) → k < r → lane e k ≡ 0
  pub lit : r < 512 → lane e r ≡ 1

-- a gate's eight words: word w is the gate's from the words w that stand at its pins' places
abbrev pub GateWords : ℕ → ℕ → List ℕ → List ℕ → List ℕ → Type 0
GateWords kind count places rows r =
    (w : ℕ) (ws : List ℕ) → w < 8 → length ws ≡ count → ((j : ℕ) → j < count → get_or ws j 0 ≡ get_or rows (get_or places j 0 + w) 0)
    → get_or r w 0 ≡ gate_word kind ws

-- line p is noted as changed, where line l is the one that was turned over
abbrev pub is_changed : ℕ → List ℕ → ℕ → Bool
is_changed l changed p = leb l p && eqb (get_or changed p 0) 1

-- where line p's words stand, on a board of n lines
abbrev pub place_of : ℕ → ℕ → List ℕ → ℕ → ℕ
place_of n l changed p = cond (is_changed l changed p) (8 * (n + p)) (8 * p)

-- the change of line l, passed up to line i: each line's words with line l turned over stand at its place
pub record Passed (b : Board) (base l i : ℕ) (rows changed : List ℕ) : Type 0 where
  pub block : Block b base rows
  pub long : length changed ≡ size b
  pub reads : (p w : ℕ) → p < i → w < 8 → get_or rows (place_of (size b) l changed p + w) 0 ≡ value (flipped_words l (base + 64 * w)) b p

-- passed over one line more, whose note alone may be another
pub record PassedOn (b : Board) (base l i : ℕ) (old rows changed : List ℕ) : Type 0 where
  pub passed : Passed b base l (i + 1) rows changed
  pub kept : (p : ℕ) → (p ≡ i → ⊥) → get_or changed p 0 ≡ get_or old p 0

-- no line above `last` reads a line below i that is noted as changed
abbrev pub Heard : Board → ℕ → ℕ → ℕ → List ℕ → Type 0
Heard b l i last changed = (q p : ℕ) → q < size b → p < i → p among (record_of b q).pins → is_changed l changed p ≡ true → q ≤ last

-- what a line adds to the lanes that are seen: those in which it differs, where it is an output
abbrev pub adds : Board → ℕ → ℕ → ℕ → ℕ → ℕ
adds b base l i w = cond (is_out b i) (bit_xor (value (words (base + 64 * w)) b i) (value (flipped_words l (base + 64 * w)) b i)) 0
