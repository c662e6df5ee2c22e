-- Five hundred and twelve patterns at once: bit j of word w of a line is the line's value under pattern base + 64 w + j. No call's promise
-- rests on it.
use Rattle.std.specs.Prelude.{◌≡◌, List, [], ◌∷◌, Bool, not, cond, ℕ, zero, suc, ◌+◌, ◌-◌, ◌/◌, ◌%◌, ◌<◌, eqb, ltb, get_or}
use Rattle.std.specs.Int.Bits.{bit_and, bit_or, bit_xor}
use Rattle.board.specs.Lists.{somewhere, bit}
use Rattle.board.specs.Board.{Board}
use Rattle.board.specs.Row.{Rule, value}
use Rattle.board.specs.Gate.{bit_of, good, under}
use Rattle.board.specs.Test.{first}
use Rattle.board.specs.Book.{entry}
use Rattle.board.specs.declared.Condition.{Condition}
use Rattle.board.specs.declared.Fault.TheVariants.{Line}
use Rattle.board.specs.declared.Condition.TheVariants.{Having}

-- 1 in every lane of a word
abbrev pub full : ℕ
full = 0xFFFF_FFFF_FFFF_FFFF

-- every lane turned over
abbrev pub turned : ℕ → ℕ
turned w = bit_xor w full

-- the words of inputs 0 to 5, the same for every base that is a multiple of 64
abbrev pub masks : List ℕ
masks =
    0xAAAA_AAAA_AAAA_AAAA
    ∷ 0xCCCC_CCCC_CCCC_CCCC
    ∷ 0xF0F0_F0F0_F0F0_F0F0
    ∷ 0xFF00_FF00_FF00_FF00
    ∷ 0xFFFF_0000_FFFF_0000
    ∷ 0xFFFF_FFFF_0000_0000
    ∷ []

-- a value in every lane
abbrev pub spread : ℕ → ℕ
spread s = cond (eqb s 1) full 0

-- the word of input i: a higher input is the same in all 64 patterns
unfoldable pub input_word : ℕ → ℕ → ℕ
input_word base i = cond (ltb i 6) (get_or masks i 0) (spread (bit_of base i))

-- one pin more, by what the kind asks: all, some, an odd number
unfoldable pub joined : ℕ → ℕ → ℕ → ℕ
joined k a w = cond (ltb k 5) (bit_and a w) (cond (ltb k 7) (bit_or a w) (bit_xor a w))

-- many pins more
unfoldable pub joined_all : ℕ → ℕ → List ℕ → ℕ
joined_all k a [] = a
joined_all k a (w ∷ ws) = joined_all k (joined k a w) ws

-- what no pin joins to
abbrev pub unjoined : ℕ → ℕ
unjoined k = cond (ltb k 5) full 0

-- the word of a gate of kind k from its pins' words: the odd kinds ask, the even ones ask the opposite; a line that is tied joins no pin
unfoldable pub gate_word : ℕ → List ℕ → ℕ
gate_word k ws = let asked = joined_all k (unjoined k) ws in cond (eqb (k % 2) 1) asked (turned asked)

-- the good board under the 64 patterns from base on
abbrev pub words : ℕ → Rule
words base i k ws = cond (eqb k 0) (input_word base i) (gate_word k ws)

-- line l turned over, under one pattern and under 64
abbrev pub flipped : ℕ → ℕ → Rule
flipped l x = under (λ s v. 1 - v) (Having (Line l 0)) (good x)

abbrev pub flipped_words : ℕ → ℕ → Rule
flipped_words l base = under (λ s w. turned w) (Having (Line l 0)) (words base)

-- the faulty board under 64 patterns: what is held has the stuck value in every lane
abbrev pub faulty_words : Condition → ℕ → Rule
faulty_words φ base = under (λ s w. spread s) φ (words base)

-- under pattern x a change of line l is seen at some output
unfoldable pub seen : Board → ℕ → ℕ → Bool
seen b l x = somewhere (λ o. not (eqb (value (good x) b o) (value (flipped l x) b o))) b.outs

-- line i is an output
abbrev pub is_out : Board → ℕ → Bool
is_out b i = somewhere (eqb i) b.outs

-- the lanes in which two boards' words differ at some of the first n lines that pass a test
unfoldable pub apart_below : (ℕ → ℕ) → (ℕ → ℕ) → (ℕ → Bool) → ℕ → ℕ
apart_below g f t zero = 0
apart_below g f t (suc n) = bit_or (apart_below g f t n) (cond (t n) (bit_xor (g n) (f n)) 0)

-- eight words, each worked out from its number
abbrev pub each : (ℕ → ℕ) → List ℕ
each f = f 0 ∷ f 1 ∷ f 2 ∷ f 3 ∷ f 4 ∷ f 5 ∷ f 6 ∷ f 7 ∷ []

-- lane k of eight words
abbrev pub lane : List ℕ → ℕ → ℕ
lane e k = bit_of (get_or e (k / 64) 0) (k % 64)

-- eight words have the test's value in every lane
abbrev pub Lanes : List ℕ → (ℕ → Bool) → ℕ → Type 0
Lanes e t base = (k : ℕ) → k < 512 → lane e k ≡ bit (t (base + k))

-- the number in a book for the patterns below n alone
abbrev pub below : (ℕ → Bool) → ℕ → ℕ
below t n = entry (first t 0 n)
