-- One pin more, and an input's word: the steps of the code that works words out, over plain variables.
use mathlib.Core.Path.{◌≡◌, ◌∙◌}
use mathlib.Core.List.{List}
use Prim.Native.Nat.{ℕ, ◌+◌, ◌%◌, ◌≤◌, ◌<◌}
use native.Mathlib.Numerals.{add-one}
use lib.Bits.{bit_and, bit_or, bit_xor}
use lib.ListN.{length, get_or, drop, drop_of_length-le}
use lib.Seq.{drop-cons}
use borrow.Author.Tests.{lt-ltb, le-ltb, eq-eqb, ne_eqb}
use Rattle.board.specs.Gate.{bit_of}
use Rattle.lanes.specs.Words.{turned, masks, spread, input_word, joined, joined_all, unjoined, gate_word}

module _ (k a w : ℕ) where
  pub joins_all : k < 5 → bit_and a w ≡ joined k a w
  unfolding joined
  joins_all l = rw (lt-ltb k 5 l)

  pub joins_some : 5 ≤ k → k < 7 → bit_or a w ≡ joined k a w
  unfolding joined
  joins_some l m = rw (le-ltb k 5 l, lt-ltb k 7 m)

  pub joins_odd : 5 ≤ k → 7 ≤ k → bit_xor a w ≡ joined k a w
  unfolding joined
  joins_odd l m = rw (le-ltb k 5 l, le-ltb k 7 m)

-- an input's word
module _ (base i : ℕ) where
  pub input_low : i < 6 → get_or masks i 0 ≡ input_word base i
  unfolding input_word
  input_low l = rw (lt-ltb i 6 l)

  pub input_high : 6 ≤ i → spread (bit_of base i) ≡ input_word base i
  unfolding input_word
  input_high l = rw (le-ltb i 6 l)

-- what is left to join gives the same in the end, one pin more
pub joined_next : (k a v : ℕ) (ws : List ℕ) (j end : ℕ) → j < length ws → v ≡ get_or ws j 0 → joined_all k a (drop j ws) ≡ end
    → joined_all k (joined k a v) (drop (j + 1) ws) ≡ end
unfolding joined_all
joined_next k a v ws j end l e h = rw (add-one, e) (rw (drop-cons ws j 0 l) at h)

pub joined_end : (k a : ℕ) (ws : List ℕ) (j end : ℕ) → length ws ≤ j → joined_all k a (drop j ws) ≡ end → a ≡ end
unfolding joined_all
joined_end k a ws j end l h = rw (drop_of_length-le ws l) at h

-- what all pins join to is the gate's word, or its opposite
pub gate-asks : (k a : ℕ) (ws : List ℕ) → k % 2 ≡ 1 → a ≡ joined_all k (unjoined k) ws → a ≡ gate_word k ws
unfolding gate_word
gate-asks k a ws e h = h ∙ rw (eq-eqb (k % 2) 1 e)

pub gate_turns : (k a : ℕ) (ws : List ℕ) → (k % 2 ≡ 1 → ⊥) → a ≡ joined_all k (unjoined k) ws → turned a ≡ gate_word k ws
unfolding gate_word
gate_turns k a ws ne h = rw (ne_eqb (k % 2) 1 ne, h)
