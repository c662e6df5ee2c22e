-- The pass from the top down: a bit says that its line reaches that output, a line of an output has its own bit, and what the lines handed
-- down so far reach, the lines on their pins have. So a line that is above all lines still to hand theirs down has its whole number.
use mathlib.Core.Path.{◌≡◌, refl, ap, ◌∙◌}
use mathlib.Core.Logic.{inl, inr, ⊎_elim}
use mathlib.Core.List.{List, []}
use mathlib.Core.Bool.{true, false}
use Prim.Native.Nat.{ℕ, suc, ◌≤◌, ◌<◌, ◌^◌}
use native.Mathlib.Omega.{arith}
use lib.Dec.{eqb, ltb}
use lib.ListN.{length, get_or, get_or-eq_default}
use borrow.Author.Tests.{eqb-true, eqb-false, ltb-true, lt-ltb}
use Rattle.board.specs.Lists.{◌among◌, bit, build}
use Rattle.board.specs.Board.{Board, record_of, Low}
use Rattle.board.specs.Gate.{bit_of}
use Rattle.board.proofs.Lists.{way, clash, and_true, build-length, build_at, build_among, among_build}
use Rattle.board.proofs.Reach.{reach_self, by_readers}
use Rattle.reach.specs.Numbers.{reaches_output}
use Rattle.reach.specs.Inner.{HasBit, Handed}
use Rattle.reach.proofs.Laws.Bits.{bit_low, zero_bit, own_bit, only_bit}

-- the lines from i up have handed their numbers down
pub record PassedDown (b : Board) (i : ℕ) (now : List ℕ) : Type 0 where
  pub right : (l j : ℕ) → HasBit now l j → reaches_output b l j ≡ true
  pub own : (j : ℕ) → j < length b.outs → HasBit now (get_or b.outs j 0) j
  pub handed : (q l j : ℕ) → i ≤ q → l among (record_of b q).pins → reaches_output b q j ≡ true → HasBit now l j

module _ (b : Board) (low : Low b) where
  -- a line that reads l reaches no output that l does not reach
  handed_right : (q l j : ℕ) → l among (record_of b q).pins → reaches_output b q j ≡ true → reaches_output b l j ≡ true
  handed_right q l j m e =
      let (there, r) = and_true (ltb j (length b.outs)) _ e in
      rw there ((by_readers b low l (get_or b.outs j 0)).1 (inr (q, m, r)))

  module _ {i : ℕ} {now : List ℕ} (so : PassedDown b i now) where
    -- what reaches an output has its bit, where all that read it have handed theirs down
    has_all : (l j : ℕ) → i ≤ suc l → reaches_output b l j ≡ true → HasBit now l j
    has_all l j above e =
        let (there, r) = and_true (ltb j (length b.outs)) _ e in
        ⊎_elim
        (λ (same : get_or b.outs j 0 ≡ l). rw same at (so.own j (ltb-true j _ there)))
        (λ w. so.handed w.0 l j (omega (arith, low w.0 l w.1)) w.1 (rw there w.2))
        ((by_readers b low l (get_or b.outs j 0)).0 r)

    pub whole : (l j : ℕ) → i ≤ suc l → bit_of (get_or now l 0) j ≡ bit (reaches_output b l j)
    whole l j above =
        ⊎_elim
        (λ (e : reaches_output b l j ≡ true). rw e (has_all l j above e))
        (λ (e : reaches_output b l j ≡ false).
        let no : bit_of (get_or now l 0) j ≡ 1 → ⊥ = λ h. clash (reaches_output b l j) (so.right l j h) e in
        rw e (omega (arith, no, bit_low (get_or now l 0) j)))
        (way (reaches_output b l j))

  -- one line more
  pub passed_more : {i : ℕ} {now later : List ℕ} {to : ℕ → ℕ} {m : ℕ} → (record_of b i).pins ≡ build (λ k before. to k) m → PassedDown b (suc i) now
      → Handed to (λ k. get_or now i 0) m now later → PassedDown b i later
  passed_more {i} {to = to} {m} pins so gave = record {
    right =
        λ l j h.
        ⊎_elim (so.right l j) (λ w. handed_right i l j (rw (pins, w.2) (build_among (λ k before. to k) m w.0 w.1)) (so.right i j w.3)) ((gave.has l j).0 h);
    own = λ j l. (gave.has _ j).1 (inl (so.own j l));
    handed =
        λ q l j above reads e.
        ⊎_elim
        (λ (t : eqb q i ≡ true).
        let same = eqb-true q i t in
        let (k, few, at) = among_build (λ k before. to k) m l (rw (same, pins) at reads) in
        (gave.has l j).1 (inr (k, few, at, has_all so i j (omega arith) (rw same at e))))
        (λ (t : eqb q i ≡ false). (gave.has l j).1 (inl (so.handed q l j (omega (arith, eqb-false q i t)) reads e)))
        (way (eqb q i));
  }

  -- none yet: each line of an output has its own bit
  pub passed_none : {bare now : List ℕ} {to : ℕ → ℕ} {m : ℕ} → b.outs ≡ build (λ k before. to k) m → ((l : ℕ) → get_or bare l 0 ≡ 0)
      → Handed to (λ j. 2 ^ j) m bare now → PassedDown b (length b.lines) now
  passed_none {bare} {to = to} {m} outs none_yet gave =
      let size : length b.outs ≡ m = ap length outs ∙ build-length (λ k before. to k) m in
      let out : (k : ℕ) → k < m → get_or b.outs k 0 ≡ to k = λ k few. ap (λ (os : List ℕ). get_or os k 0) outs ∙ build_at (λ k before. to k) m k few in
      record {
        right =
            λ l j h.
            ⊎_elim
            (λ (old : bit_of (get_or bare l 0) j ≡ 1).
            let none : bit_of (get_or bare l 0) j ≡ 0 = rw (none_yet l) (zero_bit j) in
            absurd (omega (arith, none, old)))
            (λ w. let (k, few, at, e) = w in rw (only_bit k j e, size, lt-ltb k m few, out k few, ← at) (reach_self b low l))
            ((gave.has l j).0 h);
        own = λ j l. let few = rw size at l in rw (out j few) ((gave.has (to j) j).1 (inr (j, few, refl, own_bit j)));
        handed = λ q l j above reads e. absurd (rw (get_or-eq_default b.lines (record { kind = 0; pins = [] }) above) at reads);
      }
