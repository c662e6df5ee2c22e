-- A board's text is its statements, one after the other.
use mathlib.Core.Path.{◌≡◌, refl, sym, ap, ◌∙◌}
use mathlib.Core.Logic.{⊎_elim}
use mathlib.Core.Bool.{true, false}
use mathlib.Core.List.{List, [], ◌∷◌, ◌++◌, append_assoc, append-nil}
use Prim.Native.Nat.{ℕ, zero, suc, ◌+◌, ◌-◌, ◌≤◌, ◌<◌}
use native.Mathlib.Nat.{not-suc-le-zero, le_of_suc-le-suc, add-zero, zero-add}
use native.Mathlib.Omega.{arith}
use lib.Dec.{eqb}
use lib.ListN.{length, get_or, take, drop, length-append, length-drop, take-append-drop, drop_of_length-le}
use lib.Seq.{drop-cons, drop-drop, take-length, take-append_seam, drop-append-add, drop-append-le}
use borrow.Author.Tests.{lt-ltb, le-ltb, eq-eqb, ne_eqb, eqb-true}
use Rattle.board.specs.Board.{Record, Board, record_of, leading, inputs}
use Rattle.board.proofs.Lists.{way}
use Rattle.text.specs.Text.{each}
use Rattle.drawing.specs.Form.{input_text, output_text, gate_text, lines_text, text_of, Drawn}
use Rattle.drawing.specs.Calls.{in_front}
use Rattle.drawing.specs.Statements.{statement_of, statements}

-- the lines that lead are inputs, and are lines
pub leads : (rs : List Record) (i : ℕ) (d : Record) → i < leading rs → (get_or rs i d).kind ≡ 0
leads [] i d h = absurd (not-suc-le-zero h)
leads (r ∷ rs) zero d h =
    ⊎_elim (λ e. eqb-true r.kind 0 e) (λ (e : eqb r.kind 0 ≡ false). absurd (not-suc-le-zero (rw e at h))) (way (eqb r.kind 0))
leads (r ∷ rs) (suc i) d h =
    ⊎_elim
    (λ (e : eqb r.kind 0 ≡ true). leads rs i d (le_of_suc-le-suc (rw e at h)))
    (λ (e : eqb r.kind 0 ≡ false). absurd (not-suc-le-zero (rw e at h)))
    (way (eqb r.kind 0))

pub leading_few : (rs : List Record) → leading rs ≤ length rs
leading_few [] = omega arith
leading_few (r ∷ rs) =
    ⊎_elim
    (λ (e : eqb r.kind 0 ≡ true). rw e (omega (arith, leading_few rs)))
    (λ (e : eqb r.kind 0 ≡ false). rw e (omega arith))
    (way (eqb r.kind 0))

-- m statements and n more
pub statements-on : (b : Board) (j m n : ℕ) → statements b j (m + n) ≡ statements b j m ++ statements b (j + m) n
unfolding statements
statements-on b j zero n = rw (zero-add, add-zero)
statements-on b j (suc m) n =
    let e : suc m + n ≡ suc (m + n) = omega arith in
    let f : j + suc m ≡ suc j + m = omega arith in
    rw (e, f, statements-on b (suc j) m n) (sym (append_assoc (statement_of b j) _ _))

-- one statement more, and none is longer than all
pub statements_end : (b : Board) (j : ℕ) → statements b 0 (j + 1) ≡ statements b 0 j ++ statement_of b j
unfolding statements
statements_end b j =
    let from : 0 + j ≡ j = omega arith in
    statements-on b 0 j 1 ∙ rw (from, append-nil)

pub statements_room : (b : Board) (j n : ℕ) → j < n → length (statements b 0 j) + length (statement_of b j) ≤ length (statements b 0 n)
statements_room b j n h =
    let all : n ≡ j + 1 + (n - (j + 1)) = omega arith in
    let long = ap (λ (k : ℕ). length (statements b 0 k)) all ∙ ap length (statements-on b 0 (j + 1) (n - (j + 1))) in
    omega (arith, simp (length-append, statements_end b j) at long)

-- what a part of a target holds, put behind its first bytes
pub added : (out part src : List ℕ) (at k : ℕ) → length src ≤ length (take k (drop at out)) → part ≡ take (length src) src ++ drop (length src) (take k (drop at out))
    → take at out ++ (part ++ drop k (drop at out)) ≡ take at out ++ src ++ drop (at + length src) out
added out part src at k room e =
    let mid : List ℕ = take k (drop at out) in
    let post : List ℕ = drop k (drop at out) in
    let n : ℕ = length src in
    let rest : drop n mid ++ post ≡ drop (at + n) out = sym (drop-append-le n mid post room) ∙ ap (λ (l : List ℕ). drop n l) (take-append-drop k (drop at out)) ∙ drop-drop n at out in
    rw (e, take-length src, append_assoc src (drop n mid) post, rest) (sym (append_assoc (take at out) src (drop (at + n) out)))

-- one text more in front of a target
pub put_next : (made st target : List ℕ) → take (length made) (in_front made target) ++ st ++ drop (length made + length st) (in_front made target) ≡ in_front (made ++ st) target
put_next made st target =
    rw (take-append_seam made (drop (length made) target), drop-append-add made (drop (length made) target) (length st), drop-drop (length st) (length made) target, length-append made st)

pub put_length : (made target : List ℕ) → length made ≤ length target → length (in_front made target) ≡ length target
put_length made target h = simp (length-append, length-drop) (omega arith)

module _ (b : Board) where
  -- the statement of an input, of an output, and of a gate
  pub input_statement : (j : ℕ) → j < inputs b → statement_of b j ≡ input_text j
  unfolding statement_of
  input_statement j h = rw (lt-ltb j (inputs b) h)

  pub output_statement : (j : ℕ) → inputs b ≤ j → j < inputs b + length b.outs → statement_of b j ≡ output_text (get_or b.outs (j - inputs b) 0)
  unfolding statement_of
  output_statement j past h = rw (le-ltb j (inputs b) past, lt-ltb j (inputs b + length b.outs) h)

  pub gate_statement : (j : ℕ) → inputs b + length b.outs ≤ j → statement_of b j ≡ gate_text (j - length b.outs) (record_of b (j - length b.outs))
  unfolding statement_of
  gate_statement j past = rw (le-ltb j (inputs b) (omega arith), le-ltb j (inputs b + length b.outs) past)

  inputs-part : (n j : ℕ) → j + n ≤ inputs b → lines_text j (take n (drop j b.lines)) ≡ statements b j n
  unfolding statements lines_text
  inputs-part zero j h = refl
  inputs-part (suc n) j h =
      let l : j < inputs b = omega arith in
      let inside : j < length b.lines = omega (arith, leading_few b.lines) in
      rw (drop-cons b.lines j (record { kind = 0; pins = [] }) inside, eq-eqb _ 0 (leads b.lines j (record { kind = 0; pins = [] }) l), inputs-part n (suc j) (omega arith), input_statement j l)

  outputs_part : (n j : ℕ) → j + n ≡ length b.outs → each output_text (drop j b.outs) ≡ statements b (inputs b + j) n
  unfolding statements each
  outputs_part zero j h = rw (drop_of_length-le b.outs {i = j} (omega arith))
  outputs_part (suc n) j h =
      let l : j < length b.outs = omega arith in
      let f : suc (inputs b + j) ≡ inputs b + suc j = omega arith in
      let e : inputs b + j - inputs b ≡ j = omega arith in
      rw (drop-cons b.outs j 0 l, outputs_part n (suc j) (omega arith), output_statement (inputs b + j) (omega arith) (omega arith), e, f)

  module _ (drawn : Drawn b) where
    gates_part : (n j : ℕ) → j + n ≡ length b.lines → inputs b ≤ j → lines_text j (drop j b.lines) ≡ statements b (j + length b.outs) n
    unfolding statements lines_text
    gates_part zero j h past = rw (drop_of_length-le b.lines {i = j} (omega arith))
    gates_part (suc n) j h past =
        let inside : j < length b.lines = omega arith in
        let f : suc (j + length b.outs) ≡ suc j + length b.outs = omega arith in
        let e : j + length b.outs - length b.outs ≡ j = omega arith in
        let gate = (drawn.worded j past inside).a_gate in
        rw (drop-cons b.lines j (record { kind = 0; pins = [] }) inside, ne_eqb (record_of b j).kind 0 (omega arith), gates_part n (suc j) (omega arith) (omega arith), gate_statement (j + length b.outs) (omega arith), e, f)

    -- all statements are the text
    pub all_statements : text_of b ≡ statements b 0 (length b.lines + length b.outs)
    unfolding text_of
    all_statements =
        let ins : ℕ = inputs b in
        let outs : ℕ = length b.outs in
        let gates : ℕ = length b.lines - ins in
        let few = leading_few b.lines in
        let split : length b.lines + outs ≡ ins + (outs + gates) = omega arith in
        let start : ins + 0 ≡ ins = omega arith in
        let from : 0 + ins ≡ ins = omega arith in
        rw (split, statements-on b 0 ins (outs + gates), from, statements-on b ins outs gates, inputs-part ins 0 (omega arith), rw start at (outputs_part outs 0 (omega arith)), gates_part gates ins (omega arith) (omega arith)) (append_assoc (statements b 0 ins) (statements b ins outs) (statements b (ins + outs) gates))
