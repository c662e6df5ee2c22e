-- What may follow the statements read so far: every text of the form that shares them goes on with such.
use mathlib.Core.Path.{◌≡◌, refl, ap, ◌∙◌}
use mathlib.Core.Logic.{inl, inr}
use mathlib.Core.Bool.{cond}
use mathlib.Core.List.{List, [], ◌∷◌, ◌++◌, append_assoc}
use Prim.Native.Nat.{ℕ, suc, ◌+◌, ◌≤◌, ◌<◌}
use native.Mathlib.Nat.{add-suc, suc-add, add-zero, zero-add}
use native.Mathlib.Omega.{arith}
use lib.Dec.{eqb, lit≤}
use lib.ListN.{length, get_or, take, drop, length-append, length-drop}
use lib.Seq.{length-take-le, get_or-take, get_or-drop}
use borrow.Author.Tests.{eq-eqb, ne_eqb}
use Rattle.board.specs.Lists.{◌among◌}
use Rattle.board.specs.Board.{Record, Board, inputs}
use Rattle.text.specs.Text.{each}
use Rattle.drawing.specs.Form.{output_text, lines_text, text_of, last_number, Worded, Drawn}
use Rattle.drawing.specs.Inner.{bare, Statement, input, output, gate, section, Sound, an_input, an_output, a_gate, statement_text}
use Rattle.drawing.proofs.Laws.WriteText.{leads, leading_few}
use Rattle.drawing.proofs.Laws.Lines.{text_some}
use Rattle.drawing.proofs.Laws.Feed.{statement_split}

-- the number of the next input or gate behind a statement
abbrev pub after : ℕ → Statement → ℕ
after k st = cond (eqb (section st) 1) k (suc k)

-- the texts of statements from a section on, numbered on from k
pub data Tail : ℕ → ℕ → List ℕ → Type 0 where
  done : {from k : ℕ} → Tail from k []
  more : {from k : ℕ} {u : List ℕ} (st : Statement) → from ≤ section st → Sound st → Tail (section st) (after k st) u → Tail from k (statement_text k st ++ u)

pub tail_earlier : {from to k : ℕ} {u : List ℕ} → from ≤ to → Tail to k u → Tail from k u
tail_earlier l done = done
tail_earlier {from} l (more st low sound tail) = let early : from ≤ section st = omega arith in more st early sound tail

-- behind a statement
pub tail_behind : (from k : ℕ) (st : Statement) (v : List ℕ) → Sound st → Tail from k (statement_text k st ++ v) → Tail (section st) (after k st) v
tail_behind from k st v sound tail = go (statement_text k st ++ v) tail refl
  where
    go : (w : List ℕ) → Tail from k w → w ≡ statement_text k st ++ v → Tail (section st) (after k st) v
    go w done e = let some_byte = text_some k st sound in let long = ap length e ∙ length-append (statement_text k st) v in absurd (omega arith)
    go w (more {u = u} other low well rest) e =
        let (same, behind, sections) = statement_split k other st u v well sound e in
        rw behind at (rw sections at rest)

-- gates, outputs and inputs of a board
gates_tail : (i : ℕ) (rs : List Record) → ((j : ℕ) → j < length rs → Worded (get_or rs j bare)) → Tail 2 i (lines_text i rs)
unfolding lines_text
gates_tail i [] all = done
gates_tail i (r ∷ rs) all =
    let w = all 0 (omega arith) in
    let a-kind = w.a_gate in
    rw (ne_eqb r.kind 0 (λ e. omega arith)) (more (gate r) (lit≤ tt) (a_gate w) (gates_tail (suc i) rs (λ j l. all (suc j) (omega arith))))

outputs_tail : (k : ℕ) (os u : List ℕ) → ((o : ℕ) → o among os → o ≤ last_number) → Tail 2 k u → Tail 1 k (each output_text os ++ u)
unfolding each
outputs_tail k [] u few tail = tail_earlier (lit≤ tt) tail
outputs_tail k (o ∷ os) u few tail =
    rw append_assoc (more (output o) (lit≤ tt) (an_output (few o (inl refl))) (outputs_tail k os u (λ p there. few p (inr there)) tail))

inputs_tail : (i : ℕ) (rs : List Record) (u : List ℕ) → ((j : ℕ) → j < length rs → (get_or rs j bare).kind ≡ 0) → Tail 1 (i + length rs) u → Tail 0 i (lines_text i rs ++ u)
unfolding lines_text
inputs_tail i [] u all tail = tail_earlier (lit≤ tt) (rw add-zero at tail)
inputs_tail i (r ∷ rs) u all tail =
    rw (eq-eqb r.kind 0 (all 0 (omega arith)), append_assoc)
    (more input (lit≤ tt) an_input (inputs_tail (suc i) rs u (λ j l. all (suc j) (omega arith)) (rw (add-suc, ← suc-add) at tail)))

-- a text of the form
pub tail_of : (b : Board) → Drawn b → Tail 0 0 (text_of b)
unfolding text_of
tail_of b drawn =
    let n = inputs b in
    let few = leading_few b.lines in
    let front : length (take n b.lines) ≡ n = length-take-le n b.lines few in
    let size = length-drop n b.lines in
    let gates = gates_tail n (drop n b.lines) (λ j l. rw get_or-drop (drawn.worded (n + j) (omega arith) (omega arith))) in
    let whole = inputs_tail 0 (take n b.lines) (each output_text b.outs ++ lines_text n (drop n b.lines))
    (λ j l. rw (get_or-take n b.lines j bare (omega arith)) (leads b.lines j bare (omega arith)))
    (rw (zero-add, front) (outputs_tail n b.outs (lines_text n (drop n b.lines)) drawn.numbers gates)) in
    rw append_assoc whole
