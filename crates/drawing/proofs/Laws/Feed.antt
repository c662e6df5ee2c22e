-- A statement's text is one line, so that a text begins with one statement only.
use mathlib.Core.Path.{◌≡◌, refl, sym, ap, ◌∙◌}
use mathlib.Core.Logic.{⊎_elim}
use mathlib.Core.Bool.{Bool, true, false, not, cond, ◌&&◌}
use mathlib.Core.List.{List, [], ◌∷◌, ◌++◌, append_assoc, append-nil}
use Prim.Native.Nat.{ℕ, ◌+◌, ◌-◌, ◌≤◌, ◌<◌}
use native.Mathlib.Omega.{arith}
use lib.Dec.{T, eqb, ltb}
use lib.ListN.{length, get_or, take}
use mir.Facts.{and_yes}
use borrow.Author.Tests.{eqb-false, ltb-true, ltb-false}
use Rattle.board.specs.Lists.{text, same}
use Rattle.board.specs.Limits.{last_kind}
use Rattle.board.specs.Fine.{first_tie}
use Rattle.board.proofs.Lists.{way, same_is}
use Rattle.text.specs.Text.{decimal}
use Rattle.drawing.specs.Inner.{piece_forms, piece, pins_rest, Statement, input, output, gate, section, Sound, an_input, an_output, a_gate, statement_text}
use Rattle.drawing.proofs.Laws.Decimal.{Digits, no_more, one_more, decimal_digits}
use Rattle.drawing.proofs.Laws.Pieces.{at_each}
use Rattle.drawing.proofs.Laws.WriteGate.{input_text_lem}
use Rattle.drawing.proofs.Laws.Statements.{output_is, gate_is}

-- no byte of it is the line feed, 10
data Free : List ℕ → Type 0 where
  nothing : Free []
  then : (c : ℕ) (cs : List ℕ) → (c ≡ 10 → ⊥) → Free cs → Free (c ∷ cs)

free_both : {a b : List ℕ} → Free a → Free b → Free (a ++ b)
free_both nothing f = f
free_both {b = b} (then c cs other more) f = then c (cs ++ b) other (free_both more f)

-- as a test, to be computed
abbrev free : List ℕ → Bool
free [] = true
free (c ∷ cs) = not (eqb c 10) && free cs

free_is : (l : List ℕ) → T (free l) → Free l
free_is [] t = nothing
free_is (c ∷ cs) t = let (here, more) = and_yes (not (eqb c 10)) (free cs) t in then c cs (eqb-false c 10 (off (eqb c 10) here)) (free_is cs more)
  where
    off : (b : Bool) → T (not b) → b ≡ false
    off true h = absurd h
    off false h = refl

-- digits have none
digits_free : {l : List ℕ} → Digits l → Free l
digits_free no_more = nothing
digits_free (one_more c cs digit more) = then c cs (λ e. omega arith) (digits_free more)

decimal_free : (n : ℕ) → Free (decimal n)
decimal_free n = digits_free (decimal_digits n)

-- a text that ends with its only line feed
abbrev Line : List ℕ → Type 0
Line l = (body : List ℕ) × Free body × (l ≡ body ++ (10 ∷ []))

line_behind : {a l : List ℕ} → Free a → Line l → Line (a ++ l)
line_behind {a} f (body, g, e) = (a ++ body, free_both f g, ap (λ (z : List ℕ). a ++ z) e ∙ sym (append_assoc a body (10 ∷ [])))

-- two texts that begin with a line begin with the same one, where they are the same
free_split : {a b : List ℕ} (x y : List ℕ) → Free a → Free b → a ++ 10 ∷ x ≡ b ++ 10 ∷ y → (a ≡ b) × (x ≡ y)
free_split x y nothing nothing e = (refl, cc)
free_split x y nothing (then c cs other more) e = let here : c ≡ 10 = cc in absurd (other here)
free_split x y (then c cs other more) nothing e = let here : c ≡ 10 = cc in absurd (other here)
free_split x y (then c cs other more) (then d ds another rest) e =
    let here : c ≡ d = cc in
    let (same, after) = free_split x y more rest (cc) in
    (cc, after)

line_split : {l m : List ℕ} (u v : List ℕ) → Line l → Line m → l ++ u ≡ m ++ v → (l ≡ m) × (u ≡ v)
line_split {l} {m} u v (a, f, is) (b, g, so) e =
    let (same, after) = free_split u v f g (sym (append_assoc a (10 ∷ []) u) ∙ sym (ap (λ (z : List ℕ). z ++ u) is) ∙ e ∙ ap (λ (z : List ℕ). z ++ v) so ∙ append_assoc b (10 ∷ []) v) in
    (is ∙ ap (λ (z : List ℕ). z ++ (10 ∷ [])) same ∙ sym so, after)

-- the pieces: what closes a statement is a line, and the others have no line feed
close_line : Line (piece 3 0)
unfolding piece piece_forms
close_line = (text ")", free_is _ tt, refl)

name_free : (k : ℕ) → Free (piece 2 k)
unfolding piece piece_forms
name_free k = free_both (free_is (text "n") tt) (free_both (decimal_free k) (free_is (text " = ") tt))

output_free : (k : ℕ) → Free (piece 1 k)
unfolding piece piece_forms
output_free k = free_is _ tt

word_free : (which : ℕ) → which < first_tie → Free (piece (4 + which) 0)
unfolding piece piece_forms
word_free which h = free_is _ (at_each (λ j. free (piece (4 + j) 0)) first_tie tt which h)

-- the word of a tie is a line too
tie_word : ℕ → List ℕ
tie_word which = take 6 (piece (4 + which) 0)

tie_line : (which : ℕ) → first_tie ≤ which → which ≤ last_kind → Line (piece (4 + which) 0)
unfolding piece piece_forms tie_word same
tie_line which low high =
    let j = which - first_tie in
    let is : first_tie + j ≡ which = omega arith in
    let line : Line (piece (4 + (first_tie + j)) 0) = (
      tie_word (first_tie + j),
      free_is _ (at_each (λ k. free (tie_word (first_tie + k))) 2 tt j (omega arith)),
      same_is _ _ (at_each (λ k. same (piece (4 + (first_tie + k)) 0) (tie_word (first_tie + k) ++ (10 ∷ []))) 2 tt j (omega arith)),
    ) in
    rw is at line

input_line : (k : ℕ) → Line (piece 0 k)
unfolding piece piece_forms
input_line k = line_behind (free_is (text "INPUT(n") tt) (line_behind (decimal_free k) close_line)

pins_line : (ps : List ℕ) → 1 ≤ length ps → Line (pins_rest ps)
pins_line [] h = absurd (omega arith)
pins_line (p ∷ []) h = line_behind (decimal_free p) close_line
pins_line (p ∷ q ∷ qs) h = line_behind (free_both (decimal_free p) (word_free 0 (omega arith))) (pins_line (q ∷ qs) (omega arith))

-- each statement's text is one line
text_line : (k : ℕ) (st : Statement) → Sound st → Line (statement_text k st)
text_line k input an_input = rw input_text_lem (input_line k)
text_line k (output o) (an_output few) = rw (output_is k o) (line_behind (output_free k) (line_behind (decimal_free o) close_line))
text_line k (gate g) (a_gate w) =
    rw (gate_is k g w)
    (line_behind (name_free k)
    (⊎_elim
    (λ e. let low = ltb-true g.kind first_tie e in line_behind (word_free g.kind low) (pins_line g.pins (w.some_pin low)))
    (λ e.
    let tied = ltb-false g.kind first_tie e in
    rw (w.no_pin tied, append-nil) (tie_line g.kind tied w.a_word))
    (way (ltb g.kind first_tie))))

-- and its first byte, I, O or n, tells its section
abbrev section_by : List ℕ → ℕ
section_by l = cond (eqb (get_or l 0 0) 73) 0 (cond (eqb (get_or l 0 0) 79) 1 2)

section_by_lem : (k : ℕ) (st : Statement) → Sound st → section_by (statement_text k st) ≡ section st
unfolding piece piece_forms
section_by_lem k input an_input = rw input_text_lem
section_by_lem k (output o) (an_output few) = rw (output_is k o)
section_by_lem k (gate g) (a_gate w) = rw (gate_is k g w)

-- so a text begins with one statement only
pub statement_split : (k : ℕ) (st other : Statement) (u v : List ℕ) → Sound st → Sound other → statement_text k st ++ u ≡ statement_text k other ++ v
    → (statement_text k st ≡ statement_text k other) × (u ≡ v) × (section st ≡ section other)
statement_split k st other u v sound also e =
    let (same, after) = line_split u v (text_line k st sound) (text_line k other also) e in
    (same, after, sym (section_by_lem k st sound) ∙ ap section_by same ∙ section_by_lem k other also)
