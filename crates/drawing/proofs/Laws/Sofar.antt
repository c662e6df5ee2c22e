-- The board that the statements read so far draw: one statement more adds its line or its output, and its text.
use mathlib.Core.Path.{◌≡◌, refl, sym, ap, ◌∙◌}
use mathlib.Core.Logic.{⊎_elim, ◌⊎◌, inl, inr}
use mathlib.Core.Bool.{true, false, cond}
use mathlib.Core.List.{List, [], ◌∷◌, ◌++◌, append_assoc, append-nil}
use Prim.Native.Nat.{ℕ, suc, ◌+◌, ◌≤◌, ◌<◌}
use native.Mathlib.Nat.{add-suc, suc-add, add-zero}
use native.Mathlib.Omega.{arith}
use lib.Dec.{eqb, ltb}
use lib.ListN.{length, get_or, drop, length-append, length-drop, get_or-append}
use lib.Seq.{take-length, drop-length, take-append-le, drop-append-le, get_or-append_seam}
use borrow.Author.Tests.{ltb-true, ltb-false, ne_eqb}
use Rattle.board.specs.Lists.{◌among◌}
use Rattle.board.specs.Board.{Record, Board, leading, inputs}
use Rattle.board.proofs.Lists.{way}
use Rattle.text.specs.Text.{each}
use Rattle.drawing.specs.Form.{input_text, output_text, gate_text, lines_text, text_of, last_number, Worded}
use Rattle.drawing.specs.Inner.{input, output, gate, bare, add, Sofar}
use Rattle.drawing.proofs.Laws.WriteText.{leading_few}

-- texts of one line more, and of one output more
lines_end : (i : ℕ) (rs : List Record) (r : Record) → lines_text i (rs ++ (r ∷ [])) ≡ lines_text i rs ++ lines_text (i + length rs) (r ∷ [])
unfolding lines_text
lines_end i [] r = rw add-zero
lines_end i (q ∷ rs) r = rw (lines_end (suc i) rs r, add-suc, suc-add) (simp append_assoc)

pub each_end : (f : ℕ → List ℕ) (os : List ℕ) (o : ℕ) → each f (os ++ (o ∷ [])) ≡ each f os ++ f o
unfolding each
each_end f [] o = append-nil (f o)
each_end f (p ∷ os) o = rw (each_end f os o) (sym (append_assoc (f p) (each f os) (f o)))

-- inputs lead, and a gate ends them
leading_input : (rs : List Record) → leading rs ≡ length rs → leading (rs ++ (bare ∷ [])) ≡ suc (length rs)
leading_input [] e = refl
leading_input (r ∷ rs) e =
    ⊎_elim
    (λ (t : eqb r.kind 0 ≡ true).
    let more : suc (leading rs) ≡ suc (length rs) = rw t at e in
    rw t (ap suc (leading_input rs (omega arith))))
    (λ (t : eqb r.kind 0 ≡ false). let none-lead : 0 ≡ suc (length rs) = rw t at e in absurd (omega arith))
    (way (eqb r.kind 0))

leading-gate : (rs : List Record) (g : Record) → (g.kind ≡ 0 → ⊥) → leading (rs ++ (g ∷ [])) ≡ leading rs
leading-gate [] g other = rw (ne_eqb g.kind 0 other)
leading-gate (r ∷ rs) g other = ap (λ (n : ℕ). cond (eqb r.kind 0) (suc n) 0) (leading-gate rs g other)

-- the record of a line with one more behind, and that one's
record_early : (rs : List Record) (r d : Record) (i : ℕ) → i < length rs → get_or (rs ++ (r ∷ [])) i d ≡ get_or rs i d
record_early rs r d i l = get_or-append rs (r ∷ []) d i l

record_last : (rs : List Record) (r d : Record) (i : ℕ) → i ≡ length rs → get_or (rs ++ (r ∷ [])) i d ≡ r
record_last rs r d i e = rw e (get_or-append_seam rs r [] d)

-- one number more in a list
among_end : (p o : ℕ) (os : List ℕ) → p among (os ++ (o ∷ [])) → (p among os) ⊎ (p ≡ o)
among_end p o [] (inl e) = inr e
among_end p o [] (inr later) = elim later [ ]
among_end p o (q ∷ os) (inl e) = inl (inl e)
among_end p o (q ∷ os) (inr later) = ⊎_elim (λ there. inl (inr there)) (λ e. inr e) (among_end p o os later)

-- the text of a board without gates, and of one line
lines_only : (b : Board) → inputs b ≡ length b.lines → text_of b ≡ lines_text 0 b.lines ++ each output_text b.outs
unfolding text_of lines_text
lines_only b e = rw (e, take-length, drop-length) (append-nil (lines_text 0 b.lines ++ each output_text b.outs))

input_line : (i : ℕ) → lines_text i (bare ∷ []) ≡ input_text i
unfolding lines_text
input_line i = append-nil (input_text i)

gate_line : (i : ℕ) (g : Record) → (g.kind ≡ 0 → ⊥) → lines_text i (g ∷ []) ≡ gate_text i g
unfolding lines_text
gate_line i g other = rw (ne_eqb g.kind 0 other) (append-nil (gate_text i g))

module _ (from : ℕ) (b : Board) (so : Sofar from b) where
  pub input_more : from ≤ 0 → Sofar 0 (add b input) × (text_of (add b input) ≡ text_of b ++ input_text (length b.lines))
  unfolding each
  input_more first =
      let n = length b.lines in
      let all = so.no_gate (omega arith) in
      let none_out = so.no_output (omega arith) in
      let long : length (b.lines ++ (bare ∷ [])) ≡ suc n = rw length-append (omega arith) in
      let lead : inputs (add b input) ≡ suc n = leading_input b.lines all in
      let from-0 : 0 + n ≡ n = omega arith in (
        record {
          drawn = record {
            bare = λ i l.
                ⊎_elim
                (λ early. let here = ltb-true i n early in rw (record_early b.lines bare bare i here) (so.drawn.bare i (omega arith)))
                (λ late. let here = ltb-false i n late in rw (record_last b.lines bare bare i (omega arith)) refl)
                (way (ltb i n));
            worded = λ i low high. absurd (omega arith);
            numbers = so.drawn.numbers;
          };
          no_output = λ e. none_out;
          no_gate = λ l. lead ∙ sym long;
        },
        lines_only (add b input) (lead ∙ sym long) ∙ rw (lines_only b all, none_out, lines_end 0 b.lines bare, from-0, input_line n) (simp append-nil),
      )

  pub output_more : (o : ℕ) → from ≤ 1 → o ≤ last_number → Sofar 1 (add b (output o)) × (text_of (add b (output o)) ≡ text_of b ++ output_text o)
  output_more o early few =
      let all = so.no_gate early in (
        record {
          drawn = record {
            bare = so.drawn.bare;
            worded = so.drawn.worded;
            numbers = λ p there. ⊎_elim (λ old. so.drawn.numbers p old) (λ e. rw e few) (among_end p o b.outs there);
          };
          no_output = λ e. absurd (omega arith);
          no_gate = λ l. all;
        },
        lines_only (add b (output o)) all ∙ rw (lines_only b all, each_end output_text b.outs o) (sym (append_assoc (lines_text 0 b.lines) (each output_text b.outs) (output_text o))),
      )

  pub gate_more : (g : Record) → Worded g → Sofar 2 (add b (gate g)) × (text_of (add b (gate g)) ≡ text_of b ++ gate_text (length b.lines) g)
  unfolding text_of
  gate_more g w =
      let n = inputs b in
      let m = length b.lines in
      let a_gate = w.a_gate in
      let few = leading_few b.lines in
      let other : g.kind ≡ 0 → ⊥ = λ e. omega arith in
      let long : length (b.lines ++ (g ∷ [])) ≡ suc m = rw length-append (omega arith) in
      let lead : inputs (add b (gate g)) ≡ n = leading-gate b.lines g other in
      let size = length-drop n b.lines in
      let last : n + length (drop n b.lines) ≡ m = omega arith in (
        record {
          drawn = record {
            bare = λ i l. rw (record_early b.lines g bare i (omega arith)) (so.drawn.bare i (omega arith));
            worded = λ i low high.
                ⊎_elim
                (λ early. let here = ltb-true i m early in rw (record_early b.lines g bare i here) (so.drawn.worded i (omega arith) here))
                (λ late. let here = ltb-false i m late in rw (record_last b.lines g bare i (omega arith)) w)
                (way (ltb i m));
            numbers = so.drawn.numbers;
          };
          no_output = λ e. absurd (omega arith);
          no_gate = λ l. absurd (omega arith);
        },
        rw (lead, take-append-le n b.lines (g ∷ []) few, drop-append-le n b.lines (g ∷ []) few, lines_end n (drop n b.lines) g, last, gate_line m g other) (simp append_assoc),
      )
