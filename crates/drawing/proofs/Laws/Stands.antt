-- Where the reader stands: the board that was read so far, and what may follow. One statement more, the end, and where a text departs.
use mathlib.Core.Path.{◌≡◌, refl, sym, ap, ◌∙◌}
use mathlib.Core.List.{List, [], ◌++◌, append_cancel_left}
use Prim.Native.Nat.{ℕ, suc, ◌+◌, ◌≤◌, ◌<◌}
use native.Mathlib.Nat.{add-suc}
use native.Mathlib.Omega.{arith}
use lib.Dec.{lit<}
use lib.ListN.{length, take, drop, length-append, length-take, length-drop, take-append-drop}
use lib.Seq.{take-add, take_at, take_all, length-take-le, take-append-add, drop-drop}
use Rattle.board.specs.Board.{Board}
use Rattle.text.specs.Text.{each}
use Rattle.drawing.specs.Form.{lines_text, text_of, Drawn, OfForm, Departs}
use Rattle.drawing.specs.Inner.{Stops, ToldBy, tallied, Statement, input, output, gate, section, Sound, an_input, an_output, a_gate, statement_text, Statements, Begins, add, Sofar}
use Rattle.drawing.specs.declared.form.Tally.{Tally}
use Rattle.drawing.specs.declared.line.Line.{Line}
use Rattle.drawing.specs.declared.line.Line.TheVariants.{Input, Output, Gate}
use Rattle.drawing.proofs.Laws.Stops.{share_less}
use Rattle.drawing.proofs.Laws.Lines.{long_is}
use Rattle.drawing.proofs.Laws.Sofar.{input_more, output_more, gate_more}
use Rattle.drawing.proofs.Laws.Ahead.{after, Tail, done, more, tail_behind, tail_of}

-- after the first `at` bytes of a text
pub record Stands (t : List ℕ) (b : Board) (c : Tally) (at : ℕ) : Type 0 where
  pub sofar : Sofar c.section b
  pub early : c.section < 3
  pub lines_are : c.lines ≡ length b.lines
  pub outs_are : c.outputs ≡ length b.outs
  pub is : text_of b ≡ take at t
  pub inside : at ≤ length t
  pub few : c.lines + c.outputs ≤ at
  pub ahead : (u : List ℕ) → OfForm u → take at u ≡ take at t → Tail c.section c.lines (drop at u)

-- before the first statement
pub stands_first : (t : List ℕ) → Stands t (record { lines = []; outs = [] }) (record { section = 0; lines = 0; outputs = 0 }) 0
unfolding text_of lines_text each
stands_first t =
    record {
      sofar = record {
        drawn = record { bare = λ i l. absurd (omega arith); worded = λ i low high. absurd (omega arith); numbers = λ o there. absurd there };
        no_output = λ e. refl;
        no_gate = λ l. refl;
      };
      early = lit< tt;
      lines_are = refl;
      outs_are = refl;
      is = refl;
      inside = omega arith;
      few = omega arith;
      ahead = λ u (b, drawn, e) same. rw e at (tail_of b drawn);
    }

-- a statement more, of either sort
statement_more : (from : ℕ) (b : Board) (st : Statement) → Sofar from b → from ≤ section st → Sound st
    → Sofar (section st) (add b st) × (text_of (add b st) ≡ text_of b ++ statement_text (length b.lines) st)
statement_more from b input so low an_input = input_more from b so low
statement_more from b (output o) so low (an_output few) = output_more from b so o low few
statement_more from b (gate g) so low (a_gate w) = gate_more from b so g w

-- what two texts share behind what they share
share_rest : (at n : ℕ) (u t : List ℕ) → take (at + n) u ≡ take (at + n) t → take n (drop at u) ≡ take n (drop at t)
share_rest at n u t e =
    let front = share_less at (at + n) u t (omega arith) e in
    append_cancel_left (take at t) (take n (drop at u)) (take n (drop at t))
    (ap (λ (z : List ℕ). z ++ take n (drop at u)) (sym front) ∙ sym (take-add at n u) ∙ e ∙ take-add at n t)

module _ (t : List ℕ) (b : Board) (c : Tally) (at : ℕ) (stands : Stands t b c at) where
  -- the end of the text
  pub stands_end : length t ≤ at → Drawn b × (text_of b ≡ t)
  stands_end e = (stands.sofar.drawn, stands.is ∙ take_all at t e)

  -- the text with a statement behind what was read
  text_more : (st : Statement) → c.section ≤ section st → Sound st → text_of (add b st) ≡ take at t ++ statement_text c.lines st
  text_more st low sound =
      (statement_more c.section b st stands.sofar low sound).1
      ∙ rw (stands.is, stands.lines_are)

  -- a text of the form with the next byte too
  module _ (m : ℕ) (open-end : at < length t) (stops : Stops (Statements c.section c.lines) (drop at t) m) where
    none_more : (u : List ℕ) → OfForm u → take (suc (at + m)) u ≡ take (suc (at + m)) t → ⊥
    none_more u of e =
        go (drop at u) (stands.ahead u of (share_less at (suc (at + m)) u t (omega arith) e)) (share_rest at (suc m) u t (rw add-suc e))
      where
        go : (w : List ℕ) → Tail c.section c.lines w → take (suc m) w ≡ take (suc m) (drop at t) → ⊥
        go w done share = omega (arith, ap length share, length-take (suc m) (drop at t), length-drop at t)
        go w (more {u = v} st low sound rest) share = stops.most (statement_text c.lines st) v (st, low, sound, refl) share

    pub stands_stop : Departs t (at + m)
    stands_stop =
        let (s, (st, low, sound, e), same) = stops.one in
        let u = text_of (add b st) in
        let is-u : u ≡ take at t ++ s = text_more st low sound ∙ ap (λ (z : List ℕ). take at t ++ z) (sym e) in
        let front = length-take-le at t stands.inside in
        record {
          not_so = λ of. none_more t of refl;
          within = omega (arith, stops.inside, length-drop at t);
          shared = (
            u,
            (add b st, (statement_more c.section b st stands.sofar low sound).0.drawn, refl),
            ap (take (at + m)) is-u ∙ ap (λ (z : ℕ). take (z + m) (take at t ++ s)) (sym front) ∙ take-append-add (take at t) s m ∙ ap (λ (z : List ℕ). take at t ++ z) same
                ∙ sym (take-add at m t),
          );
          longest = λ l (u, of, e). none_more u of e;
        }

-- the sections are three, and a statement adds a line or an output
section_few : (st : Statement) → section st < 3
section_few input = lit< tt
section_few (output o) = lit< tt
section_few (gate g) = lit< tt

one_added : (b : Board) (st : Statement) → (length (add b st).lines + length (add b st).outs ≡ suc (length b.lines + length b.outs)) × (length (add b st).lines ≡ after (length b.lines) st)
one_added b input = rw length-append (omega arith, omega arith)
one_added b (output o) = (rw length-append (omega arith), refl)
one_added b (gate g) = rw length-append (omega arith, omega arith)

-- one statement more
module _ (t : List ℕ) (b : Board) (c : Tally) (at : ℕ) (stands : Stands t b c at) (st : Statement) (n : ℕ) (begins : Begins c.section c.lines (drop at t) st n) where
  -- what stands there
  here : take n (drop at t) ≡ statement_text c.lines st
  here =
      let s = statement_text c.lines st in
      ap (take n) begins.is ∙ take_at s (drop n (drop at t)) n (sym (long_is (drop at t) s n begins.inside begins.is))

  -- and what may follow
  ahead_more : (u : List ℕ) → OfForm u → take (at + n) u ≡ take (at + n) t → Tail (section st) (after c.lines st) (drop (at + n) u)
  ahead_more u of e =
      let s = statement_text c.lines st in
      let tail = stands.ahead u of (share_less at (at + n) u t (omega arith) e) in
      let front : drop at u ≡ s ++ drop n (drop at u) =
      sym (take-append-drop n (drop at u)) ∙ ap (λ (z : List ℕ). z ++ drop n (drop at u)) (share_rest at n u t e ∙ here) in
      rw drop-drop at (tail_behind c.section c.lines st (drop n (drop at u)) begins.sound (rw front at tail))

  pub stands_more : (next : Tally) → next.section ≡ section st → next.lines ≡ length (add b st).lines → next.outputs ≡ length (add b st).outs → Stands t (add b st) next (at + n)
  stands_more next section-is lines-is outs-is =
      let (more-counted, lines_after) = one_added b st in
      record {
        sofar = rw section-is (statement_more c.section b st stands.sofar begins.allowed begins.sound).0;
        early = rw section-is (section_few st);
        lines_are = lines-is;
        outs_are = outs-is;
        is = text_more t b c at stands st begins.allowed begins.sound ∙ ap (λ (z : List ℕ). take at t ++ z) (sym here) ∙ sym (take-add at n t);
        inside = omega (arith, stands.inside, begins.inside, length-drop at t);
        few = omega (arith, stands.few, stands.lines_are, stands.outs_are, begins.some_byte);
        ahead = λ u of e. rw (section-is, lines-is, lines_after, ← stands.lines_are) (ahead_more u of e);
      }

  -- the same by what was read
  pub told_more : (line : Line) → ToldBy line st → Stands t (add b st) (tallied c line) (at + n)
  told_more (Input m) told = stands_more (tallied c (Input m)) (rw told refl) (rw (told, length-append) (omega (arith, stands.lines_are))) (rw told stands.outs_are)
  told_more (Output o m) told = stands_more (tallied c (Output o m)) (rw told refl) (rw told stands.lines_are) (rw (told, length-append) (omega (arith, stands.outs_are)))
  told_more (Gate kind count pins m) (ps, told, counts, holds) =
      stands_more (tallied c (Gate kind count pins m)) (rw told refl) (rw (told, length-append) (omega (arith, stands.lines_are))) (rw told stands.outs_are)
