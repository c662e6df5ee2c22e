-- The board of an accepted image can be drawn: pins and outputs are lines, and inputs have no pins.
use mathlib.Core.Path.{◌≡◌, ap, ◌∙◌}
use mathlib.Core.Logic.{⊎_elim}
use mathlib.Core.List.{List}
use Prim.Native.Nat.{ℕ, suc, ◌+◌, ◌-◌, ◌≤◌, ◌<◌}
use native.Mathlib.Omega.{arith}
use lib.Dec.{eqb, leb, leb→le}
use lib.ListN.{length}
use borrow.Author.Tests.{eqb-true, eqb-false}
use Rattle.board.specs.Board.{Board, record_of, inputs}
use Rattle.board.specs.Fine.{first_tie, fewest, Fine}
use Rattle.board.proofs.Lists.{way, empty}
use Rattle.image.specs.Image.{board_of}
use Rattle.image.specs.Refusals.{Accepted}
use Rattle.image.specs.Inner.{Known}
use Rattle.image.specs.declared.Counts.{Counts}
use Rattle.image.proofs.Laws.Fine.{tie_bare, accepted_fine, four_used, line_count_lem, output_count_lem}
use Rattle.drawing.specs.Form.{Drawn, text_of}
use Rattle.drawing.specs.Statements.{statements}
use Rattle.drawing.proofs.Laws.Pieces.{at_each}
use Rattle.drawing.proofs.Laws.WriteText.{leads, leading_few, all_statements}

-- every gate but a tie has a pin: computed over the kinds
gate_pin : (k : ℕ) → 1 ≤ k → k < first_tie → 1 ≤ fewest k
gate_pin k h l =
    let e : suc (k - 1) ≡ k = omega arith in
    rw e at (leb→le 1 (fewest (suc (k - 1))) (at_each (λ j. leb 1 (fewest (suc j))) 8 tt (k - 1) (omega arith)))

module _ (b : Board) (fine : Fine b) where
  is_gate : (i : ℕ) → inputs b ≤ i → i < length b.lines → 1 ≤ (record_of b i).kind
  is_gate i past l =
      ⊎_elim
      (λ e. let leads-too = fine.inputs-first i l (eqb-true (record_of b i).kind 0 e) in omega arith)
      (λ e. let other = eqb-false (record_of b i).kind 0 e in omega arith)
      (way (eqb (record_of b i).kind 0))

  pub fine_drawn : Drawn b
  fine_drawn = record {
    bare = λ i h.
        let l : i < length b.lines = omega (arith, leading_few b.lines) in
        empty (record_of b i).pins (rw (leads b.lines i _ h) at (fine.records i l).few);
    worded = λ i past l.
        let gate = is_gate i past l in
        let stands = fine.records i l in
        record {
          a_gate = gate;
          a_word = stands.kind;
          some_pin = λ low. omega (arith, gate_pin (record_of b i).kind gate low, stands.enough);
          four_pins = four_used fine i l;
          no_pin = λ tied. empty (record_of b i).pins (omega (arith, tie_bare (record_of b i).kind tied stands.kind, stands.few));
          numbers = λ p m. omega (arith, stands.below p m, fine.lines_few);
        };
    numbers = λ o m. omega (arith, fine.outs_inside o m, fine.lines_few);
  }

pub accepted_drawn : (s : List ℕ) → Accepted s → Drawn (board_of s)
accepted_drawn s ok = fine_drawn (board_of s) (accepted_fine s ok)

-- its text is that of all its statements
pub accepted_text : (s : List ℕ) (c : Counts) (j : ℕ) → Known s c → j ≡ c.lines + c.outputs → text_of (board_of s) ≡ statements (board_of s) 0 j
accepted_text s c j known e =
    let all : length (board_of s).lines + length (board_of s).outs ≡ j = omega (arith, line_count_lem s, output_count_lem s, known.lines_are, known.outs_are) in
    all_statements (board_of s) (accepted_drawn s known.ok) ∙ ap (λ (n : ℕ). statements (board_of s) 0 n) all
