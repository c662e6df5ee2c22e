-- Refusal 10: a record that it lets in may stand at its line, whose number of inputs before it does not matter, since it is a gate.
use mathlib.Core.Path.{◌≡◌, sym, ap, ◌∙◌}
use mathlib.Core.Logic.{⊎_elim}
use mathlib.Core.List.{List, [], ◌∷◌}
use mathlib.Core.Bool.{true, false, not}
use Prim.Native.Nat.{ℕ, zero, suc, ◌≤◌, ◌<◌}
use native.Mathlib.Omega.{arith}
use lib.Dec.{eqb}
use lib.ListN.{get_or}
use borrow.Author.Tests.{eqb-true, eqb-false, ne_eqb, not-false}
use Rattle.board.specs.Board.{Record, leading, inputs}
use Rattle.board.specs.Test.{first}
use Rattle.board.specs.Fine.{Takes}
use Rattle.board.proofs.Lists.{way, clash, or_false, somewhere_at}
use Rattle.board.proofs.Search.{first_is_smallest}
use Rattle.image.specs.Bytes.{byte_at}
use Rattle.image.specs.Image.{line_count, first_record, record_place, record_at, board_of}
use Rattle.image.specs.Refusals.{bad_field}
use Rattle.image.proofs.Laws.Records.{records_at}
use Rattle.image.proofs.Laws.Fine.{line_count_lem, good_stands}
use Rattle.alter.specs.Patch.{fields, would_be_bad, unfit}

-- field f stands at f: computed over all fields
pub field_at : (f : ℕ) → f < 6 → get_or fields f 0 ≡ f
unfolding first
field_at f l = eqb-true (get_or fields f 0) f (not-false _ (first_is_smallest (λ k. not (eqb (get_or fields k 0) k)) 6 f l))

-- no more lines lead than stand before a gate
pub leading_stops : (rs : List Record) (a : ℕ) → ((get_or rs a (record { kind = 0; pins = [] })).kind ≡ 0 → ⊥) → leading rs ≤ a
leading_stops [] a gate = omega arith
leading_stops (r ∷ rs) zero gate = rw (ne_eqb r.kind 0 gate) (omega arith)
leading_stops (r ∷ rs) (suc a) gate =
    ⊎_elim
    (λ (e : eqb r.kind 0 ≡ true). rw e (omega (arith, leading_stops rs a gate)))
    (λ (e : eqb r.kind 0 ≡ false). rw e (omega arith))
    (way (eqb r.kind 0))

-- a gate's fields are good or bad whatever leads before it
pub any_inputs : (s : List ℕ) (p i m n f : ℕ) → (byte_at s p ≡ 0 → ⊥) → bad_field s p i m f ≡ bad_field s p i n f
unfolding bad_field
any_inputs s p i m n f gate = rw (ne_eqb (byte_at s p) 0 gate)

-- where a record would not be bad, each field is good
good-fields : (new : List ℕ) (line ins : ℕ) → would_be_bad new line ins ≡ false → (f : ℕ) → f < 6 → bad_field new 0 line ins f ≡ false
good-fields new line ins good f l =
    let bad = bad_field new 0 line ins in
    ⊎_elim
    (λ (t : bad f ≡ true). clash (would_be_bad new line ins) (somewhere_at bad fields f l (ap bad (field_at f l) ∙ t)) good)
    (λ t. t)
    (way (bad f))

-- what holds where refusal 10 does not apply
pub record Fit (s : List ℕ) (line : ℕ) (new : List ℕ) : Type 0 where
  pub old_gate : byte_at s (record_place s line) ≡ 0 → ⊥
  pub new_gate : byte_at new 0 ≡ 0 → ⊥
  pub good : (f : ℕ) → f < 6 → bad_field new 0 line (inputs (board_of s)) f ≡ false

pub fit : (s : List ℕ) (line : ℕ) (new : List ℕ) → unfit s line new ≡ false → Fit s line new
unfolding unfit
fit s line new e =
    let (old, rest) = or_false (eqb (byte_at s (record_place s line)) 0) _ e in
    let (kind, bad) = or_false (eqb (byte_at new 0) 0) _ rest in
    record {
      old_gate = eqb-false _ 0 old;
      new_gate = eqb-false _ 0 kind;
      good = good-fields new line (inputs (board_of s)) bad;
    }

module _ (s : List ℕ) (line : ℕ) (new : List ℕ) (inside : line < line_count s) (fits : Fit s line new) where
  -- the board takes the record
  pub takes : Takes (board_of s) line (record_at new 0)
  takes = record {
    inside = rw (line_count_lem s) inside;
    gate =
        leading_stops (board_of s).lines line
        (λ e. fits.old_gate (sym (ap (λ (r : Record). r.kind) (records_at s (first_record s) (line_count s) line (record { kind = 0; pins = [] }) inside)) ∙ e));
    new_gate = fits.new_gate;
    stands = good_stands new 0 line (inputs (board_of s)) fits.good;
  }
