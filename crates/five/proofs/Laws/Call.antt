-- The answer of the five values is told by its numbers; what the filler has where no refusal applies; and what a count tells.
use mathlib.Core.Path.{◌≡◌, refl}
use mathlib.Core.Option.{none}
use mathlib.Core.List.{List, [], ◌∷◌}
use Prim.Native.Nat.{ℕ}
use lib.ListN.{length, get_or}
use Rattle.std.specs.Prelude.{Result, Ok, Err}
use Rattle.board.specs.declared.Fault.{Fault}
use Rattle.board.specs.declared.Condition.TheVariants.{Having}
use Rattle.image.specs.Image.{board_of}
use Rattle.image.specs.declared.Refusal.{Refusal}
use Rattle.image.specs.Refusals.{first_refusal}
use Rattle.image.specs.Promise.{Owes}
use Rattle.image.specs.Calls.{◌then◌, bad_row, fault_refusals}
use Rattle.image.proofs.Laws.Answer.{none_both}
use Rattle.image.proofs.Laws.Promise.{read_back, refused_again, Told, told, done_leaves, done_says, unrefused}
use Rattle.image.proofs.Laws.Calls.{fault_accepted, row_long}
use Rattle.five.specs.Partial.{bad_partial}
use Rattle.five.specs.Driven.{driven}
use Rattle.five.specs.Five.{driven_says, five_refusals, five_row, five_promise}
use Rattle.five.specs.Inner.{FiveFillable}

-- the count, or a refusal, that numbers name
driven_back : List ℕ → Result ℕ Refusal
driven_back v = read_back (Ok (get_or v 1 0)) Err v

driven_again : (a : Result ℕ Refusal) → driven_back (driven_says a) ≡ a
unfolding driven_back read_back
driven_again (Ok n) = refl
driven_again (Err r) = refused_again _ Err r

pub driven_told : Told driven_says
driven_told = told driven_says driven_back driven_again

module _ (s : List ℕ) (named values : ℕ) (φ : Fault) (old : List ℕ) where
  -- where none applies, the filler has what it asks
  pub fillable : first_refusal (five_refusals s named values φ (length old)) ≡ none → FiveFillable s (Having φ) old
  unfolding five_refusals
  fillable none-given =
      let (past-partial, long) = none_both (fault_refusals s φ then bad_partial s named values) (bad_row s (length old)) none-given in
      let past-fault = (none_both (fault_refusals s φ) (bad_partial s named values) past-partial).0 in
      let (ok, on_board) = fault_accepted s φ past-fault in
      record { ok = ok; condition = on_board; long = row_long s (length old) long }

  -- a count is that of the row, which is filled
  pub count_says : (n : ℕ) (new : List ℕ) → Owes (five_promise s named values φ old) (new ∷ []) (driven_says (Ok n))
      → FiveFillable s (Having φ) old × (n ≡ driven (board_of s) new) × (new ≡ five_row s (Having φ) named values)
  count_says n new owes =
      let none-given = unrefused owes in
      let filled : new ≡ five_row s (Having φ) named values = cc (done_leaves owes none-given) in
      let counted : n ≡ driven (board_of s) (five_row s (Having φ) named values) = cc (done_says owes none-given) in
      (fillable none-given, rw filled counted, filled)
