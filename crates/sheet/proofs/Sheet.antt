-- The bench sheet holds: one test over the whole table, which is computed, and one lemma that takes it to what the calls owe.
use mathlib.Core.Path.{◌≡◌, ap, ◌∙◌}
use mathlib.Core.List.{List, [], ◌∷◌}
use mathlib.Core.Bool.{Bool, true, ◌&&◌}
use Prim.Native.Nat.{ℕ}
use lib.Dec.{T}
use lib.ListN.{get_or}
use mir.Facts.{and_yes}
use Rattle.board.specs.Lists.{build, same}
use Rattle.board.specs.Row.{value}
use Rattle.board.specs.Gate.{kinds}
use Rattle.board.specs.Five.{every_filling}
use Rattle.board.specs.Reach.{reach, meets, touched}
use Rattle.board.specs.Test.{differs, shows, first, find}
use Rattle.board.specs.Book.{renewed}
use Rattle.board.proofs.Lists.{same_is}
use Rattle.image.specs.Refusals.{bad_field, first_bad, first_bad_output, image_refusals, first_refusal}
use Rattle.image.specs.Promise.{Promise, answer, unless_refused}
use Rattle.image.specs.Calls.{line_refusals, fault_refusals}
use Rattle.rows.specs.Rows.{rows_refusals}
use Rattle.rows.specs.Judge.{judge_refusals}
use Rattle.five.specs.Five.{five_refusals, five_row}
use Rattle.find.specs.Book.{book_refusals, book_of}
use Rattle.alter.specs.Patch.{unfit}
use Rattle.alter.specs.Alter.{brought_up, alter_refusals}
use Rattle.sheet.specs.Sheet.{Question, says, leaves, writes, Answers, Starred, sheet, Holds}

-- what a call leaves in what was lent
abbrev pub left_by : Promise → List (List ℕ)
left_by p = unless_refused (first_refusal p.refusals) p.lent p.filled

-- the numbers that a call owes
abbrev pub owed : Question → List ℕ
owed (says p) = answer (first_refusal p.refusals) p.done
owed (leaves k p) = get_or (left_by p) k []
owed (writes k p) = get_or (get_or (left_by p) 0 []) k 0 ∷ []

-- and whatever its promise allows has them
owed_answers : (q : Question) (vs : List ℕ) → owed q ≡ vs → Answers q vs
owed_answers (says p) vs e = λ left said owes. owes.answers ∙ e
owed_answers (leaves k p) vs e = λ left said owes. ap (λ (l : List (List ℕ)). get_or l k []) owes.leaves ∙ e
owed_answers (writes k p) vs e = λ left said owes. ap (λ (l : List (List ℕ)). get_or (get_or l 0 []) k 0 ∷ []) owes.leaves ∙ e

-- the test: every line of the sheet has the numbers that its call owes
agrees : List Starred → Bool
unfolding same judge_refusals rows_refusals five_refusals five_row book_refusals book_of alter_refusals fault_refusals line_refusals image_refusals first_bad first_bad_output first bad_field unfit brought_up renewed touched meets reach find shows differs value build kinds every_filling
agrees [] = true
agrees (one ∷ more) = same (owed one.asked) one.numbers && agrees more

-- the one lemma: a table that passes the test holds
agrees_holds : (rows : List Starred) → T (agrees rows) → Holds rows
unfolding agrees
agrees_holds [] t = tt
agrees_holds (one ∷ more) t =
    let (this, rest) = and_yes (same (owed one.asked) one.numbers) (agrees more) t in
    (owed_answers one.asked one.numbers (same_is (owed one.asked) one.numbers this), agrees_holds more rest)

-- every starred number of document 01 is what the calls must answer
pub the_sheet : Holds sheet
unfolding sheet agrees
the_sheet = agrees_holds sheet tt
