-- Group by group of the table.
use Rattle.std.proofs.Common.{◌≡◌, Ok, None, sym, ◌∙◌}
use Rattle.std.proofs.lemmas.Result.{err_from_is_err_and}
use Rattle.words.specs.Parts.{words}
use Rattle.words.specs.Command.{table, anew_forms, image_forms, row_forms, book_forms, target_forms, first_in}
use Rattle.words.proofs.Laws.Command.{rows_more, asked_is}
use Rattle.words.proofs.command.read.Goals as goal
use Rattle.words.proofs.command.read.Goals.{After-or_first-found-6}

found_is : (c : After-or_first-found-6) → first_in (table c.values_of-v.result) (words c.args.line.now) ≡ c.or_first-found-6.result
found_is c =
    rows_more (Ok None) c.or_first-found.result (anew_forms c.values_of-v.result) _ (words c.args.line.now) (rw (sym c.anew_forms.ensures) c.or_first-found.ensures)
    ∙ rows_more c.or_first-found.result c.or_first-found-2.result (image_forms c.values_of-v.result) _ (words c.args.line.now) (rw (sym c.image_forms.ensures) c.or_first-found-2.ensures)
    ∙ rows_more c.or_first-found-2.result c.or_first-found-3.result (row_forms c.values_of-v.result) _ (words c.args.line.now) (rw (sym c.row_forms.ensures) c.or_first-found-3.ensures)
    ∙ rows_more c.or_first-found-3.result c.or_first-found-4.result (book_forms c.values_of-v.result) _ (words c.args.line.now) (rw (sym c.book_forms.ensures) c.or_first-found-4.ensures)
    ∙ rows_more c.or_first-found-4.result c.or_first-found-5.result (target_forms c.values_of-v.result) _ (words c.args.line.now) (rw (sym c.target_forms.ensures) c.or_first-found-5.ensures)
    ∙ sym (rw (sym c.other_forms.ensures) c.or_first-found-6.ensures)

pub returns-in_err-found : goal.returns-in_err-found
returns-in_err-found c =
    let p = err_from_is_err_and c.from_residual.result c.from_residual.ensures.1 in
    let is = found_is (goal.at.returns-in_err-found c).After-or_first-found-6 in
    rw (p.1, p.2, sym c.is_empty.ensures ∙ c.if-is_empty.false, sym c.values_of-v.ensures, is, c.in_err-found.was)

pub returns : goal.returns
returns c =
    let is = found_is (goal.at.returns c).After-or_first-found-6 in
    rw (c.ok_or.ensures.value, sym c.is_empty.ensures ∙ c.if-is_empty.false, sym c.values_of-v.ensures, is, c.in_ok-found.was) (asked_is _)
