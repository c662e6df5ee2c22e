-- `drawing::read` meets its contract: a text departs from the form, or names a board whose image is put in front of the target.
use Rattle.std.proofs.Common.{refl, rules, ◌≡◌, Err}
use Rattle.image.specs.declared.Refusal.TheVariants.{Form}
use Rattle.image.proofs.Laws.Promise.{owes_refused}
use Rattle.drawing.specs.Calls.{departs, read_refusals}
use Rattle.drawing.proofs.read.Goals as goal

pub returns-in_err-named : goal.returns-in_err-named
unfolding read_refusals
returns-in_err-named c =
    let n = c.in_err-named.field-0.0.along in
    let is : c.from_residual.result ≡ Err (Form n) = search rules in
    rw is (departs n, c.in_err-named.ensures, owes_refused {r = Form n} refl)
