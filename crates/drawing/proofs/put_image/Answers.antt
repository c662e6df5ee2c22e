-- `drawing::put_image` meets its contract: its tests are its refusals in their order, and where none applies the image is put in front of the target.
use Rattle.std.proofs.Common.{ltb, length}
use Rattle.std.proofs.lemmas.Result.{err_from_is_err_and}
use borrow.Author.Tests.{lt-ltb, le-ltb}
use Rattle.image.specs.Refusals.{image_refusals}
use Rattle.image.specs.declared.Refusal.TheVariants.{Target}
use Rattle.image.proofs.Laws.Answer.{after_given, next_given, next_skip}
use Rattle.image.proofs.Laws.Promise.{owes_refused, owes_done}
use Rattle.drawing.specs.Calls.{too_short}
use Rattle.drawing.proofs.put_image.Goals as goal

pub returns-then-target-img : goal.returns-then-target-img
returns-then-target-img c =
    let s = c.args.img.now in
    let t = c.args.target.now in
    owes_refused (next_given (image_refusals s) c.in_ok-check_image.ensures.0 (ltb (length t) (length s)) Target (lt-ltb (length t) (length s) c.if-target-img.true))

pub returns-in_err-check_image : goal.returns-in_err-check_image
returns-in_err-check_image c =
    let p = err_from_is_err_and c.from_residual.result c.from_residual.ensures.1 in
    rw (p.1, p.2) (owes_refused (after_given (image_refusals c.args.img.now) (too_short c.args.img.now c.args.target.now) c.in_err-check_image.ensures))

pub returns : goal.returns
returns c =
    let s = c.args.img.now in
    let t = c.args.target.now in
    rw (c.copy.ensures.0, c.copy.ensures.1)
    (owes_done (next_skip (image_refusals s) c.in_ok-check_image.ensures.0 (ltb (length t) (length s)) Target (le-ltb (length t) (length s) c.if-target-img.false)))
