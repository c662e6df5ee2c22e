-- `drawing::write` meets its contract: its tests are its refusals in their order, and where none applies the text is put in front of the target.
use Rattle.std.proofs.Common.{ltb, length, arith}
use Rattle.std.proofs.lemmas.Result.{err_from_is_err_and}
use borrow.Author.Tests.{lt-ltb, le-ltb}
use Rattle.image.specs.Image.{board_of}
use Rattle.image.specs.Refusals.{image_refusals}
use Rattle.image.specs.declared.Refusal.TheVariants.{Target}
use Rattle.image.proofs.Laws.Answer.{after_given, next_given, next_skip}
use Rattle.image.proofs.Laws.Promise.{owes_refused, owes_done}
use Rattle.drawing.specs.Form.{text_of}
use Rattle.drawing.specs.Calls.{too_short, write_refusals}
use Rattle.drawing.proofs.write.Goals as goal

pub returns-then-target-long : goal.returns-then-target-long
unfolding write_refusals
returns-then-target-long c =
    let s = c.args.img.now in
    let t = c.args.target.now in
    let text = text_of (board_of s) in
    owes_refused (next_given (image_refusals s) c.in_ok-counts.ensures.0 (ltb (length t) (length text)) Target (lt-ltb (length t) (length text) (omega arith)))

pub returns-in_err-counts : goal.returns-in_err-counts
unfolding write_refusals
returns-in_err-counts c =
    let s = c.args.img.now in
    let p = err_from_is_err_and c.from_residual.result c.from_residual.ensures.1 in
    rw (p.1, p.2) (owes_refused (after_given (image_refusals s) (too_short (text_of (board_of s)) c.args.target.now) c.in_err-counts.ensures))

pub returns : goal.returns
unfolding write_refusals
returns c =
    let s = c.args.img.now in
    let t = c.args.target.now in
    let text = text_of (board_of s) in
    rw (c.text_length-long.ensures, c.put_text.ensures)
    (owes_done (next_skip (image_refusals s) c.in_ok-counts.ensures.0 (ltb (length t) (length text)) Target (le-ltb (length t) (length text) (omega arith))))
