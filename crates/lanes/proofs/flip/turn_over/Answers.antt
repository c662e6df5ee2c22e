-- Below the line nothing changes, and the line itself is turned over.
use Rattle.std.proofs.Common.{◌+◌, ◌*◌, length, get_or, ap, ◌∙◌}
use Rattle.std.proofs.Math.Nat.{le_refl}
use Rattle.std.specs.Int.Bits.{bit_xor}
use Rattle.image.specs.Image.{board_of}
use Rattle.lanes.specs.Words.{full}
use Rattle.lanes.proofs.Laws.Eight.{word_at, joined_alike}
use Rattle.lanes.proofs.Laws.Fill.{low_board}
use Rattle.lanes.proofs.Laws.Pass.{pass_changed, pass_none, turned_here}
use Rattle.lanes.proofs.flip.turn_over.Goals as goal

pub returns : goal.returns
returns c =
    let a = c.args in
    let b = board_of a.trial.img.now in
    let inside = c.requires.0 in
    let block = c.requires.1 in
    let low = low_board a.trial.decoded a.line inside in
    let put = rw c.requires.2 at c.put_eight.ensures in
    (pass_changed b low a.trial.base a.line a.line inside {changed = a.changed.now} (le_refl a.line) (pass_none b low a.trial.base a.line inside block c.requires.2) put (λ w l.
    let own = word_at _ (λ u. get_or a.rows.now (8 * a.line + u) 0) c.eight_at.ensures w l ∙ block.good a.line w inside l in
    joined_alike bit_xor c.eight_at.result full (ap length c.eight_at.ensures) w l
    ∙ turned_here b low a.trial.base a.line w (get_or c.eight_at.result w 0) own)).passed
