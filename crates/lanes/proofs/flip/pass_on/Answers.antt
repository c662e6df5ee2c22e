-- A line that hears no change keeps its words, and so does one whose gate gives them again.
use Rattle.std.proofs.Common.{◌+◌, ◌*◌, length, get_or, sym, ap, ◌∙◌, arith}
use Rattle.std.proofs.Math.Nat.{le_of_lt}
use Rattle.std.specs.Int.Bits.{bit_xor}
use Rattle.image.specs.Image.{board_of}
use Rattle.lanes.specs.Inner.{is_changed}
use Rattle.lanes.proofs.Laws.Eight.{word_at, joined_at, xor_none}
use Rattle.lanes.proofs.Laws.Pass.{unchanged, quiet_line, pass_kept, pass_changed}
use Rattle.lanes.proofs.Laws.Fill.{low_board, quiet_pin}
use Rattle.lanes.proofs.flip.pass_on.Goals as goal

pub returns-then-not-hears : goal.returns-then-not-hears
returns-then-not-hears c =
    let a = c.args in
    let b = board_of a.trial.img.now in
    let is = a.trial.decoded in
    let inside = c.requires.1 in
    let h = c.requires.2 in
    let low = low_board is a.i inside in
    pass_kept b low a.trial.base a.line a.i inside h (λ w l.
    quiet_line b low a.trial.base a.line a.i (λ e. omega arith) w (λ p m.
    unchanged b low a.trial.base a.line h (omega arith) p w (low a.i p m) l
    (quiet_pin is a.i inside (is_changed a.line a.changed.now) (c.hears.ensures.1 c.if-not-hears.true) p m)))

pub returns-then-is_dark : goal.returns-then-is_dark
returns-then-is_dark c =
    let a = c.args in
    let b = board_of a.trial.img.now in
    let is = a.trial.decoded in
    let inside = c.requires.1 in
    let h = c.requires.2 in
    let low = low_board is a.i inside in
    pass_kept b low a.trial.base a.line a.i inside h (λ w l.
    let old = word_at _ (λ u. get_or a.rows.now (8 * a.i + u) 0) c.eight_at.ensures w l ∙ h.block.good a.i w inside l in
    let apart = joined_at bit_xor c.run_gate-new.result c.eight_at.result (omega arith) (ap length c.eight_at.ensures) w l in
    sym (c.run_gate-new.ensures w l) ∙ xor_none _ _ (sym apart ∙ c.is_dark.ensures c.if-is_dark.true w l) ∙ old)

pub returns : goal.returns
returns c =
    let a = c.args in
    let b = board_of a.trial.img.now in
    let is = a.trial.decoded in
    let inside = c.requires.1 in
    let h = c.requires.2 in
    let low = low_board is a.i inside in
    let put = rw h.long at c.put_eight.ensures in
    pass_changed b low a.trial.base a.line a.i inside {changed = a.changed.now} (le_of_lt c.requires.0) h put c.run_gate-new.ensures
