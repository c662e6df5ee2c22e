-- The line's good words against the stuck value.
use Rattle.std.proofs.Common.{◌+◌, ◌*◌, length, get_or, ap, ◌∙◌}
use Rattle.std.specs.Int.Bits.{bit_xor}
use Rattle.board.specs.declared.Fault.TheVariants.{Line}
use Rattle.board.specs.declared.Condition.TheVariants.{Having}
use Rattle.lanes.proofs.Laws.Eight.{word_at, joined_alike}
use Rattle.lanes.proofs.Laws.Own.{own_lanes, line_held}
use Rattle.lanes.proofs.own.line_changes.Goals as goal

pub returns : goal.returns
returns c =
    let a = c.args in
    let is = a.trial.decoded in
    let h = c.requires.0 in
    let inside = c.requires.1 in
    own_lanes a.trial.base is h (Having (Line a.line a.stuck)) c.requires.2 _ (λ w l.
    let own = word_at _ (λ u. get_or a.rows.now (8 * a.line + u) 0) c.eight_at.ensures w l ∙ h.good a.line w inside l in
    let held = c.spread.ensures ∙ line_held is a.line inside (a.trial.base + 64 * w) a.stuck in
    joined_alike bit_xor c.eight_at.result c.spread.result (ap length c.eight_at.ensures) w l ∙ cc (own, held))
