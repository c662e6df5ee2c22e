-- The line's good words against its gate's with the pin held; an absent pin changes nothing.
use Rattle.std.proofs.Common.{ℕ, ◌+◌, ◌*◌, length, get_or, sym, ap, ◌∙◌, arith}
use Rattle.std.specs.Int.Bits.{bit_xor}
use Rattle.board.specs.Row.{value}
use Rattle.board.specs.declared.Fault.TheVariants.{Pin}
use Rattle.board.specs.declared.Condition.TheVariants.{Having}
use Rattle.image.specs.Image.{board_of}
use Rattle.lanes.specs.Words.{words, each}
use Rattle.lanes.proofs.Laws.Eight.{each_at, word_at, joined_at, xor_same}
use Rattle.lanes.proofs.Laws.Own.{own_lanes, pin_absent}
use Rattle.lanes.proofs.own.pin_changes.Goals as goal

pub returns-then-from-pin : goal.returns-then-from-pin
returns-then-from-pin c =
    let a = c.args in
    let b = board_of a.trial.img.now in
    let is = a.trial.decoded in
    own_lanes a.trial.base is c.requires.0 (Having (Pin a.line a.pin a.stuck)) c.requires.2 (each (λ u. 0)) (λ w l.
    let good : ℕ = value (words (a.trial.base + 64 * w)) b a.line in
    each_at (λ u. 0) w l
    ∙ sym (xor_same good)
    ∙ ap (bit_xor good) (sym (pin_absent is a.line c.requires.1 (a.trial.base + 64 * w) a.pin a.stuck (rw c.from.ensures at c.if-from-pin.true))))

pub returns : goal.returns
returns c =
    let a = c.args in
    let is = a.trial.decoded in
    let h = c.requires.0 in
    let inside = c.requires.1 in
    own_lanes a.trial.base is h (Having (Pin a.line a.pin a.stuck)) c.requires.2 _ (λ w l.
    let own = word_at _ (λ u. get_or a.rows.now (8 * a.line + u) 0) c.eight_at.ensures w l ∙ h.good a.line w inside l in
    joined_at bit_xor c.eight_at.result c.held_words-held.result (ap length c.eight_at.ensures) (omega arith) w l ∙ cc (own, c.held_words-held.ensures w l))
