-- Case by case.
use Rattle.std.proofs.Common.{◌≡◌, ◌+◌, ◌*◌, sym, ◌∙◌}
use Rattle.std.proofs.Math.Dec.{lit<}
use Rattle.board.specs.Row.{value}
use Rattle.board.specs.declared.Fault.TheVariants.{Line, Pin}
use Rattle.board.specs.declared.Condition.TheVariants.{Sound}
use Rattle.image.specs.Image.{board_of}
use Rattle.image.proofs.Laws.Fine.{line_count_lem}
use Rattle.lanes.specs.Words.{words, each}
use Rattle.lanes.proofs.Laws.Eight.{each_at, xor_same}
use Rattle.lanes.proofs.Laws.Own.{own_lanes}
use Rattle.lanes.proofs.own.own_words.Goals as goal
use Rattle.lanes.proofs.own.own_words.Goals.{in-Sound, in-Having-Line, in-Having-Pin}

pub line_changes-requires : goal.line_changes-requires
line_changes-requires c =
    let t = c.in-Having-Line in
    let is : t.field-0 ≡ Line t.line t.stuck = cc in
    let on = rw (t.is, is) at c.requires.1 in
    (c.requires.0, rw (line_count_lem c.args.trial.img.now) on.inside, on.held)

pub pin_changes-requires : goal.pin_changes-requires
pin_changes-requires c =
    let t = c.in-Having-Pin in
    let is : t.field-0 ≡ Pin t.line t.pin t.stuck = cc in
    let on = rw (t.is, is) at c.requires.1 in
    (c.requires.0, rw (line_count_lem c.args.trial.img.now) on.inside, on.held)

pub returns : goal.returns
returns c =
    let a = c.args in
    elim c.match-condition.branch [
      | in-Sound t ↦
          rw (t.result-is, t.in-Sound.is)
          (own_lanes a.trial.base a.trial.decoded c.requires.0 Sound (lit< tt) (each (λ u. 0)) (λ w l.
          each_at (λ u. 0) w l ∙ sym (xor_same (value (words (a.trial.base + 64 * w)) (board_of a.trial.img.now) 0))))
      | in-Having-Line t ↦
          let at = t.in-Having-Line in
          let is : at.field-0 ≡ Line at.line at.stuck = cc in
          rw (t.result-is, at.is, is) t.line_changes.ensures
      | in-Having-Pin t ↦
          let at = t.in-Having-Pin in
          let is : at.field-0 ≡ Pin at.line at.pin at.stuck = cc in
          rw (t.result-is, at.is, is) t.pin_changes.ensures
    ]
