-- A held line gives its stuck value, an input the pattern's bit, a gate its kind's value.
use Rattle.std.proofs.Common.{◌++◌, sym, ◌∙◌}
use Rattle.rows.proofs.Laws.Line.{line_held, line_input, line_gate}
use Rattle.rows.proofs.line.Reader.value.Goals as goal

pub returns-in-Some : goal.returns-in-Some
returns-in-Some c =
    let r = c.args.self.now in
    line_held r.img.now r.at (r.before.now ++ r.part.now) c.args.condition c.args.line c.args.x c.in-Some.held (sym c.in-Some.ensures)

pub returns-then-kind-eq0 : goal.returns-then-kind-eq0
returns-then-kind-eq0 c =
    let r = c.args.self.now in
    c.bit_of.ensures
    ∙ line_input r.img.now r.at (r.before.now ++ r.part.now) c.args.condition c.args.line c.args.x (sym c.in_default.ensures) (sym c.byte-kind.ensures.0 ∙ c.if-kind-eq0.true)

pub returns : goal.returns
returns c =
    let r = c.args.self.now in
    let kind = c.byte-kind.ensures.0 in
    c.gate_value.ensures
    ∙ rw (kind, c.byte.ensures.0, c.ones_with-ones.ensures, c.held_pin.ensures, c.stuck_of.ensures)
    (line_gate r.img.now r.at (r.before.now ++ r.part.now) c.args.condition c.args.line c.args.x (sym c.in_default.ensures) (λ e. c.if-kind-eq0.false (kind ∙ e)))
