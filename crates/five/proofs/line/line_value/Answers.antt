-- By whether the line is an input.
use Rattle.std.proofs.Common.{◌≡◌, ℕ, ◌+◌, ◌*◌, ◌<◌, sym, ap, ◌∙◌, arith}
use Rattle.board.specs.Limits.{most_lines}
use Rattle.board.specs.Gate.{held_line}
use Rattle.board.specs.Five.{hold5, partial}
use Rattle.image.specs.Bytes.{byte_at}
use Rattle.image.specs.Image.{record_place}
use Rattle.image.proofs.Laws.Fine.{lines_few}
use Rattle.five.proofs.Laws.Line.{record_good, line_input, line_gate}
use Rattle.five.proofs.line.line_value.Goals as goal
use Rattle.five.proofs.line.line_value.Goals.{After-byte}

-- the line's kind
kind : (c : After-byte) → c.byte.result ≡ byte_at c.args.img.now (record_place c.args.img.now c.args.i)
kind c = c.byte.ensures.0 ∙ ap (λ (p : ℕ). byte_at c.args.img.now (p + 10 * c.args.i)) c.first_record.ensures.0

pub returns-then-byte-eq0 : goal.returns-then-byte-eq0
returns-then-byte-eq0 c =
    let a = c.args in
    c.held_line.ensures
    ∙ ap (held_line hold5 a.condition a.i) c.input.ensures
    ∙ line_input a.condition (partial a.pattern.named a.pattern.values) a.img.now a.i c.requires.inside a.below.now
    (sym (kind (goal.at.returns-then-byte-eq0 c).After-byte) ∙ c.if-byte-eq0.true)

pub invariant_of-gate : goal.invariant_of-gate
invariant_of-gate c =
    let a = c.args in
    let asked = c.requires in
    let few : a.i < most_lines = omega (arith, asked.inside, lines_few a.img.now asked.ok) in
    let (known, pins) = record_good a.img.now asked.ok a.i asked.inside in
    let place = c.first_record.ensures.0 in
    let gate : 0 < c.byte.result = omega (arith, c.if-byte-eq0.false) in
    record {
      gated = record {
        low = omega arith;
        gate = rw c.byte.ensures.0 at gate;
        kind = rw place known;
        few = rw place pins;
        condition = asked.condition;
        fives = asked.fives;
      };
    }

pub returns : goal.returns
returns c =
    let a = c.args in
    let place = c.first_record.ensures.0 in
    c.held_line-2.ensures
    ∙ ap (held_line hold5 a.condition a.i) (rw place at c.value.ensures.0)
    ∙ line_gate a.condition (partial a.pattern.named a.pattern.values) a.img.now a.i c.requires.inside a.below.now
    (λ e. c.if-byte-eq0.false (kind (goal.at.returns c).After-byte ∙ e))
