-- An absent pin has the filler, and any other its line's value, held where the condition holds the pin.
use Rattle.std.proofs.Common.{◌+◌, ◌*◌, ap, ◌∙◌}
use Rattle.std.proofs.Math.Path.{ap₂}
use Rattle.board.specs.Inner.{stuck_pin, held_at}
use Rattle.board.specs.Five.{hold5}
use Rattle.image.specs.Bytes.{byte_at, word_at}
use Rattle.five.proofs.Laws.Below.{held_below}
use Rattle.five.proofs.Laws.Line.{absent_pin, present_pin}
use Rattle.five.proofs.line.Gate.pin.Goals as goal

pub returns-then-byte-j : goal.returns-then-byte-j
returns-then-byte-j c =
    let g = c.args.self.now in
    let few = rw c.byte.ensures.0 at c.if-byte-j.true in
    (absent_pin g.condition g.img.now g.at g.line g.below.now c.args.j c.args.filler few, c.requires.1)

pub returns : goal.returns
returns c =
    let g = c.args.self.now in
    let j = c.args.j in
    let used = rw c.byte.ensures.0 at c.if-byte-j.false in
    let reads = c.byte-2.ensures.0 ∙ ap (byte_at g.below.now) c.word-pin.ensures.0 in
    let is = c.held.ensures ∙ ap₂ (held_at hold5) c.stuck_pin.ensures reads in (
      is ∙ present_pin g.condition g.img.now g.at g.line g.below.now g.gated j c.args.filler used,
      rw is (held_below (stuck_pin g.condition g.line j) _ (g.gated.fives (word_at g.img.now (g.at + 2 + 2 * j)))),
    )
