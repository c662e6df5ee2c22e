-- The table's entry for what the four pins read, absent ones filled, is the gate's value.
use Rattle.std.proofs.Common.{◌∙◌}
use Rattle.five.specs.Table.{kind_of}
use Rattle.five.specs.Inner.{number_of, read_at}
use Rattle.five.proofs.Laws.Gate.{pins_read}
use Rattle.five.proofs.Laws.Below.{gate-below}
use Rattle.five.proofs.Laws.Line.{few_read}
use Rattle.five.proofs.line.Gate.value_by.Goals as goal

pub returns : goal.returns
returns c =
    let g = c.args.self.now in
    let section = c.args.section in
    let vs = read_at g.condition g.img.now g.at g.line g.below.now in
    let few = few_read g.condition g.img.now g.at g.line g.below.now g.gated in
    let is =
    c.entry.ensures
    ∙ pins_read section vs few _ c.filler-filler.ensures.0 _ _ _ _ c.pin-a.ensures.0 c.pin-b.ensures.0 c.pin-c.ensures.0 c.pin-d.ensures.0
    in
    (is, rw is (gate-below (kind_of (number_of section)) vs))
