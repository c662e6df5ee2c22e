-- Each kind has the value of its section, or the opposite.
use Rattle.std.proofs.Common.{◌≡◌, ◌∙◌}
use Rattle.board.specs.Five.{gate5}
use Rattle.image.specs.Bytes.{byte_at}
use Rattle.five.specs.Inner.{read_at}
use Rattle.five.proofs.Laws.Gate.{turned, gate_goes, turned_opposite, turned_same}
use Rattle.five.proofs.Laws.Below.{gate-below}
use Rattle.five.proofs.Laws.Line.{few_named}
use Rattle.five.proofs.line.Gate.value.Goals as goal
use Rattle.five.proofs.line.Gate.value.Goals.{After-value_by-v}

-- what the section has, turned as the kind's way says, is the kind's value
goes : (c : After-value_by-v) →
    let g = c.args.self.now in
    turned c.way_of-way.result c.value_by-v.result ≡ gate5 (byte_at g.img.now g.at) (read_at g.condition g.img.now g.at g.line g.below.now)
goes c =
    let g = c.args.self.now in
    let way = rw c.byte.ensures.0 at c.way_of-way.ensures in
    rw way
    (gate_goes (byte_at g.img.now g.at) _ (read_at g.condition g.img.now g.at g.line g.below.now) g.gated.gate g.gated.kind
    (few_named g.condition g.img.now g.at g.line g.below.now g.gated) (rw way at c.value_by-v.ensures.0))

pub returns-then-way : goal.returns-then-way
returns-then-way c =
    let v = c.value_by-v in
    let is = turned_opposite c.way_of-way.result v.result _ c.if-way.true v.ensures.1 c.pick.ensures.0 ∙ goes (goal.at.returns-then-way c).After-value_by-v in
    (is, rw is (gate-below _ _))

pub returns-else-way : goal.returns-else-way
returns-else-way c =
    let v = c.value_by-v in
    (turned_same c.way_of-way.result v.result c.if-way.false ∙ goes (goal.at.returns-else-way c).After-value_by-v, v.ensures.1)
