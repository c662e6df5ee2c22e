-- The pins before j are read, then all, and the line's gate is put.
use Rattle.std.proofs.Common.{◌+◌, ◌≤◌, ◌<◌, length, refl, ◌∙◌, arith}
use Rattle.board.specs.Limits.{most_lines}
use Rattle.image.specs.Bytes.{byte_at}
use Rattle.image.specs.Image.{line_count}
use Rattle.image.proofs.Laws.Fine.{lines_few}
use Rattle.lanes.proofs.Laws.Flat.{room, few_pins, pin_low, pins_next, pins_decoded}
use Rattle.lanes.proofs.flat.decode_line.Goals as goal
use Rattle.lanes.proofs.flat.decode_line.Goals.{After-word-p}

-- pin j is one of at most four, its line is one of the board's, and the gates of all lines have room
pin : (c : After-word-p) →
    let n = line_count c.args.img.now in
    (c.loop-j.j < byte_at c.args.img.now (c.record_place-at.result + 1))
    × (c.loop-j.j < 4)
    × (c.word-p.result < n)
    × (n ≤ most_lines)
    × (n ≤ length c.loop-j.flat)
pin c =
    let s = c.args.img.now in
    let is = c.record_place-at.ensures.0 in
    let used = rw c.byte-count.ensures.0 at c.loop-j-test.true in
    let few = few_pins s c.requires.0 c.requires.1 is in
    let low = pin_low s c.requires.0 c.requires.1 is c.loop-j.j used c.word-p.ensures.0 in
    (used, omega arith, low, lines_few s c.requires.0, room s c.requires.0 c.loop-j.invariant.decoded)

pub note_reader-requires : goal.note_reader-requires
note_reader-requires c =
    let (used, few, low, lines, long) = pin (goal.at.note_reader-requires c).After-word-p in
    (omega (arith, c.requires.1), omega arith)

pub bounds-pins-j : goal.bounds-pins-j
bounds-pins-j c =
    let (used, few, low, lines, long) = pin (goal.at.bounds-pins-j c).After-word-p in
    few

pub loop-j-preserved : goal.loop-j-preserved
loop-j-preserved c =
    let used = rw c.byte-count.ensures.0 at c.loop-j-test.true in
    rw (c.short.ensures, c.note_reader.ensures)
    (pins_next c.args.img.now c.requires.0 c.requires.1 c.record_place-at.ensures.0 used c.word-p.ensures.0 c.loop-j.invariant)

pub bounds-flat-line : goal.bounds-flat-line
bounds-flat-line c =
    let long = room _ c.requires.0 c.loop-j.invariant.decoded in
    omega (arith, c.requires.1)

pub returns : goal.returns
returns c =
    pins_decoded c.args.img.now c.requires.0 c.requires.1 c.record_place-at.ensures.0 (omega (arith, c.byte-count.ensures.0)) c.loop-j.invariant _
    (c.short-2.ensures ∙ c.byte.ensures.0) (c.short-3.ensures ∙ c.byte-count.ensures.0) refl refl refl
