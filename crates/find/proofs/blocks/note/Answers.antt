-- An entry that is not none stays, and another is the lowest lane that shows its fault, where that is a pattern of the block.
use Rattle.std.proofs.Math.Nat.{le_of_lt}
use Rattle.board.specs.Test.{shows}
use Rattle.board.proofs.Fine.{fine_low}
use Rattle.image.specs.Image.{board_of}
use Rattle.lanes.specs.Words.{Lanes}
use Rattle.lanes.proofs.Laws.Eight.{joined_is}
use Rattle.std.proofs.Common.{arith}
use Rattle.std.specs.Int.Bits.{bit_and}
use Rattle.std.specs.Simd.Lanes.{zip2}
use Rattle.find.proofs.Laws.Blocks.{settled, shown_lanes, noted_lane, noted_none}
use Rattle.find.proofs.blocks.note.Goals as goal

pub returns-then-old-ne-NONE : goal.returns-then-old-ne-NONE
returns-then-old-ne-NONE c = settled _ c.args.trial.base c.args.trial.end c.args.old (le_of_lt c.requires.span.some_left) c.if-old-ne-NONE.true

pub returns-then-found-trial : goal.returns-then-found-trial
returns-then-found-trial c =
    let a = c.args in
    let b = board_of a.trial.img.now in
    let own = c.own_words-own.result in
    let shown : Lanes (zip2 bit_and own a.seen) (shows b a.condition) a.trial.base =
    shown_lanes b (fine_low b a.trial.decoded.fine) a.condition c.requires.fault.held a.trial.base own c.own_words-own.ensures a.seen _ c.requires.sees
    (joined_is bit_and own a.seen (omega arith) c.fits-seen.0)
    in
    noted_lane (shows b a.condition) a.trial.base (zip2 bit_and own a.seen) shown c.requires.span c.lowest.ensures a.old c.if-old-ne-NONE.false c.if-found-trial.true

pub returns-else-found-trial : goal.returns-else-found-trial
returns-else-found-trial c =
    let a = c.args in
    let b = board_of a.trial.img.now in
    let own = c.own_words-own.result in
    let shown : Lanes (zip2 bit_and own a.seen) (shows b a.condition) a.trial.base =
    shown_lanes b (fine_low b a.trial.decoded.fine) a.condition c.requires.fault.held a.trial.base own c.own_words-own.ensures a.seen _ c.requires.sees
    (joined_is bit_and own a.seen (omega arith) c.fits-seen.0)
    in
    noted_none (shows b a.condition) a.trial.base (zip2 bit_and own a.seen) shown c.requires.span c.lowest.ensures a.old c.if-old-ne-NONE.false c.if-found-trial.false
