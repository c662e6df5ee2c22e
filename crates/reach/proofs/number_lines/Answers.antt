-- The lines from `line` up have handed their numbers down.
use Rattle.std.proofs.Common.{◌≤◌, length, arith}
use Rattle.std.proofs.Math.Nat.{lt_of_lt_of_le}
use Rattle.image.specs.Image.{line_count, board_of}
use Rattle.image.proofs.Laws.Fine.{lines_few, outputs_few}
use Rattle.reach.proofs.Laws.Pass.{whole}
use Rattle.reach.proofs.Laws.Image.{low, output_inside, pin_inside, begins, goes_on}
use Rattle.reach.proofs.number_lines.Goals as goal

pub hand_own_bits-requires : goal.hand_own_bits-requires
hand_own_bits-requires c =
    let known = c.args.board.known in
    let s = c.args.board.img.now in
    (rw known.outs_are (outputs_few s known.ok), λ j l. lt_of_lt_of_le (output_inside s known.ok j (rw known.outs_are at l)) c.requires.0)

pub loop-line-init : goal.loop-line-init
loop-line-init c =
    let known = c.args.board.known in
    begins c.args.board.img.now known.ok known.lines_are known.outs_are c.requires.1 c.hand_own_bits.ensures

pub overflow_add-start : goal.overflow_add-start
overflow_add-start c = omega (arith, c.first_record-start.ensures.1, c.args.board.known.lines_are, lines_few c.args.board.img.now c.args.board.known.ok)

pub hand_down-requires : goal.hand_down-requires
hand_down-requires c =
    let s = c.args.board.img.now in
    let known = c.args.board.known in
    let lines = known.lines_are in
    let few = lines_few s known.ok in
    let first = c.first_record-start.ensures in
    let long : line_count s ≤ length c.loop-line.numbers = omega (arith, c.requires.0, c.loop-line.auto.numbers) in
    (omega (arith, first.1), λ k l. lt_of_lt_of_le (pin_inside s known.ok k l first.0 (omega arith)) long)

pub loop-line-preserved : goal.loop-line-preserved
loop-line-preserved c =
    let known = c.args.board.known in
    let lines = known.lines_are in
    goes_on c.args.board.img.now known.ok c.loop-line.invariant c.hand_down.ensures c.first_record-start.ensures.0 (omega arith) (omega arith) (omega arith)

pub returns : goal.returns
returns c =
    let s = c.args.board.img.now in
    λ l j. whole (board_of s) (low s c.args.board.known.ok) c.loop-line.invariant l j (omega arith)
