-- A line has at most four pins.
use Rattle.std.proofs.Common.{◌≤◌, arith}
use Rattle.image.specs.Image.{board_of}
use Rattle.image.proofs.Laws.Fine.{lines_few, line_count_lem, four_used, accepted_fine}
use Rattle.report.proofs.Laws.Book.{used_more, used_all}
use Rattle.report.proofs.book.used_pins.Goals as goal

pub pin_count-used-requires : goal.pin_count-used-requires
pin_count-used-requires c = (omega (arith, c.args.board.known.lines_are), omega (arith, c.args.board.known.lines_are, lines_few _ c.args.board.known.ok))

pub overflow_add-used : goal.overflow_add-used
overflow_add-used c =
    let few : c.pin_count-used.result ≤ 4 =
    rw c.pin_count-used.ensures (four_used (accepted_fine _ c.args.board.known.ok) _ (omega (arith, c.loop-i-test.true, c.args.board.known.lines_are, line_count_lem c.args.board.img.now)))
    in
    omega (arith, few, lines_few _ c.args.board.known.ok, c.args.board.known.lines_are)

pub loop-i-preserved : goal.loop-i-preserved
loop-i-preserved c =
    let inside = c.loop-i-test.true in
    let few : c.pin_count-used.result ≤ 4 =
    rw c.pin_count-used.ensures (four_used (accepted_fine _ c.args.board.known.ok) _ (omega (arith, inside, c.args.board.known.lines_are, line_count_lem c.args.board.img.now)))
    in
    let more = used_more (board_of c.args.board.img.now) _ _ c.loop-i.invariant.1 _ (omega (arith, line_count_lem c.args.board.img.now, c.args.board.known.lines_are)) c.pin_count-used.ensures in
    (omega arith, more)

pub returns : goal.returns
returns c =
    let l = c.loop-i in
    (used_all (board_of c.args.board.img.now) l.i l.used l.invariant.1 (omega (arith, line_count_lem c.args.board.img.now, c.args.board.known.lines_are)), omega arith)
