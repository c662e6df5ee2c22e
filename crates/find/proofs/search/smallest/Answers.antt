-- A fault has a number in a book, or its pin is absent.
use Rattle.std.proofs.Common.{sym, arith}
use Rattle.image.specs.Image.{board_of}
use Rattle.image.proofs.Laws.Fine.{line_count_lem, accepted_fine, lines_few}
use Rattle.find.proofs.Laws.Book.{fifth_absent}
use Rattle.find.proofs.search.smallest.Goals as goal

pub returns-then-pin-ge4 : goal.returns-then-pin-ge4
returns-then-pin-ge4 c =
    let s = c.args.board.img.now in
    let on = rw c.in-Pin.is at c.requires in
    rw c.in-Pin.is (sym (fifth_absent (board_of s) (accepted_fine s c.args.board.known.ok) c.in-Pin.line c.in-Pin.pin c.in-Pin.stuck (rw (line_count_lem s) on.inside) c.if-pin-ge4.true))

pub overflow_mul-line : goal.overflow_mul-line
overflow_mul-line c =
    let on = rw c.in-Line.is at c.requires in
    omega (arith, on.inside, on.held, lines_few c.args.board.img.now c.args.board.known.ok)

pub overflow_add-line : goal.overflow_add-line
overflow_add-line c =
    let on = rw c.in-Line.is at c.requires in
    omega (arith, on.inside, on.held, lines_few c.args.board.img.now c.args.board.known.ok)

pub overflow_mul-line-in-Pin : goal.overflow_mul-line-in-Pin
overflow_mul-line-in-Pin c =
    let on = rw c.in-Pin.is at c.requires in
    omega (arith, on.inside, on.held, lines_few c.args.board.img.now c.args.board.known.ok)

pub overflow_add-line-in-Pin : goal.overflow_add-line-in-Pin
overflow_add-line-in-Pin c =
    let on = rw c.in-Pin.is at c.requires in
    omega (arith, on.inside, on.held, lines_few c.args.board.img.now c.args.board.known.ok)

pub overflow_add-line-in-Pin-2 : goal.overflow_add-line-in-Pin-2
overflow_add-line-in-Pin-2 c =
    let on = rw c.in-Pin.is at c.requires in
    omega (arith, on.inside, on.held, lines_few c.args.board.img.now c.args.board.known.ok)
