-- Two a line, or two a used pin.
use Rattle.std.proofs.Common.{arith}
use Rattle.image.proofs.Laws.Fine.{line_count_lem, counts_few}
use Rattle.report.proofs.book.faults_of.Goals as goal

pub returns-in-Lines : goal.returns-in-Lines
returns-in-Lines c = rw (c.in-Lines.is, line_count_lem c.args.board.img.now, c.args.board.known.lines_are)

pub overflow_mul-result : goal.overflow_mul-result
overflow_mul-result c = let few = counts_few c.args.board.known in omega (arith, few.0, few.1, few.2)

pub overflow_mul-result-in-Pins : goal.overflow_mul-result-in-Pins
overflow_mul-result-in-Pins c = let few = counts_few c.args.board.known in omega (arith, few.0)
