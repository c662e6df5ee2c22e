-- An accepted image's book is filled in the front of the room.
use Rattle.std.proofs.Common.{◌≡◌, ◌*◌, ◌≤◌, length-take, arith}
use Rattle.board.specs.Limits.{most_lines}
use Rattle.board.specs.Book.{entries_a_line}
use Rattle.image.specs.Image.{line_count}
use Rattle.image.proofs.Laws.Fine.{lines_few}
use Rattle.report.proofs.Laws.Book.{entries_few, book_after}
use Rattle.report.proofs.book.fill_rest.Goals as goal

pub slice_bounds-fill_book-end : goal.slice_bounds-fill_book-end
slice_bounds-fill_book-end c =
    let known = c.in-Ok.ensures.1 in
    let few : c.entries_a_line.result * c.in-Ok.counts.lines ≤ 8 * most_lines = rw (c.entries_a_line.ensures.0, known.lines_are) (entries_few c.args.sort _ (lines_few _ known.ok)) in
    omega (arith, few, c.requires)

pub slice_bounds-fill_book-end-2 : goal.slice_bounds-fill_book-end-2
slice_bounds-fill_book-end-2 c =
    let known = c.in-Ok.ensures.1 in
    let few : c.entries_a_line.result * c.in-Ok.counts.lines ≤ 8 * most_lines = rw (c.entries_a_line.ensures.0, known.lines_are) (entries_few c.args.sort _ (lines_few _ known.ok)) in
    simp length-take (omega (arith, few, c.requires))

pub fill_book-found-requires : goal.fill_book-found-requires
fill_book-found-requires c =
    let known = c.in-Ok.ensures.1 in
    let few : c.entries_a_line.result * c.in-Ok.counts.lines ≤ 8 * most_lines = rw (c.entries_a_line.ensures.0, known.lines_are) (entries_few c.args.sort _ (lines_few _ known.ok)) in
    let entries : c.entries_a_line.result * c.in-Ok.counts.lines ≡ entries_a_line c.args.sort * line_count c.args.img.now = rw (c.entries_a_line.ensures.0, known.lines_are) in
    simp length-take (omega (arith, entries, few, c.requires))

pub returns : goal.returns
returns c =
    let known = c.in-Ok.ensures.1 in
    let entries : c.entries_a_line.result * c.in-Ok.counts.lines ≡ entries_a_line c.args.sort * line_count c.args.img.now = rw (c.entries_a_line.ensures.0, known.lines_are) in
    book_after _ _ c.fill_book-found.new.book _ _ _ _ known.ok entries c.fill_book-found.ensures.0 c.fill_book-found.ensures.1 c.faults_of.ensures
