-- Where no line is marked, a reworked book is the old one.
use Rattle.std.proofs.Common.{sym, ◌∙◌}
use Rattle.find.proofs.Laws.Book.{none_reworked}
use Rattle.find.proofs.entries.renew.Goals as goal

pub returns : goal.returns
returns c =
    let a = c.args in
    rw c.count_found.ensures
    (none_reworked a.sort a.board.img.now a.marks.now a.book.now (sym c.has_mark.ensures ∙ c.if-has_mark.false))
