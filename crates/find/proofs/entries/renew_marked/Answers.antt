-- The marked entries are made none and searched for, and then all are counted.
use Rattle.std.proofs.Common.{ap, ◌∙◌}
use Rattle.board.specs.Book.{found}
use Rattle.find.proofs.Laws.Book.{whole_part, searched_renewed}
use Rattle.find.proofs.entries.renew_marked.Goals as goal

pub try_all-requires : goal.try_all-requires
try_all-requires c =
    rw c.clear.ensures.long (whole_part c.args.sort c.args.board.img.now _ c.args.board.known.ok c.requires.faults)

pub returns : goal.returns
returns c =
    let a = c.args in
    let is = searched_renewed a.sort a.board.img.now a.marks.now a.book.now _ _ c.args.board.known.ok c.requires.faults c.clear.ensures c.try_all.ensures in
    record { book = is; count = c.count_found.ensures ∙ ap found is }
