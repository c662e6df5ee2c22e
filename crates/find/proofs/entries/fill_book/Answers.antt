-- Where every line is marked, a renewed book is a fresh one.
use Rattle.std.proofs.Common.{ap, ◌∙◌}
use Rattle.std.proofs.Math.ListN.{get_or-replicate}
use Rattle.board.specs.Limits.{most_lines}
use Rattle.board.specs.Book.{found}
use Rattle.find.proofs.Laws.Book.{all_reworked}
use Rattle.find.proofs.entries.fill_book.Goals as goal

pub returns : goal.returns
returns c =
    let all = all_reworked c.args.sort c.args.board.img.now c.args.book.now c.args.board.known.ok c.requires _ (λ l few. get_or-replicate most_lines l 1 0 few) in
    (c.renew.ensures.book ∙ all, c.renew.ensures.count ∙ ap found all)
