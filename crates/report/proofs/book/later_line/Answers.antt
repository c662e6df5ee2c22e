-- Entry k's line is line k, and the total's the one after them.
use Rattle.std.proofs.Common.{◌≡◌, List, ℕ, length, ap, ◌∙◌, arith}
use Rattle.report.proofs.Laws.Book.{book_length, entry_at, total_at}
use Rattle.report.proofs.book.later_line.Goals as goal

pub entry_line-requires : goal.entry_line-requires
entry_line-requires c =
    let long = ap (λ (l : List ℕ). length l) c.requires.0.is in
    (c.requires.0.ok, omega (arith, long, book_length c.args.sort c.args.img.now))

pub returns-then-k-book : goal.returns-then-k-book
returns-then-k-book c =
    let is = c.requires.0.is in
    rw (entry_at c.args.sort c.args.img.now c.args.k (rw (← is) c.if-k-book.true), ← is) c.entry_line.ensures

pub returns : goal.returns
returns c =
    let filled = c.requires.0 in
    let all : c.args.k ≡ length c.args.book.now = omega arith in
    rw (all ∙ ap (λ (l : List ℕ). length l) filled.is, total_at c.args.sort c.args.img.now, ← filled.counted, ← filled.of_all) c.total_line.ensures
