-- A part of one entry is worked out, and the entry stands for the answer.
use Rattle.std.proofs.Common.{ℕ, refl, arith}
use Rattle.std.proofs.Math.ListN.{get_or-replicate}
use Rattle.board.specs.Limits.{most_lines}
use Rattle.board.specs.Gate.{site}
use Rattle.board.specs.Book.{fault_at}
use Rattle.image.specs.Image.{board_of}
use Rattle.image.proofs.Laws.Fine.{accepted_fine, lines_few}
use Rattle.find.proofs.Laws.Book.{none_found, one_found, one-part, searched_one}
use Rattle.find.proofs.search.answer_at.Goals as goal

pub try_all-requires : goal.try_all-requires
try_all-requires c = one-part c.args.at.sort c.args.board.img.now c.args.at.first c.args.board.known.ok c.requires

pub returns-then-e : goal.returns-then-e
returns-then-e c =
    let s = c.args.board.img.now in
    let marked = get_or-replicate {A = ℕ} most_lines (site (fault_at c.args.at.sort c.args.at.first)) 1 0 (omega (arith, c.requires.inside, lines_few s c.args.board.known.ok)) in
    none_found (board_of s) (accepted_fine s c.args.board.known.ok) _ _
    (searched_one c.args.at.sort (board_of s) c.args.at.first _ _ _ c.try_all.ensures (omega arith) refl (rw marked)) c.if-e.true

pub returns-else-e : goal.returns-else-e
returns-else-e c =
    let s = c.args.board.img.now in
    let marked = get_or-replicate {A = ℕ} most_lines (site (fault_at c.args.at.sort c.args.at.first)) 1 0 (omega (arith, c.requires.inside, lines_few s c.args.board.known.ok)) in
    one_found (board_of s) (accepted_fine s c.args.board.known.ok) _ _
    (searched_one c.args.at.sort (board_of s) c.args.at.first _ _ _ c.try_all.ensures (omega arith) refl (rw marked)) c.if-e.false
