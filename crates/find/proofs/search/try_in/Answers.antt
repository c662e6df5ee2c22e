-- The room that the search asks for is made, and as many patterns are tried as the board has.
use Rattle.std.proofs.Common.{ℕ, ◌+◌, ◌*◌, sym, ap, ◌∙◌}
use Rattle.image.proofs.Laws.Fine.{line_count_lem, accepted_fine, known_few}
use Rattle.find.proofs.search.try_in.Goals as goal

pub patterns-limit-requires : goal.patterns-limit-requires
patterns-limit-requires c = rw c.args.board.known.ins_are (accepted_fine c.args.board.img.now c.args.board.known.ok).inputs_few

pub make_room-requires : goal.make_room-requires
make_room-requires c =
    let known = c.args.board.known in (
      known.lines_are ∙ sym (line_count_lem c.args.board.img.now),
      known_few known,
      c.requires.rows_long ∙ ap (λ (n : ℕ). 16 * n + 16) (sym known.lines_are),
    )
