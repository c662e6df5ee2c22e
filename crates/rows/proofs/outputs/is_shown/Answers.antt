-- Two blank rows have room for the board's.
use Rattle.std.proofs.Common.{sym, ◌∙◌}
use Rattle.image.proofs.Laws.Fine.{known_few}
use Rattle.rows.proofs.Laws.Judge.{front-blank}
use Rattle.rows.proofs.outputs.is_shown.Goals as goal

pub slice_bounds-good-end : goal.slice_bounds-good-end
slice_bounds-good-end c = known_few c.args.board.known

pub slice_bounds-shows_in-end : goal.slice_bounds-shows_in-end
slice_bounds-shows_in-end c = sym (front-blank c.args.board.counts.lines (known_few c.args.board.known))

pub slice_bounds-faulty-end : goal.slice_bounds-faulty-end
slice_bounds-faulty-end c = known_few c.args.board.known

pub slice_bounds-shows_in-end-2 : goal.slice_bounds-shows_in-end-2
slice_bounds-shows_in-end-2 c = sym (front-blank c.args.board.counts.lines (known_few c.args.board.known))

pub shows_in-requires : goal.shows_in-requires
shows_in-requires c =
    let known = c.args.board.known in
    let long = front-blank c.args.board.counts.lines (known_few known) ∙ known.lines_are in
    record { on_board = c.requires; good_long = long; faulty_long = long }
