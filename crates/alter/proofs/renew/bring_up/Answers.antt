-- A row without marks has room for the board's.
use Rattle.std.proofs.Common.{sym, ◌∙◌, replicate}
use Rattle.board.specs.Limits.{most_lines}
use Rattle.board.proofs.Lists.{zeros}
use Rattle.image.proofs.Laws.Fine.{known_few}
use Rattle.rows.proofs.Laws.Judge.{front-blank}
use Rattle.alter.proofs.Laws.Meet.{front_unmarked}
use Rattle.alter.proofs.renew.bring_up.Goals as goal

pub slice_bounds-marks-end : goal.slice_bounds-marks-end
slice_bounds-marks-end c = known_few c.requires.known

pub slice_bounds-rework-end : goal.slice_bounds-rework-end
slice_bounds-rework-end c = sym (front-blank c.args.counts.lines (known_few c.requires.known))

pub rework-requires : goal.rework-requires
rework-requires c =
    let lines = c.args.counts.lines in (
      c.requires,
      front-blank lines (known_few c.requires.known) ∙ c.requires.known.lines_are,
      front_unmarked lines (replicate most_lines 0) (zeros most_lines),
    )
