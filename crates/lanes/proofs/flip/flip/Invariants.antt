use Rattle.std.proofs.Common.{◌≡◌, ℕ, ◌+◌, ◌-◌, ◌*◌, ◌≤◌, ◌<◌, get_or}
use Rattle.board.specs.Row.{value}
use Rattle.image.specs.Image.{board_of}
use Rattle.lanes.specs.Words.{words, flipped_words, is_out, apart_below}
use Rattle.lanes.specs.Inner.{size, Passed, Heard}
use Rattle.lanes.proofs.flip.flip.Given as goal

abbrev pub invariant-loop-i : goal.invariant-loop-i
invariant-loop-i l =
    let b = board_of l.trial.img.now in
    (l.line < l.i)
    × (l.i ≤ size b)
    × (l.last < size b)
    × Passed b l.trial.base l.line l.i l.rows l.changed
    × Heard b l.line l.i l.last l.changed
    × ((w : ℕ) → w < 8 → get_or l.shown w 0 ≡ apart_below (value (words (l.trial.base + 64 * w)) b) (value (flipped_words l.line (l.trial.base + 64 * w)) b) (is_out b) l.i)

abbrev pub decreases-loop-i : goal.decreases-loop-i
decreases-loop-i l = size (board_of l.trial.img.now) - l.i
