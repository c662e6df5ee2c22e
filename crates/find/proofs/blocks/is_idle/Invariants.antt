-- None of the first k entries stirs.
use Rattle.std.proofs.Common.{ℕ, ◌+◌, ◌<◌, ◌≤◌, get_or}
use Rattle.image.specs.Image.{board_of}
use Rattle.find.specs.Inner.{Goes, test_of}
use Rattle.find.proofs.blocks.is_idle.Given as goal

abbrev pub invariant-loop-k : goal.invariant-loop-k
invariant-loop-k l =
    (j : ℕ) → j < l.k → (n : ℕ) → l.trial.base ≤ n → n ≤ l.trial.base + 512 → Goes (test_of l.at (board_of l.trial.img.now) j) l.trial.base n (get_or l.part j 0) (get_or l.part j 0)
