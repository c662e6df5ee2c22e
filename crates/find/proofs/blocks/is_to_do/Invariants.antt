-- None of the first k entries is awaited.
use Rattle.std.proofs.Common.{ℕ, ◌<◌, ◌≤◌, get_or}
use Rattle.image.specs.Image.{board_of}
use Rattle.find.specs.Inner.{Goes, test_of}
use Rattle.find.proofs.blocks.is_to_do.Given as goal

abbrev pub invariant-loop-k : goal.invariant-loop-k
invariant-loop-k l =
    (j : ℕ) → j < l.k → (m n : ℕ) → m ≤ n → Goes (test_of l.at (board_of l.trial.img.now) j) m n (get_or l.part j 0) (get_or l.part j 0)
