-- A block that leaves every entry as it is needs no more, and after another each is noted.
use Rattle.std.proofs.Math.Nat.{le_of_lt}
use Rattle.find.proofs.blocks.bring_line.Goals as goal

pub returns-then-is_idle : goal.returns-then-is_idle
returns-then-is_idle c =
    let span = c.requires.span in
    (c.is_idle.ensures c.if-is_idle.true c.args.trial.end (le_of_lt span.some_left) span.few, c.requires.tryable.block)
