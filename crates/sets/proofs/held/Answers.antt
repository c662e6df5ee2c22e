-- Each row passes its test, and what is not held stays.
use Rattle.std.proofs.Common.{arith}
use Rattle.std.proofs.Math.Dec.{lit<}
use Rattle.std.specs.Option.{unwrap_or}
use Rattle.sets.proofs.Tables.{each, is_held, held_is}
use Rattle.sets.proofs.held.Goals as goal

pub returns-in-Some-eq0 : goal.returns-in-Some-eq0
unfolding each is_held
returns-in-Some-eq0 c = held_is 0 _ (lit< tt) tt (unwrap_or c.args.stuck 2) c.args.x _ (rw c.in-Some-eq0.is (omega (arith, c.in-Some-eq0.field-0-test))) c.set_at.ensures

pub returns-in-Some-eq1 : goal.returns-in-Some-eq1
unfolding each is_held
returns-in-Some-eq1 c = held_is 1 _ (lit< tt) tt (unwrap_or c.args.stuck 2) c.args.x _ (rw c.in-Some-eq1.is (omega (arith, c.in-Some-eq1.field-0-test))) c.set_at-in-Some-eq1.ensures
