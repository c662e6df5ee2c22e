-- Each row passes its test, and what is not held stays.
use Rattle.std.proofs.Common.{arith}
use Rattle.std.proofs.Math.Dec.{lit<}
use Rattle.std.specs.Option.{unwrap_or}
use Rattle.sets.proofs.Tables.{each, is_freed, freed_is}
use Rattle.sets.proofs.freed.Goals as goal

pub returns-in-Some-eq0 : goal.returns-in-Some-eq0
unfolding each is_freed
returns-in-Some-eq0 c = freed_is 0 _ (lit< tt) tt (unwrap_or c.args.stuck 2) c.args.z _ (rw c.in-Some-eq0.is (omega (arith, c.in-Some-eq0.field-0-test))) c.set_at.ensures

pub returns-in-Some-eq1 : goal.returns-in-Some-eq1
unfolding each is_freed
returns-in-Some-eq1 c = freed_is 1 _ (lit< tt) tt (unwrap_or c.args.stuck 2) c.args.z _ (rw c.in-Some-eq1.is (omega (arith, c.in-Some-eq1.field-0-test))) c.set_at-in-Some-eq1.ensures
