-- Each row passes its test.
use Rattle.std.proofs.Common.{arith}
use Rattle.sets.proofs.Tables.{each, is_followed, follows_is}
use Rattle.sets.proofs.follows.Goals as goal

pub returns-then-f-eq0 : goal.returns-then-f-eq0
unfolding each is_followed
returns-then-f-eq0 c = follows_is 0 _ tt c.args.f c.args.s _ (omega arith) c.set_at.ensures

pub returns-else-f-eq0 : goal.returns-else-f-eq0
unfolding each is_followed
returns-else-f-eq0 c = follows_is 1 _ tt c.args.f c.args.s _ (omega arith) c.set_at-else-f-eq0.ensures
