-- Each row passes its test, and those of the exclusive-or serve both ways.
use Rattle.std.proofs.Common.{arith}
use Rattle.sets.proofs.Tables.{each, is_backward, backwards_at, xor_backwards}
use Rattle.sets.proofs.rows.or_back.Goals as goal

pub returns-in-16 : goal.returns-in-16
unfolding each is_backward
returns-in-16 c = backwards_at _ _ c.in-16.is tt

pub returns-in-17 : goal.returns-in-17
unfolding each is_backward
returns-in-17 c = backwards_at _ _ c.in-17.is tt

pub returns-in-18 : goal.returns-in-18
unfolding each is_backward
returns-in-18 c = backwards_at _ _ c.in-18.is tt

pub returns-in-19 : goal.returns-in-19
unfolding each is_backward
returns-in-19 c = backwards_at _ _ c.in-19.is tt

pub returns-in-20 : goal.returns-in-20
unfolding each is_backward
returns-in-20 c = backwards_at _ _ c.in-20.is tt

pub returns-in-21 : goal.returns-in-21
unfolding each is_backward
returns-in-21 c = backwards_at _ _ c.in-21.is tt

pub returns-in-22 : goal.returns-in-22
unfolding each is_backward
returns-in-22 c = backwards_at _ _ c.in-22.is tt

pub returns-in-23 : goal.returns-in-23
unfolding each is_backward
returns-in-23 c = backwards_at _ _ c.in-23.is tt

pub returns-in-24 : goal.returns-in-24
unfolding each is_backward
returns-in-24 c = backwards_at _ _ c.in-24.is tt

pub returns-in-25 : goal.returns-in-25
unfolding each is_backward
returns-in-25 c = backwards_at _ _ c.in-25.is tt

pub returns-in-26 : goal.returns-in-26
unfolding each is_backward
returns-in-26 c = backwards_at _ _ c.in-26.is tt

pub returns-in-27 : goal.returns-in-27
unfolding each is_backward
returns-in-27 c = backwards_at _ _ c.in-27.is tt

pub returns-in-28 : goal.returns-in-28
unfolding each is_backward
returns-in-28 c = backwards_at _ _ c.in-28.is tt

pub returns-in-29 : goal.returns-in-29
unfolding each is_backward
returns-in-29 c = backwards_at _ _ c.in-29.is tt

pub returns-in-30 : goal.returns-in-30
unfolding each is_backward
returns-in-30 c = backwards_at _ _ c.in-30.is tt

pub returns-in-31 : goal.returns-in-31
unfolding each is_backward
returns-in-31 c = backwards_at _ _ c.in-31.is tt

pub returns-in_default : goal.returns-in_default
returns-in_default c = xor_backwards _ _ (omega arith) c.xor_row.ensures
