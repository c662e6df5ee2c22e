-- Each row passes its test.
use Rattle.sets.proofs.Tables.{each, is_forward, forwards_at}
use Rattle.sets.proofs.rows.forward_row.Goals as goal

pub returns-in-0 : goal.returns-in-0
unfolding each is_forward
returns-in-0 c = forwards_at _ _ c.in-0.is tt

pub returns-in-1 : goal.returns-in-1
unfolding each is_forward
returns-in-1 c = forwards_at _ _ c.in-1.is tt

pub returns-in-2 : goal.returns-in-2
unfolding each is_forward
returns-in-2 c = forwards_at _ _ c.in-2.is tt

pub returns-in-3 : goal.returns-in-3
unfolding each is_forward
returns-in-3 c = forwards_at _ _ c.in-3.is tt

pub returns-in-4 : goal.returns-in-4
unfolding each is_forward
returns-in-4 c = forwards_at _ _ c.in-4.is tt

pub returns-in-5 : goal.returns-in-5
unfolding each is_forward
returns-in-5 c = forwards_at _ _ c.in-5.is tt

pub returns-in-6 : goal.returns-in-6
unfolding each is_forward
returns-in-6 c = forwards_at _ _ c.in-6.is tt

pub returns-in-7 : goal.returns-in-7
unfolding each is_forward
returns-in-7 c = forwards_at _ _ c.in-7.is tt

pub returns-in-8 : goal.returns-in-8
unfolding each is_forward
returns-in-8 c = forwards_at _ _ c.in-8.is tt

pub returns-in-9 : goal.returns-in-9
unfolding each is_forward
returns-in-9 c = forwards_at _ _ c.in-9.is tt

pub returns-in-10 : goal.returns-in-10
unfolding each is_forward
returns-in-10 c = forwards_at _ _ c.in-10.is tt

pub returns-in-11 : goal.returns-in-11
unfolding each is_forward
returns-in-11 c = forwards_at _ _ c.in-11.is tt

pub returns-in-12 : goal.returns-in-12
unfolding each is_forward
returns-in-12 c = forwards_at _ _ c.in-12.is tt

pub returns-in-13 : goal.returns-in-13
unfolding each is_forward
returns-in-13 c = forwards_at _ _ c.in-13.is tt

pub returns-in-14 : goal.returns-in-14
unfolding each is_forward
returns-in-14 c = forwards_at _ _ c.in-14.is tt

pub returns-in-15 : goal.returns-in-15
unfolding each is_forward
returns-in-15 c = forwards_at _ _ c.in-15.is tt
