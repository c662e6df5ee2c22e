-- Each row passes its test.
use Rattle.sets.proofs.Tables.{each, is_forward, forwards_at}
use Rattle.sets.proofs.rows.or_row.Goals as goal

pub returns-in-16 : goal.returns-in-16
unfolding each is_forward
returns-in-16 c = forwards_at _ _ c.in-16.is tt

pub returns-in-17 : goal.returns-in-17
unfolding each is_forward
returns-in-17 c = forwards_at _ _ c.in-17.is tt

pub returns-in-18 : goal.returns-in-18
unfolding each is_forward
returns-in-18 c = forwards_at _ _ c.in-18.is tt

pub returns-in-19 : goal.returns-in-19
unfolding each is_forward
returns-in-19 c = forwards_at _ _ c.in-19.is tt

pub returns-in-20 : goal.returns-in-20
unfolding each is_forward
returns-in-20 c = forwards_at _ _ c.in-20.is tt

pub returns-in-21 : goal.returns-in-21
unfolding each is_forward
returns-in-21 c = forwards_at _ _ c.in-21.is tt

pub returns-in-22 : goal.returns-in-22
unfolding each is_forward
returns-in-22 c = forwards_at _ _ c.in-22.is tt

pub returns-in-23 : goal.returns-in-23
unfolding each is_forward
returns-in-23 c = forwards_at _ _ c.in-23.is tt

pub returns-in-24 : goal.returns-in-24
unfolding each is_forward
returns-in-24 c = forwards_at _ _ c.in-24.is tt

pub returns-in-25 : goal.returns-in-25
unfolding each is_forward
returns-in-25 c = forwards_at _ _ c.in-25.is tt

pub returns-in-26 : goal.returns-in-26
unfolding each is_forward
returns-in-26 c = forwards_at _ _ c.in-26.is tt

pub returns-in-27 : goal.returns-in-27
unfolding each is_forward
returns-in-27 c = forwards_at _ _ c.in-27.is tt

pub returns-in-28 : goal.returns-in-28
unfolding each is_forward
returns-in-28 c = forwards_at _ _ c.in-28.is tt

pub returns-in-29 : goal.returns-in-29
unfolding each is_forward
returns-in-29 c = forwards_at _ _ c.in-29.is tt

pub returns-in-30 : goal.returns-in-30
unfolding each is_forward
returns-in-30 c = forwards_at _ _ c.in-30.is tt

pub returns-in-31 : goal.returns-in-31
unfolding each is_forward
returns-in-31 c = forwards_at _ _ c.in-31.is tt
