-- Each row passes its test.
use Rattle.sets.proofs.Tables.{each, is_forward, forwards_at}
use Rattle.sets.proofs.rows.xor_row.Goals as goal

pub returns-in-32 : goal.returns-in-32
unfolding each is_forward
returns-in-32 c = forwards_at _ _ c.in-32.is tt

pub returns-in-33 : goal.returns-in-33
unfolding each is_forward
returns-in-33 c = forwards_at _ _ c.in-33.is tt

pub returns-in-34 : goal.returns-in-34
unfolding each is_forward
returns-in-34 c = forwards_at _ _ c.in-34.is tt

pub returns-in-35 : goal.returns-in-35
unfolding each is_forward
returns-in-35 c = forwards_at _ _ c.in-35.is tt

pub returns-in-36 : goal.returns-in-36
unfolding each is_forward
returns-in-36 c = forwards_at _ _ c.in-36.is tt

pub returns-in-37 : goal.returns-in-37
unfolding each is_forward
returns-in-37 c = forwards_at _ _ c.in-37.is tt

pub returns-in-38 : goal.returns-in-38
unfolding each is_forward
returns-in-38 c = forwards_at _ _ c.in-38.is tt

pub returns-in-39 : goal.returns-in-39
unfolding each is_forward
returns-in-39 c = forwards_at _ _ c.in-39.is tt

pub returns-in-40 : goal.returns-in-40
unfolding each is_forward
returns-in-40 c = forwards_at _ _ c.in-40.is tt

pub returns-in-41 : goal.returns-in-41
unfolding each is_forward
returns-in-41 c = forwards_at _ _ c.in-41.is tt

pub returns-in-42 : goal.returns-in-42
unfolding each is_forward
returns-in-42 c = forwards_at _ _ c.in-42.is tt

pub returns-in-43 : goal.returns-in-43
unfolding each is_forward
returns-in-43 c = forwards_at _ _ c.in-43.is tt

pub returns-in-44 : goal.returns-in-44
unfolding each is_forward
returns-in-44 c = forwards_at _ _ c.in-44.is tt

pub returns-in-45 : goal.returns-in-45
unfolding each is_forward
returns-in-45 c = forwards_at _ _ c.in-45.is tt

pub returns-in-46 : goal.returns-in-46
unfolding each is_forward
returns-in-46 c = forwards_at _ _ c.in-46.is tt

pub returns-in-47 : goal.returns-in-47
unfolding each is_forward
returns-in-47 c = forwards_at _ _ c.in-47.is tt
