-- Field 0 is the kind, field 1 the count, and each other a pin.
use Rattle.std.proofs.Common.{rules}
use Rattle.image.proofs.Laws.Records.{kind_field, count_field, pin_field}
use Rattle.image.proofs.records.is_bad_field.Goals as goal

pub returns-then-field-eq0 : goal.returns-then-field-eq0
returns-then-field-eq0 c =
    let a = c.args in
    rw c.if-field-eq0.true (cc (c.is_bad_kind.ensures, c.byte.ensures.0, kind_field a.s.now a.at a.line a.inputs))

pub returns-then-field-eq1 : goal.returns-then-field-eq1
returns-then-field-eq1 c =
    let a = c.args in
    rw c.if-field-eq1.true (cc (c.is_bad_count.ensures, c.byte-then-field-eq1.ensures.0, c.byte-count.ensures.0, count_field a.s.now a.at a.line a.inputs))

pub returns : goal.returns
returns c =
    let a = c.args in
    cc (c.is_bad_pin.ensures, c.word.ensures.0, c.byte-count.ensures.0, pin_field a.s.now a.at a.line a.inputs a.field (search rules))
