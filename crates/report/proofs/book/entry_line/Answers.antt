-- An absent pin has not a byte.
use Rattle.report.specs.Book.{entry_line}
use Rattle.report.proofs.book.entry_line.Goals as goal

pub returns-then-is_absent : goal.returns-then-is_absent
unfolding entry_line
returns-then-is_absent c = rw (← c.fault_at-fault.ensures, ← c.is_absent.ensures, c.if-is_absent.true) c.blank.ensures

pub returns : goal.returns
unfolding entry_line
returns c = rw (← c.fault_at-fault.ensures, ← c.is_absent.ensures, c.if-is_absent.false) c.fault_line.ensures
