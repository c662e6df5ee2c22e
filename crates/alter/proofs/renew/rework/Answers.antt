-- The row gets the marks of the board before, and then those of the board after, and by them both books are renewed.
use Rattle.std.proofs.Common.{arith}
use Rattle.board.specs.declared.Sort.TheVariants.{Lines, Pins}
use Rattle.image.proofs.Laws.Fine.{lines_few}
use Rattle.find.proofs.Laws.Book.{renewed_few}
use Rattle.alter.proofs.Laws.Renew.{puts, known_after, marked_or_none, renews_after, all_done}
use Rattle.alter.proofs.renew.rework.Goals as goal

pub put_record-requires : goal.put_record-requires
put_record-requires c = puts c.requires.0

-- the board after is accepted too, with the same counts
pub invariant_of-after : goal.invariant_of-after
invariant_of-after c = record { known = known_after c.requires.0 _ c.put_record.ensures }

pub mark_met_after-requires : goal.mark_met_after-requires
mark_met_after-requires c =
    marked_or_none c.requires.0 _ c.put_record.ensures c.args.marks.now c.requires.2 c.requires.1 c.mark_met.new.row c.mark_met.ensures

pub renew-on_lines-requires : goal.renew-on_lines-requires
renew-on_lines-requires c = renews_after c.requires.0 _ c.put_record.ensures Lines

pub renew-on_pins-requires : goal.renew-on_pins-requires
renew-on_pins-requires c = renews_after c.requires.0 _ c.put_record.ensures Pins

pub overflow_add-result : goal.overflow_add-result
overflow_add-result c =
    let asked = c.requires.0 in
    record {
      fits =
          omega (arith, renewed_few Lines c.renew-on_lines.ensures, renewed_few Pins c.renew-on_pins.ensures, asked.long Lines, asked.long Pins, lines_few _ asked.known.ok);
    }

pub returns : goal.returns
returns c =
    all_done c.requires.0 _ c.put_record.ensures c.args.marks.now c.requires.2 c.requires.1 c.mark_met.new.row c.mark_met.ensures c.mark_met.auto.row
    c.mark_met_after.new.row c.mark_met_after.ensures c.renew-on_lines.ensures c.renew-on_pins.ensures
