-- Fields are counted on from record to record, so the first bad field that the loops leave is the first of all.
use Rattle.std.proofs.Common.{◌≡◌, ℕ, ◌+◌, ◌*◌, ◌<◌, sym, ap, ◌∙◌, arith}
use Rattle.std.proofs.Math.Dec.{lit<}
use Rattle.board.specs.Board.{leading}
use Rattle.board.proofs.Search.{Below, first_at, first_none}
use Rattle.image.specs.Image.{line_count, first_record, record_place, records}
use Rattle.image.specs.Refusals.{bad_at, first_bad}
use Rattle.image.proofs.Laws.Records.{bad_at_lem, kind_field, lead_below, counts_on, record_named}
use Rattle.image.proofs.records.scan_records.Goals as goal

pub overflow_add-inputs : goal.overflow_add-inputs
overflow_add-inputs c =
    let img = c.args.img.now in
    omega (arith, c.loop-field.invariant.1, lead_below img (first_record img) c.loop-line.line)

pub loop-line-preserved : goal.loop-line-preserved
loop-line-preserved c =
    let img = c.args.img.now in
    let line = c.loop-line.line in
    let all_fields : Below (bad_at img) (6 * (line + 1)) = λ q l. c.loop-field.invariant.0 q (omega (arith, c.loop-field-test.false)) in
    let kind_good = sym (kind_field img (record_place img line) line _) ∙ sym (bad_at_lem img line 0 (lit< tt)) ∙ all_fields (6 * line + 0) (omega arith) in (
      all_fields,
      counts_on img (first_record img) line _ _ kind_good c.loop-field.invariant.1 (rw c.first_record-start.ensures.0 at c.input_at-inputs.ensures.0),
    )

pub returns : goal.returns
unfolding first_bad
returns c =
    let img = c.args.img.now in
    let all_lines : c.loop-line.line ≡ line_count img = omega (arith, c.line_count-line-end.ensures.0, c.loop-line-test.false) in (
      sym (first_none (bad_at img) _ (6 * c.loop-line.line) (rw all_lines (omega arith)) c.loop-line.invariant.0),
      c.loop-line.invariant.1 ∙ ap (λ (n : ℕ). leading (records img (first_record img) n)) all_lines,
    )

pub returns-2 : goal.returns-2
unfolding first_bad
returns-2 c =
    let img = c.args.img.now in
    let line = c.loop-line.line in
    let field = c.loop-field.field in
    let inside : line < line_count img = rw c.line_count-line-end.ensures.0 at c.loop-line-test.true in
    let here : c.is_bad_field.result ≡ bad_at img (6 * line + field) =
    cc (c.is_bad_field.ensures, c.first_record-start.ensures.0, c.loop-field.invariant.1, bad_at_lem img line field c.loop-field-test.true)
    in
    record_named img line field c.loop-field-test.true
    (sym (first_at (bad_at img) _ _ (omega (arith, inside, c.loop-field-test.true)) (sym here ∙ c.if-is_bad_field.true) c.loop-field.invariant.0))
