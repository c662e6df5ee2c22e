-- No field before the present one is bad, and `inputs` lines lead.
use Rattle.std.proofs.Common.{◌≡◌, ◌+◌, ◌*◌}
use Rattle.board.specs.Board.{leading}
use Rattle.board.proofs.Search.{Below}
use Rattle.image.specs.Image.{first_record, records}
use Rattle.image.specs.Refusals.{bad_at}
use Rattle.image.proofs.records.scan_records.Given as goal

abbrev pub invariant-loop-line : goal.invariant-loop-line
invariant-loop-line l = Below (bad_at l.img) (6 * l.line) × (l.inputs ≡ leading (records l.img (first_record l.img) l.line))

abbrev pub invariant-loop-field : goal.invariant-loop-field
invariant-loop-field l = Below (bad_at l.img) (6 * l.line + l.field) × (l.inputs ≡ leading (records l.img (first_record l.img) l.line))
