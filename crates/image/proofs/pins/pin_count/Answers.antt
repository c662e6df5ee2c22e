-- The byte behind the record's kind is its pin count.
use Rattle.std.proofs.Common.{ℕ, ◌+◌, ap, ◌∙◌}
use Rattle.image.specs.Bytes.{byte_at}
use Rattle.image.proofs.Laws.Line.{pin_count}
use Rattle.image.proofs.pins.pin_count.Goals as goal

pub returns : goal.returns
returns c =
    let s = c.args.img.now in
    c.byte.ensures.0 ∙ ap (λ (p : ℕ). byte_at s (p + 1)) c.record_place.ensures.0 ∙ pin_count s c.args.line c.requires.0
