-- The row's value at the line that the pin names.
use Rattle.std.proofs.Common.{ℕ, ◌++◌, get_or, sym, ap, ◌∙◌}
use Rattle.image.proofs.Laws.Line.{pin_at}
use Rattle.rows.proofs.line.Reader.pin.Goals as goal

pub returns : goal.returns
returns c =
    let r = c.args.self.now in
    let row = r.before.now ++ r.part.now in
    (c.value_at.ensures.0 ∙ ap (λ (q : ℕ). get_or row q 0) c.word.ensures.0 ∙ sym (pin_at r.img.now r.at row c.args.j c.requires.1), c.value_at.ensures.1)
