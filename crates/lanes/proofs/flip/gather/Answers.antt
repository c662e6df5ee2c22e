-- A line that is not changed, or no output, adds nothing.
use Rattle.std.proofs.Common.{ℕ, ◌+◌, ◌*◌, length, get_or, sym, ap, ◌∙◌, arith}
use Rattle.std.proofs.lemmas.Simd.{length-zip2}
use Rattle.std.specs.Int.Bits.{bit_or, bit_xor}
use Rattle.image.specs.Image.{board_of}
use Rattle.lanes.specs.Inner.{size}
use Rattle.lanes.proofs.Laws.Pass.{note_changed, changed_words, adds_on, note_kept, unchanged, adds_none, adds_off, gather_none}
use Rattle.lanes.proofs.Laws.Eight.{word_at, joined_at}
use Rattle.lanes.proofs.Laws.Fill.{low_board}
use Rattle.lanes.proofs.flip.gather.Goals as goal

pub returns-then-changed-i-ne1 : goal.returns-then-changed-i-ne1
returns-then-changed-i-ne1 c =
    let a = c.args in
    let b = board_of a.trial.img.now in
    let low = low_board a.trial.decoded a.i c.requires.1 in
    λ w l.
    let kept = unchanged b low a.trial.base a.line c.requires.2 (omega arith) a.i w (omega arith) l (note_kept (size b) a.line a.changed.now a.i c.if-changed-i-ne1.true) in
    gather_none b low a.trial.base a.line (get_or a.shown w 0) a.i w (adds_none b low a.trial.base a.line a.i w kept)

pub returns-then-not-trial-i : goal.returns-then-not-trial-i
returns-then-not-trial-i c =
    let a = c.args in
    let b = board_of a.trial.img.now in
    let is = a.trial.decoded in
    let low = low_board is a.i c.requires.1 in
    λ w l.
    gather_none b low a.trial.base a.line (get_or a.shown w 0) a.i w (adds_off b low a.trial.base a.line a.i w (sym (is.out a.i c.requires.1) ∙ c.if-not-trial-i.true))

pub returns : goal.returns
returns c =
    let a = c.args in
    let b = board_of a.trial.img.now in
    let is = a.trial.decoded in
    let low = low_board is a.i c.requires.1 in
    let h = c.requires.2 in
    let rows = a.rows.now in
    let n = length a.changed.now in
    λ w l.
    let good_one = word_at _ (λ u. get_or rows (8 * a.i + u) 0) c.eight_at.ensures w l ∙ h.block.good a.i w c.requires.1 l in
    let noted = note_changed (size b) a.line a.changed.now a.i c.requires.0 c.if-changed-i-ne1.false in
    let other = word_at _ (λ u. get_or rows (8 * (n + a.i) + u) 0) c.eight_at-2.ensures w l
    ∙ ap (λ (x : ℕ). get_or rows (8 * (x + a.i) + w) 0) h.long
    ∙ changed_words b low a.trial.base a.line h a.i w (omega arith) l noted in
    let good_long = ap length c.eight_at.ensures in
    let other_long = ap length c.eight_at-2.ensures in
    joined_at bit_or a.shown _ c.fits-shown.0 (length-zip2 bit_xor c.eight_at.result c.eight_at-2.result (good_long ∙ sym other_long) ∙ good_long) w l
    ∙ ap (bit_or (get_or a.shown w 0))
    (joined_at bit_xor c.eight_at.result c.eight_at-2.result good_long other_long w l
    ∙ cc (good_one, other, adds_on b low a.trial.base a.line a.i w (sym (is.out a.i c.requires.1) ∙ c.if-not-trial-i.false)))
