-- One mask for all eight below input 6, and the bit of each word's own base from there on.
use Rattle.std.proofs.Common.{◌+◌, ◌*◌, ℕ, sym, ap, ◌∙◌}
use Rattle.std.proofs.Math.Nat.{add-zero}
use Rattle.lanes.specs.Words.{each, input_word}
use Rattle.lanes.proofs.Laws.Join.{input_low, input_high}
use Rattle.lanes.proofs.fill.input_words.Goals as goal
use mathlib.Core.Path.{fun_ext}

pub returns-then-i-lt6 : goal.returns-then-i-lt6
returns-then-i-lt6 c = ap each (fun_ext (λ w. c.low_word.ensures ∙ input_low (c.args.base + 64 * w) c.args.i c.if-i-lt6.true))

pub returns : goal.returns
returns c =
    let a = c.args in
    let h = c.if-i-lt6.false in
    cc (
      c.high_word.ensures ∙ input_high a.base a.i h ∙ ap (λ (x : ℕ). input_word x a.i) (sym (add-zero a.base)),
      c.high_word-2.ensures ∙ input_high (a.base + 64) a.i h,
      c.high_word-3.ensures ∙ input_high (a.base + 128) a.i h,
      c.high_word-4.ensures ∙ input_high (a.base + 192) a.i h,
      c.high_word-5.ensures ∙ input_high (a.base + 256) a.i h,
      c.high_word-6.ensures ∙ input_high (a.base + 320) a.i h,
      c.high_word-7.ensures ∙ input_high (a.base + 384) a.i h,
      c.high_word-8.ensures ∙ input_high (a.base + 448) a.i h,
    )
