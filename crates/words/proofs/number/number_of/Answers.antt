-- By whether there is a digit at the place, and whether the digits up to it still fit.
use Rattle.std.proofs.Common.{◌≡◌, ◌+◌, ◌*◌, ◌-◌, arith, sym, ◌∙◌, get_or}
use Rattle.words.specs.Number.{number_of}
use Rattle.words.proofs.Laws.Number.{digit_more, digit_not, digit_wide, no_more}
use Rattle.words.proofs.number.number_of.Goals as goal

pub returns-then-is_empty : goal.returns-then-is_empty
unfolding number_of
returns-then-is_empty c = rw (sym c.is_empty.ensures ∙ c.if-is_empty.true)

pub loop-x-init : goal.loop-x-init
unfolding number_of
loop-x-init c = (omega arith, rw (sym c.is_empty.ensures ∙ c.if-is_empty.false))

pub returns-then-not-is_ascii_digit : goal.returns-then-not-is_ascii_digit
returns-then-not-is_ascii_digit c = sym (digit_not c.args.word.now c.loop-x.x-index c.loop-x.value _ (omega arith) c.loop-x.invariant.1 (sym c.is_ascii_digit.ensures.value ∙ c.if-not-is_ascii_digit.true))

pub returns-in_err-value : goal.returns-in_err-value
returns-in_err-value c =
    c.from_residual.ensures ∙ sym (digit_wide c.args.word.now c.loop-x.x-index c.loop-x.value _ (omega arith) c.loop-x.invariant.1 (omega (arith, c.in_err-value.ensures)))

pub loop-x-preserved : goal.loop-x-preserved
loop-x-preserved c =
    let is : c.in_ok-value.value ≡ 10 * c.loop-x.value + (get_or c.args.word.now c.loop-x.x-index 0 - 48) = omega (arith, c.in_ok-value.ensures) in
    (omega arith, rw is (digit_more c.args.word.now c.loop-x.x-index c.loop-x.value _ (omega arith) c.loop-x.invariant.1 (sym c.is_ascii_digit.ensures.value ∙ c.if-not-is_ascii_digit.false)))

pub returns : goal.returns
returns c = sym (no_more c.args.word.now c.loop-x.x-index c.loop-x.value _ (omega arith) c.loop-x.invariant.1 c.loop-x.invariant.0)
