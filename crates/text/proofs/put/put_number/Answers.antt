-- `text::put::put_number` meets its contract: the digits are the fewest that hold the number.
use Rattle.std.proofs.Common.{List, ℕ, ◌++◌, take, ap, ◌∙◌, arith}
use Rattle.io.specs.Digits.{last_digits}
use Rattle.text.specs.Text.{decimal}
use Rattle.text.proofs.Laws.Decimal.{fewest_short, fewest-places}
use Rattle.text.proofs.put.put_number.Goals as goal

pub returns : goal.returns
unfolding decimal
returns c =
    let few = fewest_short c.args.n c.decimal-k.result c.ranges.n.fits c.decimal-k.ensures.len in
    let k = fewest-places c.args.n c.decimal-k.result few c.decimal-k.ensures.len in (
      omega (arith, c.put.ensures),
      omega (arith, c.put.ensures, c.decimal-k.ensures.in_bounds),
      c.put.ensures.1 ∙ ap (λ (t : List ℕ). take c.args.at c.args.out.now ++ t) (c.decimal-k.ensures.digits ∙ ap (λ (j : ℕ). last_digits 10 j c.args.n) k),
    )
