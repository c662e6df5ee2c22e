-- The outputs that pass the test are counted.
use Rattle.std.proofs.Common.{ℕ, get_or, ◌∙◌, arith, rules, tests}
use Rattle.std.proofs.lemmas.Iterator.{YieldsList-from_range}
use Rattle.std.proofs.lemmas.Iterator.Consumers.{YieldsList-from_filter, count_from_yields_List}
use Rattle.std.proofs.lemmas.List.Sums.{length-filter}
use Rattle.std.specs.List.{range_with_len}
use Rattle.image.specs.Image.{output_at}
use Rattle.five.specs.Driven.{is_driven}
use Rattle.five.proofs.Laws.Driven.{outputs_driven}
use Rattle.five.proofs.count.count_driven.Goals as goal

pub returns : goal.returns
returns c =
    let a = c.args in
    let test = λ (k : ℕ). is_driven (get_or a.row.now (output_at a.img.now k) 0) in
    let n = c.output_count-outputs.result in
    count_from_yields_List c.filter.result c.count.result c.count.ensures.ran
    (YieldsList-from_filter _ test (YieldsList-from_range 0 n n (cc) (omega arith)) c.filter.ensures.closure (λ x r q k. search (rules, tests)))
    ∙ length-filter test (range_with_len 0 n)
    ∙ rw c.output_count-outputs.ensures.0 (outputs_driven a.img.now a.row.now)
