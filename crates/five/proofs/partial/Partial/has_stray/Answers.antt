-- Some bit is stray exactly where `any` finds one.
use Rattle.std.proofs.Common.{◌∙◌, arith, rules, tests}
use Rattle.std.proofs.lemmas.Iterator.{YieldsList-from_range}
use Rattle.std.proofs.lemmas.Iterator.Search.{any_from_yields_List}
use Rattle.five.specs.Partial.{is_stray}
use Rattle.five.proofs.Laws.Partial.{any_stray}
use Rattle.five.proofs.partial.Partial.has_stray.Goals as goal

pub returns : goal.returns
returns c =
    let a = c.args in
    any_from_yields_List (is_stray a.self.named a.self.values) _ _ c.any.result c.any.ensures.ran (YieldsList-from_range 0 a.n a.n (cc) (omega arith))
    (λ x b q k. search (rules, tests))
    ∙ any_stray a.self.named a.self.values a.n
