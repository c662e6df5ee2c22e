-- `drawing::choose::common` meets its contract: it counts the places from the front on at which both have the same byte.
use Rattle.std.proofs.Common.{◌≡◌, ◌∙◌, ℕ, eqb, length, take, rules, tests}
use Rattle.std.specs.List.{prefix_len, zip}
use Rattle.std.proofs.lemmas.Iterator.{YieldsList-from_slice, YieldsList-from_zip}
use Rattle.std.proofs.lemmas.Iterator.Search.{YieldsList-from_take_while}
use Rattle.std.proofs.lemmas.Iterator.Consumers.{count_from_yields_List}
use Rattle.std.proofs.lemmas.List.Folds.{length-prefix_len}
use Rattle.drawing.proofs.Laws.Reading.{common_is}
use Rattle.drawing.proofs.choose.common.Goals as goal

pub returns : goal.returns
returns c =
    let rest = c.args.rest.now in
    let word = c.args.word.now in
    let same : ℕ × ℕ → _ = λ p. eqb p.0 p.1 in
    let counted : c.count.result ≡ length (take (prefix_len same (zip rest word)) (zip rest word)) =
    count_from_yields_List c.take_while.result c.count.result c.count.ensures.ran
    (YieldsList-from_take_while _ same (YieldsList-from_zip (YieldsList-from_slice rest cc) (YieldsList-from_slice word cc)) c.take_while.ensures.closure c.take_while.ensures.done (λ x b q k. search (rules, tests))) in
    rw (counted ∙ length-prefix_len same (zip rest word)) (common_is rest word)
