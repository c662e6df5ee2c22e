-- The words are the parts, and the number is that of the part at the place.
use Rattle.std.proofs.Common.{◌≡◌, eqb, rules, tests, ap, ◌∙◌, slice_get, unwrap_or}
use Rattle.std.specs.Option.{option_map}
use Rattle.std.proofs.lemmas.Iterator.Consumers.{nth_from_yields_List}
use Rattle.std.proofs.lemmas.Iterator.Splits.{YieldsList-from_slice_split}
use Rattle.words.specs.Parts.{words}
use Rattle.words.proofs.Laws.Number.{number_of_word}
use Rattle.words.proofs.number.number_at.Goals as goal

pub returns : goal.returns
returns c =
    let word : option_map (λ x. x.now) c.nth.result ≡ slice_get (words c.args.line.now) c.args.place = nth_from_yields_List _ _ c.args.place c.nth.ensures.ran (YieldsList-from_slice_split _ (λ x. eqb x 32) c.args.line.now c.split.ensures.rest c.split.ensures.done c.split.ensures.closure (λ x r q k. search (rules, tests))) in
    c.unwrap_or.ensures ∙ ap (λ o. unwrap_or o 0) (number_of_word c.nth.result _ c.and_then.result word c.and_then.ensures)
