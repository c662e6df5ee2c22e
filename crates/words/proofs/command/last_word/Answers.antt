-- The words are the parts, and the last of them is given.
use Rattle.std.proofs.Common.{◌≡◌, eqb, rules, tests, map, refl}
use Rattle.std.proofs.lemmas.Iterator.Splits.{YieldsList-from_slice_split}
use Rattle.words.specs.Parts.{words}
use Rattle.words.proofs.Laws.Command.{drained, last_given}
use Rattle.words.proofs.command.last_word.Goals as goal

pub returns : goal.returns
returns c =
    let ran = c.last.ensures.ran in
    let is : map (λ x. x.now) ran.0 ≡ words c.args.line.now =
    drained ran.0 ran.1 (YieldsList-from_slice_split _ (λ x. eqb x 32) c.args.line.now c.split.ensures.rest c.split.ensures.done c.split.ensures.closure (λ x r q k. search (rules, tests))) in
    rw (c.unwrap_or.ensures, ran.2) (last_given ran.0 _ _ is refl)
