-- By how the line's next word suits the form's next word.
use Rattle.std.proofs.Common.{◌≡◌, ◌∷◌, Ok, Err, true, false, rules, tests, of_calls, sym, ap, ◌∙◌, eqb}
use Rattle.std.proofs.lemmas.List.Sorted.{answers_always}
use Rattle.std.proofs.lemmas.Result.{err_from_is_err_and}
use Rattle.words.specs.Parts.{words}
use Rattle.words.specs.Forms.{word_fit, both_fit, form_fit}
use Rattle.words.proofs.Laws.Parts.{left, left_more, left_none}
use Rattle.words.proofs.Laws.Forms.{fit_lack, fit_next, fit_end, fit_more}
use Rattle.words.proofs.forms.form_fit.Goals as goal
use Rattle.words.proofs.forms.form_fit.Goals.{In-Some, In-Some-next}

-- the form's next word, and the line's
asked_left : (c : In-Some) → left (λ x. eqb x 32) c.loop-asked.asked-iterator ≡ c.in-Some.asked.now ∷ left (λ x. eqb x 32) c.next.new.self
asked_left c =
    left_more (λ x. eqb x 32) c.loop-asked.asked-iterator _ c.next.new.self c.in-Some.asked c.in-Some.ensures.steps (answers_always _ _ _ (λ f a r q h. search (rules, tests)))

both_next : (c : In-Some-next) → form_fit (words c.args.form.now) (words c.args.line.now)
    ≡ both_fit (word_fit c.in-Some.asked.now c.in-Some-next.word.now) (form_fit (left (λ x. eqb x 32) c.next.new.self) (left (λ x. eqb x 32) c.next-in-loop-asked.new.self))
both_next c =
    let word = left_more (λ x. eqb x 32) c.loop-asked.words _ c.next-in-loop-asked.new.self c.in-Some-next.word c.in-Some-next.ensures.steps (answers_always _ _ _ (λ f a r q h. search (rules, tests))) in
    fit_next _ _ _ c.loop-asked.invariant.2 _ _ _ _ (asked_left (goal.at.In-Some-next c).In-Some) word

pub returns-in_default : goal.returns-in_default
returns-in_default c =
    let none = left_none (λ x. eqb x 32) c.loop-asked.words c.in_default.ensures.steps.0 in
    c.lack_fit.ensures ∙ sym (fit_lack _ _ _ c.loop-asked.invariant.2 _ _ (asked_left (goal.at.returns-in_default c).In-Some) none)

pub returns-in_err-word_fit : goal.returns-in_err-word_fit
returns-in_err-word_fit c =
    let p = err_from_is_err_and c.from_residual.result c.from_residual.ensures.1 in
    let is : word_fit c.in-Some.asked.now c.in-Some-next.word.now ≡ Err c.in_err-word_fit.field-0.0 = sym c.word_fit.ensures ∙ c.in_err-word_fit.was in
    rw (p.1, p.2, both_next (goal.at.returns-in_err-word_fit c).In-Some-next, is)

pub returns-then-not-branch : goal.returns-then-not-branch
returns-then-not-branch c =
    let is : word_fit c.in-Some.asked.now c.in-Some-next.word.now ≡ Ok false = sym c.word_fit.ensures ∙ c.in_ok-word_fit.was ∙ ap (λ b. Ok b) c.if-not-branch.true in
    rw (both_next (goal.at.returns-then-not-branch c).In-Some-next, is)

pub loop-asked-preserved : goal.loop-asked-preserved
loop-asked-preserved c =
    let is : word_fit c.in-Some.asked.now c.in-Some-next.word.now ≡ Ok true = sym c.word_fit.ensures ∙ c.in_ok-word_fit.was ∙ ap (λ b. Ok b) c.if-not-branch.false in
    (search of_calls, tt, rw (both_next (goal.at.loop-asked-preserved c).In-Some-next, is))

pub returns-in-None-next : goal.returns-in-None-next
returns-in-None-next c =
    let asks = left_none (λ x. eqb x 32) c.loop-asked.asked-iterator c.in-None.ensures.steps.0 in
    let words = left_none (λ x. eqb x 32) c.loop-asked.words c.in-None-next.ensures.steps.0 in
    sym (fit_end _ _ _ c.loop-asked.invariant.2 asks words)

pub returns-in-Some-next-2 : goal.returns-in-Some-next-2
returns-in-Some-next-2 c =
    let asks = left_none (λ x. eqb x 32) c.loop-asked.asked-iterator c.in-None.ensures.steps.0 in
    let word = left_more (λ x. eqb x 32) c.loop-asked.words _ c.next-2.new.self c.in-Some-next-2.field-0 c.in-Some-next-2.ensures.steps (answers_always _ _ _ (λ f a r q h. search (rules, tests))) in
    sym (fit_more _ _ _ c.loop-asked.invariant.2 _ _ asks word)
