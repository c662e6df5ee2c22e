-- Letter by letter.
use Rattle.std.proofs.Common.{◌≡◌, Some, rules, tests, sym, ◌∙◌}
use Rattle.words.specs.Forms.{is_path_byte, letter_of, word_fit}
use Rattle.words.proofs.Laws.Forms.{fits_is, other_letter}
use Rattle.words.proofs.forms.word_fit.Goals as goal
use Rattle.words.proofs.forms.word_fit.Goals.{in_default-via-in-Some+in_default, in_default-via-in_default}

pub returns-in-Some-eq78 : goal.returns-in-Some-eq78
unfolding word_fit
returns-in-Some-eq78 c =
    let at : letter_of c.args.asked.now ≡ Some 78 = cc in
    rw (at, c.ok_or.ensures.value, c.then_some.ensures, c.is_some.ensures, c.number_of.ensures) (fits_is _ _)

pub returns-in-Some-eq70 : goal.returns-in-Some-eq70
unfolding word_fit
returns-in-Some-eq70 c =
    let at : letter_of c.args.asked.now ≡ Some 70 = cc in
    rw (at, c.ok_or-in-Some-eq70.ensures.value, c.then_some-in-Some-eq70.ensures, c.is_some-in-Some-eq70.ensures, c.fault_of.ensures) (fits_is _ _)

pub returns-in-Some-eq72 : goal.returns-in-Some-eq72
unfolding word_fit
returns-in-Some-eq72 c =
    let at : letter_of c.args.asked.now ≡ Some 72 = cc in
    rw (at, c.ok_or-in-Some-eq72.ensures.value, c.then_some-in-Some-eq72.ensures, c.is_hex.ensures) (fits_is _ _)

pub returns-in-Some-eq80 : goal.returns-in-Some-eq80
unfolding word_fit
returns-in-Some-eq80 c =
    let at : letter_of c.args.asked.now ≡ Some 80 = cc in
    let all = c.is_all.ensures is_path_byte (λ x b q k. search (rules, tests)) in
    rw (at, c.ok_or-in-Some-eq80.ensures.value, c.then_some-in-Some-eq80.ensures, all) (fits_is _ _)

pub returns-in_default : goal.returns-in_default
unfolding word_fit
returns-in_default c =
    elim c.in_default.branch [
      | in_default-via-in-Some+in_default w ↦ rw c.eq.ensures (sym (other_letter _ _ _ w.in_default.ensures w.in_default.field-0-test))
      | in_default-via-in_default w ↦ rw (sym c.letter.ensures ∙ w.in_default.is, c.eq.ensures)
    ]
