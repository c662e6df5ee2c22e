-- How the line suits the form is how what is left of them does.
use Rattle.std.proofs.Common.{◌≡◌, eqb}
use Rattle.words.specs.Parts.{words}
use Rattle.words.specs.Forms.{form_fit}
use Rattle.words.proofs.Laws.Parts.{left}
use Rattle.words.proofs.forms.form_fit.Given as goal

abbrev pub invariant-loop-asked : goal.invariant-loop-asked
invariant-loop-asked l =
    (goal.iterator-loop-asked).can_next l.asked-iterator
    × (goal.iterator-loop-asked).is_finite l.asked-iterator
    × (form_fit (words l.form) (words l.line) ≡ form_fit (left (λ x. eqb x 32) l.asked-iterator) (left (λ x. eqb x 32) l.words))
