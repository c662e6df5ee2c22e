-- What a promise settles: a refusal is told by its numbers and no answer has one's, so any two outcomes that a promise allows are equal.
use mathlib.Core.Path.{◌≡◌, refl, sym, ap, ◌∙◌}
use mathlib.Core.Option.{Option, none, some}
use mathlib.Core.List.{List, [], ◌∷◌}
use Prim.Native.Nat.{ℕ, ◌<◌}
use native.Mathlib.Nat.{not-suc-le-zero}
use lib.Dec.{lit<}
use lib.ListN.{get_or}
use Rattle.image.specs.Refusals.{first_refusal}
use Rattle.image.specs.Promise.{numbers, answer, Promise, Owes}
use Rattle.image.specs.declared.Refusal.{Refusal}
use Rattle.image.specs.declared.Refusal.TheVariants.{Mark, Counts, Distance, Record, Output, Line, Stuck, Pattern, Lent, Alteration, Row, Pin, Form, Target}

-- what an answer's numbers tell, where each case of an answer is `done` or a refusal
unfoldable pub read_back : {A : Type 0} → A → (Refusal → A) → List ℕ → A
read_back done refused v =
    get_or
    (done
    ∷ refused Mark
    ∷ refused Counts
    ∷ refused Distance
    ∷ refused (Record (get_or v 1 0) (get_or v 2 0))
    ∷ refused (Output (get_or v 1 0))
    ∷ refused Line
    ∷ refused Stuck
    ∷ refused Pattern
    ∷ refused Lent
    ∷ refused Alteration
    ∷ refused Row
    ∷ refused Pin
    ∷ refused (Form (get_or v 1 0))
    ∷ refused Target
    ∷ [])
    (get_or v 0 0) done

module _ {A : Type 0} (done : A) (refused : Refusal → A) where
  pub refused_again : (r : Refusal) → read_back done refused (numbers r) ≡ refused r
  unfolding read_back
  refused_again Mark = refl
  refused_again Counts = refl
  refused_again Distance = refl
  refused_again (Record line field) = refl
  refused_again (Output place) = refl
  refused_again Line = refl
  refused_again Stuck = refl
  refused_again Pattern = refl
  refused_again Lent = refl
  refused_again Alteration = refl
  refused_again Row = refl
  refused_again Pin = refl
  refused_again (Form length) = refl
  refused_again Target = refl

-- a refusal's number is not 0
pub number_over : (r : Refusal) → 0 < get_or (numbers r) 0 0
number_over Mark = lit< tt
number_over Counts = lit< tt
number_over Distance = lit< tt
number_over (Record line field) = lit< tt
number_over (Output place) = lit< tt
number_over Line = lit< tt
number_over Stuck = lit< tt
number_over Pattern = lit< tt
number_over Lent = lit< tt
number_over Alteration = lit< tt
number_over Row = lit< tt
number_over Pin = lit< tt
number_over (Form length) = lit< tt
number_over Target = lit< tt

-- an answer is told by its numbers
pub record Told {A : Type 0} (says : A → List ℕ) : Type 0 where
  pub one : (a b : A) → says a ≡ says b → a ≡ b

-- as it is where they can be read back
pub told : {A : Type 0} (says : A → List ℕ) (back : List ℕ → A) → ((a : A) → back (says a) ≡ a) → Told says
told says back again = record { one = λ a b e. sym (again a) ∙ ap back e ∙ again b }

-- what a call owes, refused or not
pub owes_refused : {p : Promise} {r : Refusal} → first_refusal p.refusals ≡ some r → Owes p p.lent (numbers r)
owes_refused e = record { leaves = rw e; answers = rw e }

pub owes_done : {p : Promise} → first_refusal p.refusals ≡ none → Owes p p.filled (0 ∷ p.done)
owes_done e = record { leaves = rw e; answers = rw e }

-- what it owes where no refusal applies, the other way round
module _ {p : Promise} {left : List (List ℕ)} {said : List ℕ} (owes : Owes p left said) (none-given : first_refusal p.refusals ≡ none) where
  pub done_leaves : left ≡ p.filled
  done_leaves = rw none-given at owes.leaves

  pub done_says : said ≡ 0 ∷ p.done
  done_says = rw none-given at owes.answers

-- what begins with 0 is said only where no refusal applies
pub unrefused : {p : Promise} {left : List (List ℕ)} {said : List ℕ} → Owes p left (0 ∷ said) → first_refusal p.refusals ≡ none
unrefused {p} {left} {said} owes =
    go (first_refusal p.refusals) owes.answers
  where
    go : (o : Option Refusal) → 0 ∷ said ≡ answer o p.done → o ≡ none
    go none e = refl
    go (some r) e = absurd (not-suc-le-zero (rw (← e) at (number_over r)))

-- any two outcomes that a promise allows are equal: the answer, and all that was lent
pub pinned : {A : Type 0} {says : A → List ℕ} → Told says → (p : Promise) (a b : A) (left later : List (List ℕ)) → Owes p left (says a) → Owes p later (says b)
    → (a ≡ b) × (left ≡ later)
pinned numbers-tell p a b left later x y = (numbers-tell.one a b (x.answers ∙ sym y.answers), x.leaves ∙ sym y.leaves)
