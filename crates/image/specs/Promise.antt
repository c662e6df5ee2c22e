-- What any call owes.
use Rattle.std.specs.Prelude.{◌≡◌, List, [], ◌∷◌, ℕ, ◌-◌, length, get_or, take, Result, Ok, Err}
use Rattle.std.proofs.Math.Option.{Option, none, some}
use Rattle.image.specs.Refusals.{first_refusal}
use Rattle.image.specs.declared.Refusal.{Refusal}
use Rattle.image.specs.declared.Refusal.TheVariants.{Mark, Counts, Distance, Record, Output, Line, Stuck, Pattern, Lent, Alteration, Row, Pin, Form, Target}
use Rattle.image.specs.declared.said.Numbers.{Numbers}

-- a refusal's number, and what else is returned
abbrev pub numbers : Refusal → List ℕ
numbers Mark = 1 ∷ []
numbers Counts = 2 ∷ []
numbers Distance = 3 ∷ []
numbers (Record line field) = 4 ∷ line ∷ field ∷ []
numbers (Output place) = 5 ∷ place ∷ []
numbers Line = 6 ∷ []
numbers Stuck = 7 ∷ []
numbers Pattern = 8 ∷ []
numbers Lent = 9 ∷ []
numbers Alteration = 10 ∷ []
numbers Row = 11 ∷ []
numbers Pin = 12 ∷ []
numbers (Form length) = 13 ∷ length ∷ []
numbers Target = 14 ∷ []

-- what a call's answer says: 0 and its values, or a refusal's numbers
abbrev pub said_of : {A : Type 0} → (A → List ℕ) → Result A Refusal → List ℕ
said_of says (Ok a) = 0 ∷ says a
said_of says (Err r) = numbers r

-- what is said: a refusal's numbers, or 0 and the answer
abbrev pub answer : Option Refusal → List ℕ → List ℕ
answer none done = 0 ∷ done
answer (some r) done = numbers r

-- what was lent afterwards: as it was where the call is refused, else what it then holds
abbrev pub unless_refused : Option Refusal → List (List ℕ) → List (List ℕ) → List (List ℕ)
unless_refused none lent filled = filled
unless_refused (some r) lent filled = lent

-- a call's promise: its refusals in the order tested, what is answered where none applies, what was lent, and what that then holds
pub record Promise : Type 0 where
  pub refusals : List (Option Refusal)
  pub done : List ℕ
  pub lent : List (List ℕ)
  pub filled : List (List ℕ)

-- what a call that promises p owes: what it leaves in what was lent, and what it says
pub record Owes (p : Promise) (left : List (List ℕ)) (said : List ℕ) : Type 0 where
  pub leaves : left ≡ unless_refused (first_refusal p.refusals) p.lent p.filled
  pub answers : said ≡ answer (first_refusal p.refusals) p.done

-- what is said, side by side: its first number, how many follow it, and these, with 0 in the unused places
abbrev pub packed : List ℕ → Numbers
packed ns = record { number = get_or ns 0 0; values = length ns - 1; first = get_or ns 1 0; second = get_or ns 2 0; third = get_or ns 3 0 }

-- and one after the other again
abbrev pub unpacked : Numbers → List ℕ
unpacked n = n.number ∷ take n.values (n.first ∷ n.second ∷ n.third ∷ [])

-- these numbers stand so, and are all that stands there
pub record Packs (ns : List ℕ) (r : Numbers) : Type 0 where
  pub is : r ≡ packed ns
  pub back : unpacked r ≡ ns
