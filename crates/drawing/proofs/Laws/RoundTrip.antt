-- What a call that was not refused leaves, for the round trip: what stands in front of a target.
use mathlib.Core.Path.{◌≡◌, refl, ap}
use mathlib.Core.Option.{Option, none, some}
use mathlib.Core.List.{List, [], ◌∷◌}
use Prim.Native.Nat.{ℕ, ◌≤◌}
use native.Mathlib.Omega.{arith}
use lib.ListN.{length, take, drop, length-append}
use lib.Seq.{take-append_seam}
use borrow.Author.Tests.{le-ltb}
use Rattle.image.specs.Refusals.{first_refusal}
use Rattle.image.specs.Promise.{Owes}
use Rattle.image.specs.declared.Refusal.{Refusal}
use Rattle.image.proofs.Laws.Promise.{done_leaves, done_says, unrefused}
use Rattle.drawing.specs.Calls.{making, too_short, in_front}

-- the first of some refusals, and the others
pub first_none_both : (o : Option Refusal) (rs : List (Option Refusal)) → first_refusal (o ∷ rs) ≡ none → (o ≡ none) × (first_refusal rs ≡ none)
first_none_both none rs e = (refl, e)
first_none_both (some r) rs e = (e, cc)

pub none_first : (o : Option Refusal) (rs : List (Option Refusal)) → o ≡ none → first_refusal rs ≡ none → first_refusal (o ∷ rs) ≡ none
none_first o rs e f = rw e f

-- a refusal is not none
pub never_none : {A : Type 0} (r : Refusal) → some r ≡ none → A
never_none r e = let z : ◌≡◌ {A = ℕ} 0 1 = cc in absurd (omega arith)

-- a target with room
pub long_enough : (made target : List ℕ) → length made ≤ length target → too_short made target ≡ none
long_enough made target h = rw (le-ltb (length target) (length made) h)

-- a call that made something says its length, and leaves it in front
pub record Leaves (made target left said : List ℕ) : Type 0 where
  pub holds : left ≡ in_front made target
  pub says : said ≡ 0 ∷ length made ∷ []

module _ (rs : List (Option Refusal)) (made target left said : List ℕ) where
  pub leaves : Owes (making rs made target) (left ∷ []) said → first_refusal rs ≡ none → Leaves made target left said
  leaves owes none-given = record { holds = cc (done_leaves owes none-given); says = done_says owes none-given }

pub both : {made target left said : List ℕ} → Leaves made target left said → (left ≡ in_front made target) × (said ≡ 0 ∷ length made ∷ [])
both l = (l.holds, l.says)

-- the bytes that it made
pub first-bytes : (made target left : List ℕ) (n : ℕ) → Leaves made target left (0 ∷ n ∷ []) → take n left ≡ made
first-bytes made target left n l =
    let long : n ≡ length made = cc l.says in
    rw (long, l.holds) (take-append_seam made (drop (length made) target))

-- they fit the target
pub made_fits : (rs : List (Option Refusal)) (made target left : List ℕ) (n : ℕ) → Owes (making rs made target) (left ∷ []) (0 ∷ n ∷ []) → length left ≡ length target → n ≤ length target
made_fits rs made target left n owes same =
    let l = leaves rs made target left (0 ∷ n ∷ []) owes (unrefused owes) in
    let long : n ≡ length made = cc l.says in
    omega (arith, ap length l.holds, length-append made (drop (length made) target))
