-- Any two outcomes that an exported call's promise allows are equal, the answer and what was lent: what is said is settled, and crosses alike.
use mathlib.Core.Path.{◌≡◌, sym, ap, ◌∙◌}
use mathlib.Core.List.{List}
use Prim.Native.Nat.{ℕ}
use Rattle.image.specs.Promise.{Promise, packed}
use Rattle.image.specs.declared.said.Numbers.{Numbers}
use Rattle.drawing.specs.Calls.{ByReading, read_promise}
use Rattle.drawing.proofs.Laws.Settled.{read_alike}
use Rattle.exports.specs.Exported.{Exported}

pub exported_pinned : (p : Promise) (a b : Numbers) (left later : List (List ℕ)) → Exported p left a → Exported p later b → (a ≡ b) × (left ≡ later)
exported_pinned p a b left later x y =
    let same = x.owed.answers ∙ sym y.owed.answers in
    (x.crosses.is ∙ ap packed same ∙ sym y.crosses.is, x.owed.leaves ∙ sym y.owed.leaves)

-- and of the reader's, by what its text is
pub read_exported_pinned : (t target : List ℕ) (a b : Numbers) (left later : List (List ℕ)) → ByReading t (λ is. Exported (read_promise is target) left a)
    → ByReading t (λ is. Exported (read_promise is target) later b) → (a ≡ b) × (left ≡ later)
read_exported_pinned t target a b left later one other =
    let (is, x, y) = read_alike t (λ is. Exported (read_promise is target) left a) (λ is. Exported (read_promise is target) later b) one other in
    exported_pinned (read_promise is target) a b left later x y
