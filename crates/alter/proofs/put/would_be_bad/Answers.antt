-- Some field of the six is bad.
use Rattle.std.proofs.Common.{◌≡◌, ℕ, suc, zero, ◌<◌, Bool, true, false, get_or, refl, sym, arith, rules}
use Rattle.std.proofs.iter.runs.Sources.{ranges}
use Rattle.board.specs.Lists.{somewhere}
use Rattle.board.proofs.Lists.{somewhere_at, nowhere_at}
use Rattle.image.specs.Refusals.{bad_field}
use Rattle.alter.specs.Patch.{fields}
use Rattle.alter.proofs.put.would_be_bad.Goals as goal

field_at : (k : ℕ) → k < 6 → get_or fields k 0 ≡ k
field_at zero few = refl
field_at (suc zero) few = refl
field_at (suc (suc zero)) few = refl
field_at (suc (suc (suc zero))) few = refl
field_at (suc (suc (suc (suc zero)))) few = refl
field_at (suc (suc (suc (suc (suc zero))))) few = refl
field_at (suc (suc (suc (suc (suc (suc k)))))) few = absurd (omega arith)

any_field : (t : ℕ → Bool) (r : Bool) → (r ≡ true → (k : ℕ) × (k < 6) × (t k ≡ true)) → (r ≡ false → (k : ℕ) → k < 6 → t k ≡ false) → r ≡ somewhere t fields
any_field t true some none = let (k, few, bad) = some refl in sym (somewhere_at t fields k few (rw (field_at k few) bad))
any_field t false some none = sym (nowhere_at t fields (λ k few. rw (field_at k few) (none refl k few)))

pub returns : goal.returns
returns c =
    let a = c.args in
    any_field (bad_field a.new.now 0 a.line a.inputs) _ (λ e. search (rules, ranges)) (λ e k few. search (rules, ranges))
