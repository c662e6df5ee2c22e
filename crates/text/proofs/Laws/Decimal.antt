-- How many digits a number has.
use mathlib.Core.Path.{◌≡◌, sym, ap, ◌∙◌}
use mathlib.Core.Logic.{⊎_elim}
use mathlib.Core.Option.{get_or}
use Prim.Native.Nat.{ℕ, suc, ◌-◌, ◌^◌, ◌≤◌, ◌<◌}
use native.Mathlib.Nat.{le_trans, lt_irrefl, lt_of_lt_of_le, pow-le-pow_right}
use native.Mathlib.Omega.{arith}
use lib.Dec.{leb, ltb, lit<, lit≤}
use borrow.Author.Tests.{lt-ltb, le-ltb, leb-true, leb-false}
use Rattle.io.specs.Digits.{IsDigitCount}
use Rattle.board.proofs.Lists.{way}
use Rattle.board.proofs.Search.{first_at}
use Rattle.text.specs.Text.{places}

-- a number of 64 bits has at most 20 digits
pub fewest_short : (n k : ℕ) → n < 2 ^ 64 → IsDigitCount 10 1 n k → k ≤ 20
fewest_short n k l (one, holds, least) =
    ⊎_elim
    (λ e. leb-true k 20 e)
    (λ e.
    let many = leb-false k 20 e in
    let big : 10 ^ 20 ≤ n = le_trans (pow-le-pow_right (lit< tt) {i = 20} {j = k - 1} (omega arith)) (least (omega arith)) in
    absurd (lt_irrefl n (lt_of_lt_of_le l (le_trans (lit≤ tt) big))))
    (way (leb k 20))

-- the fewest digits are that many
pub fewest-places : (n k : ℕ) → k ≤ 20 → IsDigitCount 10 1 n k → k ≡ places n
unfolding places
fewest-places n k few (one, holds, least) =
    let k_suc : suc (k - 1) ≡ k = omega arith in
    let found = first_at (λ j. ltb n (10 ^ suc j)) 20 (k - 1) (omega arith) (lt-ltb n (10 ^ suc (k - 1)) (rw k_suc holds))
    (λ q l. le-ltb n (10 ^ suc q) (le_trans (pow-le-pow_right (lit< tt) {i = suc q} {j = k - 1} (omega arith)) (least (omega arith)))) in
    sym k_suc ∙ ap (λ o. suc (get_or o 0)) found
