-- Two lines reach a common output exactly when their numbers have a common bit.
use mathlib.Core.Path.{◌≡◌, refl, sym, ◌∙◌}
use mathlib.Core.Logic.{⊎_elim}
use mathlib.Core.List.{List}
use mathlib.Core.Bool.{Bool, true, false, ◌&&◌}
use Prim.Native.Nat.{ℕ, min}
use native.Mathlib.Omega.{arith}
use lib.Bits.{bit_and}
use lib.Dec.{ltb}
use lib.ListN.{length, get_or}
use borrow.Author.Tests.{ltb-true, ltb-false, lt-ltb}
use Rattle.board.specs.Lists.{on, bit}
use Rattle.board.specs.Board.{Board}
use Rattle.board.specs.Gate.{bit_of}
use Rattle.board.specs.Reach.{reach, meets}
use Rattle.board.proofs.Lists.{way, somewhere_at, nowhere_at, and_true}
use Rattle.reach.specs.Numbers.{reaches_output, Numbered}
use Rattle.reach.proofs.Laws.Bits.{zero_bit, and_bit, some_bit}

both : (s t : Bool) → min (bit s) (bit t) ≡ bit (s && t)
both true true = refl
both true false = refl
both false true = refl
both false false = refl

lit : (t : Bool) → bit t ≡ 1 → t ≡ true
lit true e = refl
lit false e = absurd (omega (arith, e))

unlit : (t : Bool) → bit t ≡ 0 → t ≡ false
unlit true e = absurd (omega (arith, e))
unlit false e = refl

module _ (b : Board) (numbers : List ℕ) (right : Numbered b numbers) (a l : ℕ) where
  -- bit j of what the two numbers have in common
  common : (j : ℕ) → bit_of (bit_and (get_or numbers a 0) (get_or numbers l 0)) j ≡ bit (reaches_output b a j && reaches_output b l j)
  common j = and_bit (get_or numbers a 0) (get_or numbers l 0) j ∙ rw (right a j, right l j) (both (reaches_output b a j) (reaches_output b l j))

  -- two lines meet exactly when their numbers have a bit in common
  pub shared : on (bit_and (get_or numbers a 0) (get_or numbers l 0)) ≡ meets b a l
  unfolding meets
  shared =
      let w = bit_and (get_or numbers a 0) (get_or numbers l 0) in
      let meet : ℕ → Bool = λ o. reach b a o && reach b l o in
      ⊎_elim
      (λ (e : on w ≡ true).
      let (j, h) = some_bit w (ltb-true 0 w e) in
      let (one, other) = and_true (reaches_output b a j) (reaches_output b l j) (lit _ (sym (common j) ∙ h)) in
      let (there, first) = and_true (ltb j (length b.outs)) _ one in
      e ∙ sym (somewhere_at meet b.outs j (ltb-true j _ there) (rw (first, (and_true (ltb j (length b.outs)) _ other).1))))
      (λ (e : on w ≡ false).
      let none : w ≡ 0 = omega (arith, ltb-false 0 w e) in
      e ∙ sym (nowhere_at meet b.outs (λ j inside. unlit _ (sym (rw (lt-ltb j (length b.outs) inside, none) at (common j)) ∙ zero_bit j))))
      (way (on w))
