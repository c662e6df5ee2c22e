-- Where the texts of a set stop going along with a text: behind a piece, among pieces, and in a number.
use mathlib.Core.Path.{◌≡◌, refl, sym, ap, ◌∙◌}
use mathlib.Core.Logic.{⊎_elim, ◌⊎◌, inl, inr}
use mathlib.Core.Bool.{Bool, true, false, cond, ◌||◌}
use mathlib.Core.List.{List, [], ◌∷◌, ◌++◌, append_assoc, append_cancel_left}
use Prim.Native.Nat.{ℕ, zero, suc, ◌+◌, ◌≤◌, ◌<◌}
use native.Mathlib.Nat.{not-suc-le-zero, le_of_suc-le-suc, zero-add, add-suc, suc-add}
use native.Mathlib.Omega.{arith}
use lib.Dec.{T, eqb, lit≤, lit<}
use lib.ListN.{length, get_or, take, length-append, length-take}
use lib.Seq.{take-take, take-append-le, take-append-add, length-take-le}
use borrow.Author.Tests.{eqb-true, eqb-false, ne_eqb}
use Rattle.board.proofs.Lists.{way, clash}
use Rattle.text.specs.Text.{spelled, decimal, gap}
use Rattle.drawing.specs.Form.{last_number}
use Rattle.drawing.specs.Inner.{piece_forms, piece_count, piece, Stops, NoPiece, Digit, Ends, PieceThen, NumberThen}
use Rattle.drawing.proofs.Laws.Decimal.{Digits, no_more, one_more, decimal_digits, decimal_begins, decimal-one, decimal_told, decimal_goes_on, no_leading-zero}
use Rattle.drawing.proofs.Laws.Pieces.{every_below, at_each}

-- what two texts share, in a shorter beginning
pub share_less : (m n : ℕ) (a b : List ℕ) → m ≤ n → take n a ≡ take n b → take m a ≡ take m b
share_less m n a b l e = sym (take-take m n a l) ∙ ap (take m) e ∙ take-take m n b l

-- and behind a beginning that both have
pub share_behind : (l a b : List ℕ) (n : ℕ) → take (length l + n) (l ++ a) ≡ take (length l + n) (l ++ b) → take n a ≡ take n b
share_behind l a b n e = append_cancel_left l (take n a) (take n b) (sym (take-append-add l a n) ∙ e ∙ take-append-add l b n)

-- a beginning as long as the text shares with another is no longer than that
pub share_inside : (m : ℕ) (a b : List ℕ) → m ≤ length b → take m a ≡ take m b → m ≤ length a
share_inside m a b l e = omega (arith, length-take m a, length-take-le m b l, ap length e)

-- a set with the same texts
pub stops_same : {L M : List ℕ → Type 0} {rest : List ℕ} {m : ℕ} → ((s : List ℕ) → L s → M s) → ((s : List ℕ) → M s → L s) → Stops L rest m → Stops M rest m
stops_same into back stops =
    let (s, is, shared) = stops.one in
    record { inside = stops.inside; one = (s, into s is, shared); most = λ s w is e. stops.most s w (back s is) e }

-- a text that goes on with none of some pieces
pub piece_stops : {from to k : ℕ} {K : ℕ → List ℕ → Type 0} {rest : List ℕ} {m : ℕ} → NoPiece from to k rest m
    → ((which : ℕ) → from ≤ which → which < to → (v : List ℕ) × K which v) → Stops (PieceThen from to k K) rest m
piece_stops {k = k} {rest = rest} {m = m} nowhere follows =
    let (which, a, b, same) = nowhere.one in
    let (v, is) = follows which a b in
    record {
      inside = nowhere.inside;
      one = (piece which k ++ v, (which, a, b, v, is, refl), take-append-le m (piece which k) v (share_inside m (piece which k) rest nowhere.inside same) ∙ same);
      most = λ s w (which, a, b, v, is, e) share. nowhere.most which a b (v ++ w) (rw (e, append_assoc) at share);
    }

-- two forms that differ before any number in them
abbrev apart : List ℕ → List ℕ → Bool
apart [] g = false
apart (c ∷ cs) [] = false
apart (c ∷ cs) (d ∷ ds) = cond (eqb c gap || eqb d gap) false (cond (eqb c d) (apart cs ds) true)

heads : (n c d : ℕ) (a b x y : List ℕ) → length (c ∷ a) ≤ n → take n ((c ∷ a) ++ x) ≡ take n ((d ∷ b) ++ y)
    → (c ≡ d) × (p : ℕ) × (length a ≤ p) × (take p (a ++ x) ≡ take p (b ++ y))
heads zero c d a b x y l e = absurd (not-suc-le-zero l)
heads (suc p) c d a b x y l e = let here : c ≡ d = cc in let behind : take p (a ++ x) ≡ take p (b ++ y) = cc in (here, p, le_of_suc-le-suc l, behind)

apart_differ : (f g : List ℕ) (k n : ℕ) (x y : List ℕ) → apart f g ≡ true → length (spelled f (k ∷ [])) ≤ n
    → take n (spelled f (k ∷ []) ++ x) ≡ take n (spelled g (k ∷ []) ++ y) → ⊥
apart_differ [] g k n x y t l e = clash false t refl
apart_differ (c ∷ cs) [] k n x y t l e = clash false t refl
apart_differ (c ∷ cs) (d ∷ ds) k n x y t l e =
    ⊎_elim
    (λ (p : eqb c gap ≡ true). clash false (rw p at t) refl)
    (λ (p : eqb c gap ≡ false).
    ⊎_elim
    (λ (q : eqb d gap ≡ true). clash false (rw (p, q) at t) refl)
    (λ (q : eqb d gap ≡ false).
    let (here, m, long, behind) = heads n c d (spelled cs (k ∷ [])) (spelled ds (k ∷ [])) x y (rw p at l) (rw (p, q) at e) in
    ⊎_elim (λ (r : eqb c d ≡ true). apart_differ cs ds k m x y (rw (p, q, r) at t) long behind) (λ r. eqb-false c d r here) (way (eqb c d)))
    (way (eqb d gap)))
    (way (eqb c gap))

pub or_not : (a b : Bool) → T (a || b) → a ≡ false → b ≡ true
or_not true b t e = clash true refl e
or_not false true t e = refl
or_not false false t e = absurd t

-- so do any two pieces
pub pieces_differ : (i j : ℕ) → i < piece_count → j < piece_count → (i ≡ j → ⊥) → (k n : ℕ) (x y : List ℕ) → length (piece i k) ≤ n
    → take n (piece i k ++ x) ≡ take n (piece j k ++ y) → ⊥
unfolding piece piece_forms
pieces_differ i j li lj other k n x y l e =
    apart_differ (get_or piece_forms i []) (get_or piece_forms j []) k n x y
    (or_not (eqb i j) (apart (get_or piece_forms i []) (get_or piece_forms j []))
    (at_each (λ w. eqb i w || apart (get_or piece_forms i []) (get_or piece_forms w [])) piece_count
    (at_each (λ u. every_below (λ w. eqb u w || apart (get_or piece_forms u []) (get_or piece_forms w [])) piece_count) piece_count tt i li) j lj)
    (ne_eqb i j other))
    l e

-- a text that goes on with one of some pieces
pub piece-behind : (k : ℕ) {from to : ℕ} {K : ℕ → List ℕ → Type 0} {rest after : List ℕ} {m : ℕ} (which : ℕ) → from ≤ which → which < to → to ≤ piece_count
    → rest ≡ piece which k ++ after → Stops (K which) after m → Stops (PieceThen from to k K) rest (length (piece which k) + m)
piece-behind k {from} {to} {K} {rest} {after} {m} which a b few is stops =
    let p = piece which k in
    let (v, so, same) = stops.one in
    record {
      inside = rw (is, length-append) (omega (arith, stops.inside));
      one = (p ++ v, (which, a, b, v, so, refl), rw (is, take-append-add, take-append-add, same));
      most = λ s w (other, c, d, u, goes, e) share.
          let n = suc (length p + m) in
          let whole : take n (piece other k ++ (u ++ w)) ≡ take n (p ++ after) =
          sym (ap (take n) (ap (λ (z : List ℕ). z ++ w) e ∙ append_assoc (piece other k) u w)) ∙ share ∙ ap (take n) is in
          ⊎_elim
          (λ (q : eqb which other ≡ true).
          let it = eqb-true which other q in
          stops.most u w (rw it goes) (share_behind p (u ++ w) after (suc m) (rw add-suc (rw (sym it) at whole))))
          (λ q. pieces_differ which other (omega arith) (omega arith) (eqb-false which other q) k n after (u ++ w) (omega arith) (sym whole))
          (way (eqb which other));
    }

-- what begins with a byte shares it with the other text
first_shared : (c : ℕ) (y rest : List ℕ) (m : ℕ) → take (suc m) (c ∷ y) ≡ take (suc m) rest → (z : List ℕ) × (rest ≡ c ∷ z)
first_shared c y [] m e = let none_left : length (c ∷ take m y) ≡ 0 = ap length e in absurd (omega arith)
first_shared c y (d ∷ z) m e = let here : c ≡ d = cc in (z, ap (λ (g : ℕ). g ∷ z) (sym here))

-- digits and then something else, beside other digits: the same, or the first go on where the second end
digits_beside : {a b : List ℕ} → Digits a → Digits b → (c : ℕ) (x r : List ℕ) (m : ℕ) → (Digit c → ⊥) → take (suc (length b + m)) (a ++ c ∷ x) ≡ take (suc (length b + m)) (b ++ r)
    → ((a ≡ b) × (take (suc m) (c ∷ x) ≡ take (suc m) r)) ⊎ ((d : ℕ) × (y z : List ℕ) × (a ≡ b ++ d ∷ y) × (r ≡ d ∷ z) × Digit d)
digits_beside no_more no_more c x r m other e = inl (refl, simp zero-add at e)
digits_beside (one_more d y digit more) no_more c x r m other e = let (z, is) = first_shared d (y ++ c ∷ x) r m (simp zero-add at e) in inr (d, y, z, refl, is, digit)
digits_beside no_more (one_more f b digit more) c x r m other e = let here : c ≡ f = cc in absurd (other (rw here digit))
digits_beside (one_more d a digit more) (one_more f b second rest) c x r m other e =
    let here : d ≡ f = cc in
    let longer : suc (length b) + m ≡ suc (length b + m) = suc-add (length b) m in
    let behind : take (suc (length b) + m) (a ++ c ∷ x) ≡ take (suc (length b) + m) (b ++ r) = cc in
    ⊎_elim
    (λ (same, share). inl (cc, share))
    (λ (g, y, z, goes, is, digit). inr (g, y, z, cc, is, digit))
    (digits_beside more rest c x r m other (rw longer at behind))

-- a text that has no number
pub number_stops : {K : ℕ → List ℕ → Type 0} {rest : List ℕ} → ((c : ℕ) (x : List ℕ) → rest ≡ c ∷ x → Digit c → ⊥) → (v : List ℕ) × K 0 v → Stops (NumberThen K) rest 0
number_stops {rest = rest} other (v, follows) =
    record {
      inside = omega arith;
      one = (decimal 0 ++ v, (0, lit≤ tt, v, follows, refl), refl);
      most = λ s w (n, few, u, goes, e) share.
          let (c, x, begins, digit) = decimal_begins n in
          let is : s ++ w ≡ c ∷ ((x ++ u) ++ w) = ap (λ (z : List ℕ). z ++ w) (e ∙ ap (λ (z : List ℕ). z ++ u) begins) in
          let (z, first) = first_shared c ((x ++ u) ++ w) rest 0 (sym (ap (take 1) is) ∙ share) in
          other c z first digit;
    }

-- and one that goes on with a number, which can't go on itself
pub number_behind : {K : ℕ → List ℕ → Type 0} {rest after : List ℕ} {m : ℕ} (v : ℕ) → v ≤ last_number → rest ≡ decimal v ++ after → Ends v after
    → ((n : ℕ) (u : List ℕ) → K n u → (c : ℕ) × (x : List ℕ) × (u ≡ c ∷ x) × (Digit c → ⊥)) → Stops (K v) after m → Stops (NumberThen K) rest (length (decimal v) + m)
number_behind {K} {rest} {after} {m} v few is-rest ends others stops =
    let d = decimal v in
    let (u, so, same) = stops.one in
    record {
      inside = rw (is-rest, length-append) (omega (arith, stops.inside));
      one = (d ++ u, (v, few, u, so, refl), rw (is-rest, take-append-add, take-append-add, same));
      most = λ s w (n, small, u, goes, e) share.
          let (c, x, begins, other) = others n u goes in
          let long = suc (length d + m) in
          let is : s ++ w ≡ decimal n ++ c ∷ (x ++ w) =
          ap (λ (z : List ℕ). z ++ w) e ∙ append_assoc (decimal n) u w ∙ ap (λ (z : List ℕ). decimal n ++ (z ++ w)) begins in
          ⊎_elim
          (λ (same, shared).
          let it = decimal_told n v small few same in
          stops.most u w (rw (sym it) goes) (ap (λ (z : List ℕ). take (suc m) (z ++ w)) begins ∙ shared))
          (λ (g, y, z, on, first, digit).
          ⊎_elim
          (λ nought. no_leading-zero n g y small (on ∙ ap (λ (z : List ℕ). z ++ g ∷ y) (ap decimal nought ∙ decimal-one 0 (lit< tt))))
          (λ over. let large = decimal_goes_on n v g y small few on in omega arith)
          (ends g z first digit))
          (digits_beside (decimal_digits n) (decimal_digits v) c (x ++ w) after m other (sym (ap (take long) is) ∙ share ∙ ap (take long) is-rest));
    }
