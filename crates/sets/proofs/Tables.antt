-- Each row of the code is right at each of its 16 sets: one test, which is computed at the row, and one lemma that takes it to a set.
use mathlib.Core.Path.{◌≡◌, ap}
use mathlib.Core.Logic.{inl, inr, ⊎_elim}
use mathlib.Core.Bool.{Bool, true, false, ◌&&◌, ◌||◌}
use Prim.Native.Nat.{ℕ, zero, suc, ◌+◌, ◌*◌, ◌/◌, ◌%◌, ◌≤◌, ◌<◌}
use native.Mathlib.Omega.{arith}
use lib.Dec.{T, eqb, ltb, ltb→lt}
use lib.Bits.{bit_and}
use mir.Facts.{and_yes}
use borrow.Author.Tests.{lt-ltb, le-ltb}
use Rattle.board.specs.Lists.{bit}
use Rattle.board.specs.Gate.{kinds}
use Rattle.board.proofs.Lists.{or_true}
use Rattle.sets.specs.Sets.{has, In, join, Forward, Backward, Common, Parted, Held, Freed, Follows}
use Rattle.sets.specs.Inner.{cell, Forwards, Backwards, Turned, Turns}
use Rattle.sets.proofs.Sets.{bits, at_bit, pairs, at_pair, below, at_below, implies, implied, true-T, images, image_in, join-below, join-turned, join_undone}

-- a test at each set, of the set and what a row has there
unfoldable pub each : (ℕ → ℕ → Bool) → ℕ → Bool
unfolding below cell
each f row = below 16 (λ s. f s (cell row s))

pub at_each : (f : ℕ → ℕ → Bool) (row : ℕ) → T (each f row) → (s : ℕ) → s < 16 → T (f s (cell row s))
unfolding each
at_each f row t s l = at_below 16 (λ u. f u (cell row u)) t s l

-- what code reads of a row at a set
at_set : (f : ℕ → ℕ → Bool) (row : ℕ) → T (each f row) → (s r : ℕ) → s < 16 → r ≡ cell row (s % 16) → T (f s r)
at_set f row t s r l e =
    let m : s % 16 ≡ s = omega arith in
    rw (e, m) (at_each f row t s l)

-- k is none of the n numbers from m on: what is known past the arms of a `match`
abbrev pub Misses : ℕ → ℕ → ℕ → Type 0
Misses m zero k = Unit {0}
Misses m (suc n) k = Misses m n k × (k ≡ m + n → ⊥)

pub past : (m n k : ℕ) → m ≤ k → Misses m n k → m + n ≤ k
past m zero k l h = omega arith
past m (suc n) k l (h, ne) = let r = past m n k l h in omega arith

-- what a gate gives
unfoldable pub is_forward : ℕ → ℕ → ℕ → Bool
unfolding has join kinds pairs implies images
is_forward k t r = pairs (λ g h. implies (has (k % 16) g h) (images (has t) (λ u v. join (k / 16) g u) (λ u v. join (k / 16) h v) r))

pub forwards_at : {k : ℕ} (n row : ℕ) → k ≡ n → T (each (is_forward n) row) → Forwards k row
unfolding is_forward
forwards_at {k} n row e all = rw e right
  where
    right : Forwards n row
    right l t g h u v a b =
        let o = n / 16 in
        let here = at_pair (λ w x. implies (has (n % 16) w x) (images (has t) (λ y z. join o w y) (λ y z. join o x z) (cell row t))) (at_each (is_forward n) row all t b.set) g h a.good-bit a.faulty-bit in
        image_in (has t) (λ y z. join o g y) (λ y z. join o h z) (cell row t) (true-T _ (implied (has (n % 16) g h) _ here a.inside))
        b.good-bit b.faulty-bit b.inside (join-below o g u) (join-below o h v)

pub forward_is : (o s t row r : ℕ) → o < 3 → Forwards (16 * o + s) row → r ≡ cell row (t % 16) → Forward o s t r
forward_is o s t row r ob f e g h u v a b =
    let k = 16 * o + s in
    let l = a.set in
    let m = b.set in
    let e0 : k / 16 ≡ o = omega arith in
    let e1 : k % 16 ≡ s = omega arith in
    let e2 : t % 16 ≡ t = omega arith in
    let here : Forward (k / 16) (k % 16) t (cell row t) = f (omega arith) t in
    let there : Forward o s t (cell row t) = rw (e0, e1) at here in
    rw (e, e2) (there g h u v a b)

-- what a pin can be
unfoldable pub is_backward : ℕ → ℕ → ℕ → Bool
unfolding has join kinds pairs implies images
is_backward k s r = pairs (λ g h. implies (has s g h) (images (λ u v. has (k % 16) (join (k / 16) g u) (join (k / 16) h v)) (λ u v. u) (λ u v. v) r))

pub backwards_at : {k : ℕ} (n row : ℕ) → k ≡ n → T (each (is_backward n) row) → Backwards k row
unfolding is_backward
backwards_at {k} n row e all = rw e right
  where
    right : Backwards n row
    right l s g h u v ub vb a b =
        let o = n / 16 in
        let here = at_pair (λ w x. implies (has s w x) (images (λ y z. has (n % 16) (join o w y) (join o x z)) (λ y z. y) (λ y z. z) (cell row s))) (at_each (is_backward n) row all s b.set) g h b.good-bit b.faulty-bit in
        image_in (λ y z. has (n % 16) (join o g y) (join o h z)) (λ y z. y) (λ y z. z) (cell row s) (true-T _ (implied (has s g h) _ here b.inside))
        ub vb a.inside ub vb

-- the pins of an exclusive-or, by what it gives
pub xor_backwards : (k row : ℕ) → 32 ≤ k → Forwards k row → Backwards k row
xor_backwards k row l f m s g h u v ub vb a b =
    let e : k / 16 ≡ 2 = omega arith in
    let here : Forward 2 (k % 16) s (cell row s) = rw e at (f m s) in
    let given : In (k % 16) (join 2 u g) (join 2 v h) = rw (join-turned 2 u g, join-turned 2 v h, ← e) a in
    rw (join_undone g u b.good-bit ub, join_undone h v b.faulty-bit vb) at (here _ _ g h given b)

pub backward_is : (o z s row r : ℕ) → o < 3 → Backwards (16 * o + z) row → r ≡ cell row (s % 16) → Backward o z s r
backward_is o z s row r ob f e g h u v ub vb a b =
    let k = 16 * o + z in
    let l = a.set in
    let m = b.set in
    let e0 : k / 16 ≡ o = omega arith in
    let e1 : k % 16 ≡ z = omega arith in
    let e2 : s % 16 ≡ s = omega arith in
    let here : Backward (k / 16) (k % 16) s (cell row s) = f (omega arith) s in
    let there : Backward o z s (cell row s) = rw (e0, e1) at here in
    rw (e, e2) (there g h u v ub vb a b)

-- what two sets have in common
unfoldable is_common : ℕ → ℕ → Bool
unfolding has images
is_common s t = images (λ g h. has s g h && has t g h) (λ g h. g) (λ g h. h) (bit_and s t)

every_common : T (below 16 (λ s. below 16 (is_common s)))
unfolding is_common below
every_common = tt

both : (a b : Bool) → a ≡ true → b ≡ true → (a && b) ≡ true
both true b e f = f
both false b e f = e

pub common_is : (s t : ℕ) → Common s t (bit_and s t)
unfolding is_common
common_is s t g h a b =
    let here = at_below 16 (is_common s) (at_below 16 (λ w. below 16 (is_common w)) every_common s a.set) t b.set in
    image_in (λ u v. has s u v && has t u v) (λ u v. u) (λ u v. v) (bit_and s t) here a.good-bit a.faulty-bit (both _ _ a.inside b.inside) a.good-bit a.faulty-bit

-- two parts of a set
unfoldable pub is_parted : ℕ → ℕ → ℕ → Bool
unfolding has pairs implies
is_parted s t u = ltb t 16 && (ltb u 16 && pairs (λ g h. implies (has s g h) (has t g h || has u g h)))

pub parted_is : (row other : ℕ) → T (below 16 (λ s. is_parted s (cell row s) (cell other s))) → (s t u : ℕ) → t ≡ cell row (s % 16) → u ≡ cell other (s % 16) → Parted s t u
unfolding is_parted
parted_is row other all s t u e f g h a =
    let l = a.set in
    let m : s % 16 ≡ s = omega arith in
    let test : T (is_parted s t u) = rw (e, f, m) (at_below 16 (λ w. is_parted w (cell row w) (cell other w)) all s a.set) in
    let (small, rest) = and_yes (ltb t 16) _ test in
    let (little, every) = and_yes (ltb u 16) _ rest in
    let here = at_pair (λ w x. implies (has s w x) (has t w x || has u w x)) every g h a.good-bit a.faulty-bit in
    ⊎_elim
    (λ q. inl (record { set = ltb→lt t 16 small; good-bit = a.good-bit; faulty-bit = a.faulty-bit; inside = q }))
    (λ q. inr (record { set = ltb→lt u 16 little; good-bit = a.good-bit; faulty-bit = a.faulty-bit; inside = q }))
    (or_true (has t g h) (has u g h) (implied (has s g h) _ here a.inside))

-- what is held, and what is not
unfoldable pub is_held : ℕ → ℕ → ℕ → Bool
unfolding has images
is_held n x r = images (has x) (λ g h. g) (λ g h. n) r

pub held_is : (n row : ℕ) → n < 2 → T (each (is_held n) row) → (s x r : ℕ) → s ≡ n → r ≡ cell row (x % 16) → Held s x r
unfolding is_held
held_is n row nb all s x r e f g h a =
    rw (e, lt-ltb n 2 nb)
    (image_in (has x) (λ u v. u) (λ u v. n) r (at_set (is_held n) row all x r a.set f) a.good-bit a.faulty-bit a.inside a.good-bit nb)

unfoldable pub is_freed : ℕ → ℕ → ℕ → Bool
unfolding has images
is_freed n z r = images (λ g h. has z g n) (λ g h. g) (λ g h. h) r

pub freed_is : (n row : ℕ) → n < 2 → T (each (is_freed n) row) → (s z r : ℕ) → s ≡ n → r ≡ cell row (z % 16) → Freed s z r
unfolding is_freed
freed_is n row nb all s z r e f g h hb a =
    let plain : In z g n = rw (e, lt-ltb n 2 nb) at a in
    image_in (λ u v. has z u n) (λ u v. u) (λ u v. v) r (at_set (is_freed n) row all z r plain.set f) plain.good-bit hb plain.inside plain.good-bit hb

pub not_held : (s x : ℕ) → 2 ≤ s → Held s x x
not_held s x l g h a = rw (le-ltb s 2 l) a

pub not_freed : (s z : ℕ) → 2 ≤ s → Freed s z z
not_freed s z l g h hb a = rw (le-ltb s 2 l) at a

-- what is turned
unfoldable pub is_turned : ℕ → ℕ → ℕ → Bool
unfolding has join kinds images
is_turned n s r = images (has s) (λ g h. join 2 g n) (λ g h. join 2 h n) r

pub turns_at : (n row : ℕ) → T (each (is_turned n) row) → (f : ℕ) → f ≡ n → Turns f row
unfolding is_turned
turns_at n row all f e s g h a =
    rw e
    (image_in (has s) (λ u v. join 2 u n) (λ u v. join 2 v n) (cell row s) (at_each (is_turned n) row all s a.set)
    a.good-bit a.faulty-bit a.inside (join-below 2 g n) (join-below 2 h n))

pub turned_is : (f s row r : ℕ) → Turns f row → r ≡ cell row (s % 16) → Turned f s r
turned_is f s row r turn e g h a =
    let l = a.set in
    let m : s % 16 ≡ s = omega arith in
    rw (e, m) (turn s g h a)

-- what follows
unfoldable pub is_followed : ℕ → ℕ → ℕ → Bool
unfolding has join kinds images
is_followed n s r = bits (λ u. images (has s) (λ g h. join 2 g n) (λ g h. u) r)

join_odd : (g f : ℕ) → join 2 g f ≡ join 2 g (f % 2)
unfolding join kinds
join_odd g f =
    let same : (g + (f + 0)) % 2 ≡ (g + (f % 2 + 0)) % 2 = omega arith in
    ap (λ (n : ℕ). bit (eqb n 1)) same

pub follows_is : (n row : ℕ) → T (each (is_followed n) row) → (f s r : ℕ) → f % 2 ≡ n → r ≡ cell row (s % 16) → Follows f s r
unfolding is_followed
follows_is n row all f s r e q g h u ub a =
    rw (join_odd g f, e)
    (image_in (has s) (λ w x. join 2 w n) (λ w x. u) r
    (at_bit (λ y. images (has s) (λ w x. join 2 w n) (λ w x. y) r) (at_set (is_followed n) row all s r a.set q) u ub)
    a.good-bit a.faulty-bit a.inside (join-below 2 g n) ub)
