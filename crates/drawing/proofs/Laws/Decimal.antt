-- Numbers up to 65,535 in decimal: one digit more, what they come to, and no leading zero.
use mathlib.Core.Path.{◌≡◌, refl, sym, ap, ◌∙◌}
use mathlib.Core.Logic.{⊎_elim}
use mathlib.Core.Bool.{Bool}
use mathlib.Core.Option.{Option, none, some, get_or}
use mathlib.Core.List.{List, [], ◌∷◌, ◌++◌, foldl, foldl-append}
use Prim.Native.Nat.{ℕ, zero, suc, ◌+◌, ◌*◌, ◌-◌, ◌/◌, ◌%◌, ◌^◌, ◌≤◌, ◌<◌}
use native.Mathlib.Nat.{le_refl, le_trans, lt_irrefl, lt_of_lt_of_le, lt_of_le_of_lt, pow-suc}
use native.Mathlib.Omega.{arith}
use lib.Dec.{ltb, lit≤, lit<}
use lib.ListN.{length, length-append}
use borrow.Author.Tests.{lt-ltb, ltb-true, ltb-false}
use Rattle.io.specs.Digits.{last_digits, hex_digit_ascii, IsDigitCount}
use Rattle.board.specs.Test.{Smallest, first}
use Rattle.board.proofs.Lists.{way, lower}
use Rattle.board.proofs.Search.{first_is_smallest}
use Rattle.text.specs.Text.{places, decimal}
use Rattle.text.proofs.Laws.Decimal.{fewest_short, fewest-places}
use Rattle.drawing.specs.Form.{last_number}
use Rattle.drawing.specs.Inner.{Digit}

-- each byte is a digit
pub data Digits : List ℕ → Type 0 where
  no_more : Digits []
  one_more : (c : ℕ) (cs : List ℕ) → Digit c → Digits cs → Digits (c ∷ cs)

digits_both : {xs ys : List ℕ} → Digits xs → Digits ys → Digits (xs ++ ys)
digits_both no_more d = d
digits_both {ys = ys} (one_more c cs here there) d = one_more c (cs ++ ys) here (digits_both there d)

pub decimal_digits : (n : ℕ) → Digits (decimal n)
unfolding decimal
decimal_digits n = go (places n) n
  where
    go : (k m : ℕ) → Digits (last_digits 10 k m)
    go zero m = no_more
    go (suc k) m = digits_both (go k (m / 10)) (one_more (hex_digit_ascii (m % 10)) [] (one (m % 10) (omega arith)) no_more)
      where
        one : (d : ℕ) → d < 10 → Digit (hex_digit_ascii d)
        one d l = rw (lt-ltb d 10 l) (record { low = omega arith; high = omega arith })

-- and there is one
some_digit : (n : ℕ) → 0 < length (decimal n)
unfolding decimal places
some_digit n = simp length-append (omega arith)

pub decimal_begins : (n : ℕ) → (c : ℕ) × (x : List ℕ) × (decimal n ≡ c ∷ x) × Digit c
decimal_begins n = go (decimal n) (some_digit n) (decimal_digits n)
  where
    go : (l : List ℕ) → 0 < length l → Digits l → (c : ℕ) × (x : List ℕ) × (l ≡ c ∷ x) × Digit c
    go l long no_more = absurd (omega arith)
    go l long (one_more c x digit more) = (c, x, refl, digit)

-- how many digits there are
fewest_is : (n : ℕ) → n ≤ last_number → IsDigitCount 10 1 n (places n)
unfolding places
fewest_is n few = go (first test 0 20) (first_is_smallest test 20)
  where
    test : ℕ → Bool
    test k = ltb n (10 ^ suc k)

    go : (o : Option ℕ) → Smallest test 20 o → IsDigitCount 10 1 n (suc (get_or o 0))
    go none miss = let far : 10 ^ 20 ≤ n = ltb-false n (10 ^ 20) (miss 19 (lit< tt)) in absurd (lt_irrefl n (lt_of_lt_of_le (lt_of_le_of_lt few (lit< tt)) far))
    go (some p) (inside, hit, miss) = (
      omega arith,
      ltb-true n (10 ^ suc p) hit,
      λ more.
          let e : suc p - 1 ≡ suc (p - 1) = omega arith in
          rw e (ltb-false n (10 ^ suc (p - 1)) (miss (p - 1) (omega arith))),
    )

-- a digit by itself, and one more behind a number
pub decimal-one : (d : ℕ) → d < 10 → decimal d ≡ (48 + d) ∷ []
unfolding decimal
decimal-one d l =
    let short : places d ≡ 1 = sym (fewest-places d 1 (lit≤ tt) (lit≤ tt, omega arith, λ no. omega arith)) in
    let same : d % 10 ≡ d = omega arith in
    rw (short, same, lt-ltb d 10 l)

tenfold : (k v d : ℕ) → 1 ≤ k → 0 < v → (1 < k → 10 ^ (k - 1) ≤ v) → 10 ^ k ≤ 10 * v + d
tenfold zero v d one over least = omega arith
tenfold (suc zero) v d one over least = omega arith
tenfold (suc (suc j)) v d one over least =
    let e : suc (suc j) - 1 ≡ suc j = omega arith in
    let last : 10 ^ suc j ≤ v = rw e at (least (omega arith)) in
    rw (pow-suc 10 (suc j)) (omega arith)

pub decimal_more : (v d : ℕ) → 0 < v → d < 10 → 10 * v + d ≤ last_number → decimal (10 * v + d) ≡ decimal v ++ ((48 + d) ∷ [])
unfolding decimal
decimal_more v d over l few =
    let (one, holds, least) = fewest_is v (omega arith) in
    let k = places v in
    let fewest : IsDigitCount 10 1 (10 * v + d) (suc k) =
    (omega arith, rw (pow-suc 10 k) (omega arith), λ more. let e : suc k - 1 ≡ k = omega arith in rw e (tenfold k v d one over least)) in
    let long : places (10 * v + d) ≡ suc k = sym (fewest-places (10 * v + d) (suc k) (fewest_short (10 * v + d) (suc k) (lt_of_le_of_lt few (lit< tt)) fewest) fewest) in
    let front : (10 * v + d) / 10 ≡ v = omega arith in
    let end : (10 * v + d) % 10 ≡ d = omega arith in
    rw (long, front, end, lt-ltb d 10 l)

-- what digits come to
abbrev pub come : ℕ → ℕ → ℕ
come v x = 10 * v + (x - 48)

pub come_more : (v : ℕ) (xs : List ℕ) → v ≤ foldl come v xs
come_more v [] = le_refl v
come_more v (x ∷ xs) = let more : v ≤ 10 * v + (x - 48) = omega arith in le_trans more (come_more (10 * v + (x - 48)) xs)

pub decimal_comes : (n : ℕ) → n ≤ last_number → foldl come 0 (decimal n) ≡ n
decimal_comes n = lower (λ m. m ≤ last_number → foldl come 0 (decimal m) ≡ m) step n
  where
    step : (m : ℕ) → ((j : ℕ) → j < m → j ≤ last_number → foldl come 0 (decimal j) ≡ j) → m ≤ last_number → foldl come 0 (decimal m) ≡ m
    step m before few =
        ⊎_elim
        (λ e. let l = ltb-true m 10 e in rw (decimal-one m l) (omega arith))
        (λ e.
        let l = ltb-false m 10 e in
        let v = m / 10 in
        let d = m % 10 in
        let is : m ≡ 10 * v + d = omega arith in
        let front = before v (omega arith) (omega arith) in
        rw (is, decimal_more v d (omega arith) (omega arith) (omega arith), foldl-append come 0 (decimal v) ((48 + d) ∷ []), front) (omega arith))
        (way (ltb m 10))

-- a number that is told by its digits
pub decimal_told : (m n : ℕ) → m ≤ last_number → n ≤ last_number → decimal m ≡ decimal n → m ≡ n
decimal_told m n few some-few e = sym (decimal_comes m few) ∙ ap (foldl come 0) e ∙ decimal_comes n some-few

-- a number whose digits go on with one more is larger by that digit's place
pub decimal_goes_on : (n v d : ℕ) (y : List ℕ) → n ≤ last_number → v ≤ last_number → decimal n ≡ decimal v ++ d ∷ y → 10 * v + (d - 48) ≤ n
decimal_goes_on n v d y few vew e =
    let whole : foldl come (10 * v + (d - 48)) y ≡ n =
    sym (ap (λ k. foldl come (10 * k + (d - 48)) y) (decimal_comes v vew)) ∙ sym (foldl-append come 0 (decimal v) (d ∷ y)) ∙ sym (ap (foldl come 0) e) ∙ decimal_comes n few in
    rw whole at (come_more (10 * v + (d - 48)) y)

-- a number over 0 begins with a digit over 0, so that there is no leading zero
leads : (n : ℕ) → 0 < n → n ≤ last_number → (c : ℕ) × (x : List ℕ) × (decimal n ≡ c ∷ x) × (48 < c)
leads n = lower (λ m. 0 < m → m ≤ last_number → (c : ℕ) × (x : List ℕ) × (decimal m ≡ c ∷ x) × (48 < c)) step n
  where
    step : (m : ℕ) → ((j : ℕ) → j < m → 0 < j → j ≤ last_number → (c : ℕ) × (x : List ℕ) × (decimal j ≡ c ∷ x) × (48 < c)) → 0 < m → m ≤ last_number
        → (c : ℕ) × (x : List ℕ) × (decimal m ≡ c ∷ x) × (48 < c)
    step m before over few =
        ⊎_elim
        (λ e. (48 + m, [], decimal-one m (ltb-true m 10 e), omega arith))
        (λ e.
        let l = ltb-false m 10 e in
        let v = m / 10 in
        let d = m % 10 in
        let is : m ≡ 10 * v + d = omega arith in
        let (c, x, same, large) = before v (omega arith) (omega arith) (omega arith) in
        (c, x ++ ((48 + d) ∷ []), ap decimal is ∙ decimal_more v d (omega arith) (omega arith) (omega arith) ∙ ap (λ l. l ++ ((48 + d) ∷ [])) same, large))
        (way (ltb m 10))

pub no_leading-zero : (n d : ℕ) (y : List ℕ) → n ≤ last_number → decimal n ≡ 48 ∷ d ∷ y → ⊥
no_leading-zero n d y few e =
    ⊎_elim
    (λ z.
    let over = ltb-true 0 n z in
    let (c, x, same, large) = leads n over few in
    let same_head : c ≡ 48 = cc in
    omega arith)
    (λ z.
    let nought : n ≡ 0 = let l = ltb-false 0 n z in omega arith in
    let short : ◌≡◌ {A = List ℕ} (48 ∷ d ∷ y) (48 ∷ []) = sym e ∙ ap decimal nought ∙ decimal-one 0 (lit< tt) in
    let none-is-one : ◌≡◌ {A = List ℕ} (d ∷ y) [] = cc in
    let clash : length (d ∷ y) ≡ 0 = ap length none-is-one in
    omega arith)
    (way (ltb 0 n))
