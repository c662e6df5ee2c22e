-- A set of pairs of a good and a faulty value, as a number below 16: 1 for 0/0, 2 for 1/1, 4 for D (good 1, faulty 0), 8 for D-bar, added up.
use Rattle.std.specs.Prelude.{◌≡◌, ◌⊎◌, [], ◌∷◌, Bool, true, cond, ℕ, ◌+◌, ◌*◌, ◌/◌, ◌%◌, ◌<◌, eqb, ltb, get_or}
use Rattle.board.specs.Gate.{gate, bit_of}

-- the place of a pair's bit
abbrev pub place : ℕ → ℕ → ℕ
place g h = get_or (0 ∷ 3 ∷ 2 ∷ 1 ∷ []) (2 * g + h) 0

unfoldable pub has : ℕ → ℕ → ℕ → Bool
has s g h = eqb (bit_of s (place g h)) 1

-- the set s holds the pair of g and h
pub record In (s g h : ℕ) : Type 0 where
  pub set : s < 16
  pub good-bit : g < 2
  pub faulty-bit : h < 2
  pub inside : has s g h ≡ true

-- the two-pin gate of a section: 0 and, 1 or, 2 exclusive-or
unfoldable pub join : ℕ → ℕ → ℕ → ℕ
join o u v = gate (3 + 2 * o) (u ∷ v ∷ [])

-- r holds whatever a section's gate gives from pins in s and t
abbrev pub Forward : ℕ → ℕ → ℕ → ℕ → Type 0
Forward o s t r = (g h u v : ℕ) → In s g h → In t u v → In r (join o g u) (join o h v)

-- r holds whatever a pin can be where the other pin is in s and the gate gives something in z
abbrev pub Backward : ℕ → ℕ → ℕ → ℕ → Type 0
Backward o z s r = (g h u v : ℕ) → u < 2 → v < 2 → In z (join o g u) (join o h v) → In s g h → In r u v

-- r holds whatever both s and t hold
abbrev pub Common : ℕ → ℕ → ℕ → Type 0
Common s t r = (g h : ℕ) → In s g h → In t g h → In r g h

-- whatever s holds, one of two parts holds
abbrev pub Parted : ℕ → ℕ → ℕ → Type 0
Parted s t u = (g h : ℕ) → In s g h → In t g h ⊎ In u g h

-- a value v that is held at s where that is 0 or 1
abbrev pub held_at : ℕ → ℕ → ℕ
held_at s v = cond (ltb s 2) s v

-- r holds what the pairs in x become where their faulty value is held at s (2: it is not held)
abbrev pub Held : ℕ → ℕ → ℕ → Type 0
Held s x r = (g h : ℕ) → In x g h → In r g (held_at s h)

-- r holds whatever becomes a pair in z where its faulty value is held at s (2: it is not held)
abbrev pub Freed : ℕ → ℕ → ℕ → Type 0
Freed s z r = (g h : ℕ) → h < 2 → In z g (held_at s h) → In r g h

-- r holds every pair whose good value is that of a pair in s, turned where f is odd
abbrev pub Follows : ℕ → ℕ → ℕ → Type 0
Follows f s r = (g h u : ℕ) → u < 2 → In s g h → In r (join 2 g f) u

-- a gate of four pins: its section's value, turned where f is 1
abbrev pub four : ℕ → ℕ → ℕ → ℕ → ℕ → ℕ → ℕ
four o f a b c d = join 2 (join o (join o (join o a b) c) d) f

-- the sets of a gate's line and its four pins after a step, of those before: none of them loses a pair that the gate allows
pub record Stepped (o f l a b c d l' a' b' c' d' : ℕ) : Type 0 where
  pub keeps : (ga ha gb hb gc hc gd hd : ℕ) → In a ga ha → In b gb hb → In c gc hc → In d gd hd → In l (four o f ga gb gc gd) (four o f ha hb hc hd)
      → In l' (four o f ga gb gc gd) (four o f ha hb hc hd) × In a' ga ha × In b' gb hb × In c' gc hc × In d' gd hd

-- how each kind from 1 up goes: twice its section, and one more where it is turned
abbrev pub way_of : ℕ → ℕ
way_of k = get_or (0 ∷ 0 ∷ 1 ∷ 0 ∷ 1 ∷ 2 ∷ 3 ∷ 4 ∷ 5 ∷ 4 ∷ 5 ∷ []) k 0

-- what fills an absent pin in each section
abbrev pub filler : ℕ → ℕ
filler o = get_or (1 ∷ 0 ∷ 0 ∷ []) o 0

-- the set of the filler alone
abbrev pub filled : ℕ → ℕ
filled o = filler o + 1

-- a step of a gate of at most two pins: as one of four, the last two filled
abbrev pub Paired : ℕ → ℕ → ℕ → ℕ → ℕ → ℕ → ℕ → Type 0
Paired way l a b l' a' b' = let e = filled (way / 2) in Stepped (way / 2) (way % 2) l a b e e l' a' b' e e
