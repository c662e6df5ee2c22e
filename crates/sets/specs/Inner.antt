-- What inner functions ask of each other and leave: no call's promise rests on it.
use Rattle.std.specs.Prelude.{ℕ, ◌*◌, ◌/◌, ◌%◌, ◌^◌, ◌<◌}
use Rattle.sets.specs.Sets.{In, join, Forward, Backward}

-- a row is 16 sets in one number, 4 bits each: set t of it
unfoldable pub cell : ℕ → ℕ → ℕ
cell row t = row / 2 ^ (4 * t) % 16

-- row k, 16 x section + the first pin's set, has what the gate gives by the second pin's set
abbrev pub Forwards : ℕ → ℕ → Type 0
Forwards k row = k < 48 → (t : ℕ) → Forward (k / 16) (k % 16) t (cell row t)

-- row k, 16 x section + the gate's set, has what a pin can be by the other pin's set
abbrev pub Backwards : ℕ → ℕ → Type 0
Backwards k row = k < 48 → (s : ℕ) → Backward (k / 16) (k % 16) s (cell row s)

-- r holds the pairs in s, turned where f is 1
abbrev pub Turned : ℕ → ℕ → ℕ → Type 0
Turned f s r = (g h : ℕ) → In s g h → In r (join 2 g f) (join 2 h f)

-- a row has each set, turned where f is 1
abbrev pub Turns : ℕ → ℕ → Type 0
Turns f row = (s : ℕ) → Turned f s (cell row s)

-- what is left of a pin's set x and of the set p of what stands before it, where their gate gives something in z
abbrev pub Back : ℕ → ℕ → ℕ → ℕ → ℕ → ℕ → Type 0
Back o z p x pin before = (g h u v : ℕ) → In z (join o g u) (join o h v) → In p g h → In x u v → In pin u v × In before g h
