-- A span of a list, and where a number first stands in it.
use Rattle.std.specs.Prelude.{List, [], ◌∷◌, Bool, true, false, ℕ, suc, ◌-◌, eqb, take, drop}

-- where a mark first stands, given whether it stands first and where it stands behind that
abbrev pub index_after : Bool → ℕ → ℕ
index_after true n = 0
index_after false n = suc n

-- where a mark first stands in a list; its length where it does not
unfoldable pub index_of : ℕ → List ℕ → ℕ
index_of mark [] = 0
index_of mark (x ∷ xs) = index_after (eqb x mark) (index_of mark xs)

-- what stands from start to end
unfoldable pub slice : ℕ → ℕ → List ℕ → List ℕ
slice start end s = take (end - start) (drop start s)
