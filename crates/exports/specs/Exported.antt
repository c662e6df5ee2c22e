-- What an exported call owes.
use Rattle.std.specs.Prelude.{List, ℕ}
use Rattle.image.specs.Promise.{Promise, Owes, Packs}
use Rattle.image.specs.declared.said.Numbers.{Numbers}

-- what an exported call owes: what the call leaves, and the numbers that it says, side by side
pub record Exported (p : Promise) (left : List (List ℕ)) (r : Numbers) : Type 0 where
  pub said : List ℕ
  pub owed : Owes p left said
  pub crosses : Packs said r
