-- What a call with its answer's line owes.
use Rattle.std.specs.Prelude.{◌≡◌, List, ℕ}
use Rattle.image.specs.Promise.{Promise, Owes, unpacked, Packs}
use Rattle.image.specs.declared.said.Numbers.{Numbers}
use Rattle.text.specs.declared.line.Line.{Line}
use Rattle.text.specs.Made.{made}

-- what the call owes, and the line that is just that of what it says
pub record Said (p : Promise) (left : List (List ℕ)) (line_of : List ℕ → List ℕ) (line : Line) : Type 0 where
  pub said : List ℕ
  pub owed : Owes p left said
  pub numbers : Numbers
  pub packs : Packs said numbers
  pub written : made line ≡ line_of (unpacked numbers)
