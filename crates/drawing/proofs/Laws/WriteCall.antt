-- The answer of the reader and the writer is told by its numbers.
use mathlib.Core.Path.{◌≡◌, refl}
use mathlib.Core.List.{List}
use Prim.Native.Nat.{ℕ}
use lib.ListN.{get_or}
use Rattle.std.specs.Prelude.{Result, Ok, Err}
use Rattle.image.specs.declared.Refusal.{Refusal}
use Rattle.image.proofs.Laws.Promise.{read_back, refused_again, Told, told}
use Rattle.drawing.specs.Calls.{made_says}

-- the length, or a refusal, that numbers name
made_back : List ℕ → Result ℕ Refusal
made_back v = read_back (Ok (get_or v 1 0)) Err v

made_again : (a : Result ℕ Refusal) → made_back (made_says a) ≡ a
unfolding made_back read_back
made_again (Ok n) = refl
made_again (Err r) = refused_again _ Err r

pub made_told : Told made_says
made_told = told made_says made_back made_again
