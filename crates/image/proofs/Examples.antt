-- The definitions compute: the papers' cases at the limits, and boards with lines that are tied, each checked by running the definition.
use mathlib.Core.Path.{◌≡◌, refl}
use mathlib.Core.Option.{none, some}
use mathlib.Core.List.{List, [], ◌∷◌, ◌++◌}
use mathlib.Core.Bool.{true, false}
use Prim.Native.Nat.{ℕ}
use Rattle.board.specs.Lists.{build}
use Rattle.board.specs.Limits.{most_lines, most_outputs}
use Rattle.board.specs.Test.{first}
use Rattle.board.specs.declared.Fault.TheVariants.{Line, Pin}
use Rattle.image.specs.Image.{longest_image}
use Rattle.image.specs.Refusals.{outside, bad_kind, bad_count, bad_field, first_bad, first_bad_output, image_refusals, first_refusal}
use Rattle.image.specs.Calls.{line_refusals, fault_refusals}
use Rattle.image.specs.declared.Refusal.TheVariants.{Record, Pin as NoPin}

-- 4,096 lines are within, 4,097 are refused by 2, and so are none; 64 outputs are within, and 65 are not
counts :
    (outside most_lines 4_096 ≡ false) × (outside most_lines 4_097 ≡ true) × (outside most_lines 0 ≡ true)
    × (outside most_outputs 64 ≡ false) × (outside most_outputs 65 ≡ true)
counts = (refl, refl, refl, refl, refl)

-- an input on line 31 is the 32nd, and one on line 32 is the 33rd, which is refused by 4 at field 0; one on line 24 is the 25th
inputs : (bad_kind 0 31 31 ≡ false) × (bad_kind 0 32 32 ≡ true) × (bad_kind 0 24 24 ≡ false)
inputs = (refl, refl, refl)

-- kind 10 is the last; on line 0 a tie, and any other gate, is refused by 4 at field 0, and so is an input after a tie
kinds : (bad_kind 10 1 1 ≡ false) × (bad_kind 11 1 1 ≡ true) × (bad_kind 9 0 0 ≡ true) × (bad_kind 3 0 0 ≡ true) × (bad_kind 0 0 0 ≡ false) × (bad_kind 0 2 1 ≡ true)
kinds = (refl, refl, refl, refl, refl, refl)

-- a tie has no pin: with one it is refused by 4 at field 1
ties : (bad_count 9 0 ≡ false) × (bad_count 10 0 ≡ false) × (bad_count 9 1 ≡ true) × (bad_count 10 1 ≡ true)
ties = (refl, refl, refl, refl)

-- an image of three lines, the last of which is its output; an input, a tie and an "and"
image : List ℕ → List ℕ → List ℕ → List ℕ
image a b c = a ++ b ++ c ++ (2 ∷ 0 ∷ 3 ∷ 0 ∷ 1 ∷ 0 ∷ 0x2C ∷ 0 ∷ 0 ∷ 0 ∷ 0x42 ∷ 0x52 ∷ 0x44 ∷ 0x31 ∷ [])

input : List ℕ
input = 0 ∷ 0 ∷ 0 ∷ 0 ∷ 0 ∷ 0 ∷ 0 ∷ 0 ∷ 0 ∷ 0 ∷ []

tie : List ℕ
tie = 10 ∷ 0 ∷ 0 ∷ 0 ∷ 0 ∷ 0 ∷ 0 ∷ 0 ∷ 0 ∷ 0 ∷ []

conjunction : List ℕ
conjunction = 3 ∷ 2 ∷ 0 ∷ 0 ∷ 1 ∷ 0 ∷ 0 ∷ 0 ∷ 0 ∷ 0 ∷ []

-- the image with the tie is accepted; at line 0 a tie is refused by 4 at 0.0, and so is a gate whose pins are bad too; an input after a tie is refused at 2.0
on_images :
    (first_refusal (image_refusals (image input tie conjunction)) ≡ none)
    × (first_refusal (image_refusals (image tie tie conjunction)) ≡ some (Record 0 0))
    × (first_refusal (image_refusals (image conjunction tie conjunction)) ≡ some (Record 0 0))
    × (first_refusal (image_refusals (image input tie input)) ≡ some (Record 2 0))
unfolding image input tie conjunction image_refusals first_bad first_bad_output bad_field first
on_images = (refl, refl, refl, refl)

-- a tie has faults of its line and none of a pin; the gate that reads it has faults of its own pins
on_faults :
    (first_refusal (fault_refusals (image input tie conjunction) (Line 1 0)) ≡ none)
    × (first_refusal (fault_refusals (image input tie conjunction) (Pin 1 0 0)) ≡ some NoPin)
    × (first_refusal (fault_refusals (image input tie conjunction) (Pin 2 1 0)) ≡ none)
unfolding image input tie conjunction image_refusals first_bad first_bad_output bad_field first build line_refusals fault_refusals
on_faults = (refl, refl, refl)

-- the longest good image
longest : longest_image ≡ 41_356
longest = refl
