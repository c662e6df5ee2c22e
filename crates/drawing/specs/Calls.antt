-- What the reader and the writer of drawings owe.
use Rattle.std.specs.Prelude.{◌≡◌, List, [], ◌∷◌, ◌++◌, ◌||◌, ℕ, ltb, length, drop, Result}
use Rattle.std.proofs.Math.Option.{Option, some}
use Rattle.board.specs.Limits.{most_lines, most_outputs}
use Rattle.board.specs.Board.{Board}
use Rattle.image.specs.Image.{board_of}
use Rattle.image.specs.Refusals.{given, outside, image_refusals}
use Rattle.image.specs.Promise.{said_of, Promise}
use Rattle.image.specs.Calls.{◌then◌}
use Rattle.image.specs.declared.Refusal.{Refusal}
use Rattle.image.specs.declared.Refusal.TheVariants.{Counts, Form, Target}
use Rattle.drawing.specs.Form.{text_of, Drawn, Departs}
use Rattle.drawing.specs.Image.{image_of}

-- 0 and the result's length, or a refusal
abbrev pub made_says : Result ℕ Refusal → List ℕ
made_says = said_of (λ n. n ∷ [])

-- 14: the target is too short for what is made
abbrev pub too_short : List ℕ → List ℕ → Option Refusal
too_short made target = given (ltb (length target) (length made)) Target

-- the target with what is made in front: beyond it the target keeps its bytes
abbrev pub in_front : List ℕ → List ℕ → List ℕ
in_front made target = made ++ drop (length made) target

-- what a text is: the drawing of a board, or a departure from the form behind so many bytes
pub data Reading : Type 0 where
  names : Board → Reading
  departs : ℕ → Reading

-- a text is just that
abbrev pub Reads : List ℕ → Reading → Type 0
Reads t (names b) = Drawn b × (text_of b ≡ t)
Reads t (departs n) = Departs t n

-- what is owed for a text, by what it is
abbrev pub ByReading : List ℕ → (Reading → Type 0) → Type 0
ByReading t owed = (is : Reading) × Reads t is × owed is

-- 2, of a board that is no image yet: line or output count outside its limits
abbrev pub miscounts : Board → Option Refusal
miscounts b = given (outside most_lines (length b.lines) || outside most_outputs (length b.outs)) Counts

-- 13; or 2, then those of the board's image, and 14
unfoldable pub read_refusals : Reading → List ℕ → List (Option Refusal)
read_refusals (departs n) target = some (Form n) ∷ []
read_refusals (names b) target = (miscounts b ∷ image_refusals (image_of b)) then too_short (image_of b) target

-- the image of what is named
abbrev pub image_read : Reading → List ℕ
image_read (names b) = image_of b
image_read (departs n) = []

-- what is promised by a call that makes bytes: they are in front of the target, and their length is answered
abbrev pub making : List (Option Refusal) → List ℕ → List ℕ → Promise
making refusals made target = record {
  refusals = refusals;
  done = length made ∷ [];
  lent = target ∷ [];
  filled = in_front made target ∷ [];
}

-- Read, of a text that is just that: the image of the board named
abbrev pub read_promise : Reading → List ℕ → Promise
read_promise is target = making (read_refusals is target) (image_read is) target

-- 1 to 5, 14
unfoldable pub write_refusals : List ℕ → List ℕ → List (Option Refusal)
write_refusals s target = image_refusals s then too_short (text_of (board_of s)) target

-- Write: the text of an image's board
abbrev pub write_promise : List ℕ → List ℕ → Promise
write_promise s target = making (write_refusals s target) (text_of (board_of s)) target
