-- The bench sheet: every starred number of document 01, two of them as W3 amends them, and W1's on board S, as what a call on the board's image must say or leave.
use Rattle.std.specs.Prelude.{◌≡◌, List, [], ◌∷◌, ◌++◌, map, ℕ, eqb, get_or, replicate}
use Rattle.board.specs.Lists.{somewhere, bit}
use Rattle.board.specs.Limits.{none_mark}
use Rattle.board.specs.declared.Fault.TheVariants.{Line, Pin}
use Rattle.board.specs.declared.Sort.TheVariants.{Lines, Pins}
use Rattle.image.specs.Promise.{Promise, Owes}
use Rattle.rows.specs.Rows.{rows_promise}
use Rattle.rows.specs.Judge.{judge_promise}
use Rattle.five.specs.Five.{five_promise}
use Rattle.find.specs.Find.{find_promise}
use Rattle.find.specs.Book.{book_promise}
use Rattle.alter.specs.Alter.{both, alter_promise}
use Rattle.sheet.specs.Boards.{S, T, T_and, and01, H, not1, X, A}

-- what is asked of a call, whose promise has its image, its fault and what was lent: what it says, what it leaves in the buffer at a place, or
-- what it writes in one entry of the book that was lent
pub data Question : Type 0 where
  says : Promise → Question
  leaves : ℕ → Promise → Question
  writes : ℕ → Promise → Question

-- whatever the promise allows, it is these numbers
abbrev pub Answers : Question → List ℕ → Type 0
Answers (says p) vs = (left : List (List ℕ)) (said : List ℕ) → Owes p left said → said ≡ vs
Answers (leaves k p) vs = (left : List (List ℕ)) (said : List ℕ) → Owes p left said → get_or left k [] ≡ vs
Answers (writes k p) vs = (left : List (List ℕ)) (said : List ℕ) → Owes p left said → get_or (get_or left 0 []) k 0 ∷ [] ≡ vs

-- a line of the sheet
pub record Starred : Type 0 where
  pub asked : Question
  pub numbers : List ℕ

abbrev pub starred : Question → List ℕ → Starred
starred q vs = record { asked = q; numbers = vs }

-- the patterns of S's four inputs
abbrev pub patterns : List ℕ
patterns = 0 ∷ 1 ∷ 2 ∷ 3 ∷ 4 ∷ 5 ∷ 6 ∷ 7 ∷ 8 ∷ 9 ∷ 10 ∷ 11 ∷ 12 ∷ 13 ∷ 14 ∷ 15 ∷ []

-- on S, a fault of line 4 is shown by these patterns and by no other: Judge says 0 and 1 for them, and 0 and 0 for the rest
abbrev pub shown_by : ℕ → List ℕ → List Starred
shown_by stuck ps = map (λ (x : ℕ). starred (says (judge_promise S x (Line 4 stuck))) (0 ∷ bit (somewhere (eqb x) ps) ∷ [])) patterns

-- the sheet; an entry that is none is the none mark
unfoldable pub sheet : List Starred
sheet =
    -- S, line 4 at 0: pattern 0, and no other pattern shows it
    starred (says (find_promise S (Line 4 0))) (0 ∷ 0 ∷ []) ∷ shown_by 0 (0 ∷ [])
    -- S, line 4 at 1: pattern 6; the patterns that show it are 6, 7, 14
    ++ (starred (says (find_promise S (Line 4 1))) (0 ∷ 6 ∷ []) ∷ shown_by 1 (6 ∷ 7 ∷ 14 ∷ []))
    ++ (
    -- S, the pin book's line 4.0/1 0: pin 0 of line 4 at 1 is shown by pattern 0, and the entry is that pattern
    starred (says (find_promise S (Pin 4 0 1))) (0 ∷ 0 ∷ [])
    ∷ starred (writes 33 (book_promise Pins S (replicate 96 9))) (0 ∷ [])
    -- board T's book
    ∷ starred (leaves 0 (book_promise Lines T (9 ∷ 9 ∷ 9 ∷ 9 ∷ 9 ∷ 9 ∷ []))) (none_mark ∷ none_mark ∷ 0 ∷ none_mark ∷ 0 ∷ none_mark ∷ [])
    -- T with line 2 altered to and(0,1)
    ∷ starred (leaves 1 (alter_promise T (both (none_mark ∷ none_mark ∷ 0 ∷ none_mark ∷ 0 ∷ none_mark ∷ []) (replicate 24 9)) 2 and01)) (none_mark ∷ none_mark ∷ none_mark ∷ 1 ∷ none_mark ∷ 0 ∷ [])
    -- board H's book
    ∷ starred (leaves 0 (book_promise Lines H (9 ∷ 9 ∷ 9 ∷ 9 ∷ 9 ∷ 9 ∷ 9 ∷ 9 ∷ []))) (1 ∷ 0 ∷ 2 ∷ 0 ∷ 0 ∷ 1 ∷ 2 ∷ 0 ∷ [])
    -- H with line 3 altered to not(1)
    ∷ starred (leaves 1 (alter_promise H (both (1 ∷ 0 ∷ 2 ∷ 0 ∷ 0 ∷ 1 ∷ 2 ∷ 0 ∷ []) (replicate 32 9)) 3 not1)) (1 ∷ 0 ∷ 2 ∷ 0 ∷ 0 ∷ 1 ∷ 0 ∷ 2 ∷ [])
    -- if entry 0 was 99 before, it is 99 after
    ∷ starred (leaves 1 (alter_promise H (both (99 ∷ 0 ∷ 2 ∷ 0 ∷ 0 ∷ 1 ∷ 2 ∷ 0 ∷ []) (replicate 32 9)) 3 not1)) (99 ∷ 0 ∷ 2 ∷ 0 ∷ 0 ∷ 1 ∷ 0 ∷ 2 ∷ [])
    -- exclusive-or of 1,1,1 is 1; of 1,1,x it is x
    ∷ starred (leaves 0 (rows_promise X 7 (Line 3 0) (9 ∷ 9 ∷ 9 ∷ 9 ∷ []) (9 ∷ 9 ∷ 9 ∷ 9 ∷ []))) (1 ∷ 1 ∷ 1 ∷ 1 ∷ [])
    ∷ starred (leaves 0 (five_promise X 3 3 (Line 2 0) (9 ∷ 9 ∷ 9 ∷ 9 ∷ []))) (1 ∷ 1 ∷ 2 ∷ 2 ∷ [])
    -- and of D, D-bar is 0; of D, x it is x
    ∷ starred (leaves 0 (five_promise T_and 1 1 (Line 0 0) (9 ∷ 9 ∷ 9 ∷ []))) (3 ∷ 4 ∷ 0 ∷ [])
    ∷ starred (leaves 0 (five_promise A 1 1 (Line 0 0) (9 ∷ 9 ∷ 9 ∷ []))) (3 ∷ 2 ∷ 2 ∷ [])
    ∷ [])

-- every line of the sheet holds
abbrev pub Holds : List Starred → Type 0
Holds [] = Unit {0}
Holds (one ∷ more) = Answers one.asked one.numbers × Holds more
