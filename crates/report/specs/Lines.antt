-- The line of what a call says, as the papers and the console's page have it.
use Rattle.std.specs.Prelude.{List, [], ◌∷◌, cond, ℕ, zero, suc, eqb, length, get_or}
use Rattle.board.specs.Lists.{text}
use Rattle.text.specs.Text.{spelled, form}

-- refused 1, refused 5 at 0, refused 4 at 2.3: a refusal's number, and what else is returned
abbrev pub refused_text : List ℕ → List ℕ
refused_text [] = []
refused_text (n ∷ []) = form "refused #\n" (n ∷ [])
refused_text (n ∷ place ∷ []) = form "refused # at #\n" (n ∷ place ∷ [])
refused_text (n ∷ line ∷ field ∷ more) = form "refused # at #.#\n" (n ∷ line ∷ field ∷ [])

-- a refusal's line, or where 0 is said the form with the values beside it
unfoldable pub line_of : List ℕ → List ℕ → List ℕ
line_of f [] = []
line_of f (zero ∷ vs) = spelled f vs
line_of f (suc n ∷ vs) = refused_text (suc n ∷ vs)

-- Check's: board 3 lines 1 inputs 1 outputs
abbrev pub checked_line : List ℕ → List ℕ
checked_line said = line_of (text "board # lines # inputs # outputs\n") said

-- Rows' and Refresh's
abbrev pub filled_line : List ℕ → List ℕ
filled_line said = line_of (text "filled\n") said

-- Judge's: yes for 1, no for 0
abbrev pub judged_line : List ℕ → List ℕ
judged_line said = line_of (cond (eqb (get_or said 1 0) 1) (text "yes\n") (text "no\n")) said

-- Find's: the pattern, or none where no value stands beside 0
abbrev pub found_line : List ℕ → List ℕ
found_line said = line_of (cond (eqb (length said) 1) (text "none\n") (text "#\n")) said

-- Five values': drives 1
abbrev pub driven_line : List ℕ → List ℕ
driven_line said = line_of (text "drives #\n") said

-- Read's and Write's: read 44, wrote 53
abbrev pub read_line : List ℕ → List ℕ
read_line said = line_of (text "read #\n") said

abbrev pub wrote_line : List ℕ → List ℕ
wrote_line said = line_of (text "wrote #\n") said

-- Book's and Alter's, for a book of that length: found 2 of 6
unfoldable pub counted_line : ℕ → List ℕ → List ℕ
counted_line all [] = []
counted_line all (zero ∷ vs) = form "found # of #\n" (get_or vs 0 0 ∷ all ∷ [])
counted_line all (suc n ∷ vs) = refused_text (suc n ∷ vs)
