-- How a line suits a form of a command.
use Rattle.std.specs.Prelude.{Bool, true, false, cond, not, ◌&&◌, is_some, Option, Some, None, Result, Ok, Err, List, [], ◌∷◌, ℕ, eqb, length, get_or}
use Rattle.std.specs.Str.{bytes_eq}
use Prim.Native.String.{String}
use Rattle.board.specs.Lists.{text}
use Rattle.words.specs.Number.{number_of, is_all}
use Rattle.words.specs.Fault.{fault_of}
use Rattle.words.specs.Hex.{is_hex}
use Rattle.words.specs.declared.command.Why.{Why}
use Rattle.words.specs.declared.command.Why.TheVariants.{Words, Number, Fault, Hex, Path}

-- the bytes of a path: all but the tab and the carriage return
abbrev pub is_path_byte : ℕ → Bool
is_path_byte x = not (eqb x 9) && not (eqb x 13)

-- it passes the test, or can't be read for that reason
abbrev pub fits : Bool → Why → Result Bool Why
fits true why = Ok true
fits false why = Err why

-- the letter of a word of one letter; and whether a letter is the one that is quoted
abbrev pub letter_of : List ℕ → Option ℕ
letter_of [] = None
letter_of (x ∷ []) = Some x
letter_of (x ∷ y ∷ w) = None

abbrev pub is_letter : ℕ → String → Bool
is_letter x letter = eqb x (get_or (text letter) 0 0)

-- how a word suits a word of a form: N a number, F a fault, H HEX, P a path, any other word itself; whether it is that word, or why it can't be read
abbrev pub letter_fit : Option ℕ → List ℕ → List ℕ → Result Bool Why
letter_fit None asked w = Ok (bytes_eq asked w)
letter_fit (Some x) asked w =
    cond (is_letter x "N") (fits (is_some (number_of w)) Number)
    (cond (is_letter x "F") (fits (is_some (fault_of w)) Fault)
    (cond (is_letter x "H") (fits (is_hex w) Hex)
    (cond (is_letter x "P") (fits (is_all is_path_byte w) Path)
    (Ok (bytes_eq asked w)))))

unfoldable pub word_fit : List ℕ → List ℕ → Result Bool Why
word_fit asked w = letter_fit (letter_of asked) asked w

-- where the line has no word more: too few words, or another name
abbrev pub lack_fit : List ℕ → Result Bool Why
lack_fit asked = cond (eqb (length asked) 1) (Err Words) (Ok false)

-- where the first of two suits, the rest decides
abbrev pub both_fit : Result Bool Why → Result Bool Why → Result Bool Why
both_fit (Ok true) rest = rest
both_fit (Ok false) rest = Ok false
both_fit (Err why) rest = Err why

-- a form's words and a line's words, side by side: whether they fit, or have another name, or why the line can't be read
unfoldable pub form_fit : List (List ℕ) → List (List ℕ) → Result Bool Why
form_fit [] [] = Ok true
form_fit [] (w ∷ ws) = Err Words
form_fit (a ∷ more) [] = lack_fit a
form_fit (a ∷ more) (w ∷ ws) = both_fit (word_fit a w) (form_fit more ws)
