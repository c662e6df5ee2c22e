-- HEX: two digits a byte, lower or upper case; `-` is no bytes.
use Rattle.std.specs.Prelude.{Bool, ◌&&◌, ◌||◌, List, ℕ, ◌+◌, ◌*◌, ◌/◌, ◌%◌, eqb, length, get_or}
use Rattle.std.specs.Char.{is_ascii_hexdigit}
use Rattle.std.specs.Str.{bytes_eq}
use Rattle.board.specs.Lists.{build, text}
use Rattle.words.specs.Number.{is_all}

-- a word that is HEX
abbrev pub is_hex : List ℕ → Bool
is_hex w = bytes_eq w (text "-") || (eqb (length w % 2) 0 && is_all is_ascii_hexdigit w)

-- the value of a digit: its four low bits, and 9 more for a letter (A is byte 65, a 97); of any other byte, some number below 16
abbrev pub hex_digit : ℕ → ℕ
hex_digit x = (x % 16 + 9 * (x / 64)) % 16

-- the bytes that a word stands for, two digits each
abbrev pub hex_bytes : List ℕ → List ℕ
hex_bytes w = build (λ i before. 16 * hex_digit (get_or w (2 * i) 0) + hex_digit (get_or w (2 * i + 1) 0)) (length w / 2)
