-- The images of document 01's boards, byte by byte.
use Rattle.std.specs.Prelude.{List, [], ◌∷◌, ◌++◌, cond, ℕ, ◌+◌, ◌-◌, ◌*◌, ltb}
use Prim.Native.Char.{code}
use Prim.Native.String as Quoted
use Prim.Native.String.{String}

-- the value of a hexadecimal digit, 0 to 9 or A to F
abbrev pub digit : ℕ → ℕ
digit c = cond (ltb c 58) (c - 48) (c - 55)

-- the bytes of a quoted text: two digits a byte, one character between bytes
abbrev pub bytes : String → List ℕ
bytes Quoted.[] = []
bytes (Quoted.◌∷◌ c Quoted.[]) = []
bytes (Quoted.◌∷◌ c (Quoted.◌∷◌ d Quoted.[])) = (16 * digit (code c) + digit (code d)) ∷ []
bytes (Quoted.◌∷◌ c (Quoted.◌∷◌ d (Quoted.◌∷◌ between cs))) = (16 * digit (code c) + digit (code d)) ∷ bytes cs

-- board S: inputs 0 to 3; nor gates 4(1,2), 5(4,0), 6(4,3), 7(0,2), 8(7,1), 9(1,3), 10(9,2), 11(5,6,8,10); output 11
abbrev pub S : List ℕ
S =
    bytes "00 00 00 00 00 00 00 00 00 00/00 00 00 00 00 00 00 00 00 00/00 00 00 00 00 00 00 00 00 00/00 00 00 00 00 00 00 00 00 00"
    ++ bytes "06 02 01 00 02 00 00 00 00 00/06 02 04 00 00 00 00 00 00 00/06 02 04 00 03 00 00 00 00 00/06 02 00 00 02 00 00 00 00 00"
    ++ bytes "06 02 07 00 01 00 00 00 00 00/06 02 01 00 03 00 00 00 00 00/06 02 09 00 02 00 00 00 00 00/06 04 05 00 06 00 08 00 0A 00"
    ++ bytes "0B 00/0C 00 01 00 86 00 00 00 42 52 44 31"

-- board T: a line, its opposite, and their "or"; output 2
abbrev pub T : List ℕ
T = bytes "00 00 00 00 00 00 00 00 00 00/02 01 00 00 00 00 00 00 00 00/05 02 00 00 01 00 00 00 00 00/02 00/03 00 01 00 2C 00 00 00 42 52 44 31"

-- and(0,1), and T with it at line 2
abbrev pub and01 : List ℕ
and01 = bytes "03 02 00 00 01 00 00 00 00 00"

abbrev pub T_and : List ℕ
T_and = bytes "00 00 00 00 00 00 00 00 00 00/02 01 00 00 00 00 00 00 00 00/03 02 00 00 01 00 00 00 00 00/02 00/03 00 01 00 2C 00 00 00 42 52 44 31"

-- board H: inputs 0, 1; line 2 not(0); line 3 buffer(1); outputs 2, 3
abbrev pub H : List ℕ
H =
    bytes "00 00 00 00 00 00 00 00 00 00/00 00 00 00 00 00 00 00 00 00/02 01 00 00 00 00 00 00 00 00/01 01 01 00 00 00 00 00 00 00"
    ++ bytes "02 00/03 00/04 00 02 00 38 00 00 00 42 52 44 31"

-- not(1)
abbrev pub not1 : List ℕ
not1 = bytes "02 01 01 00 00 00 00 00 00 00"

-- inputs 0, 1, 2 and their exclusive-or; output 3
abbrev pub X : List ℕ
X =
    bytes "00 00 00 00 00 00 00 00 00 00/00 00 00 00 00 00 00 00 00 00/00 00 00 00 00 00 00 00 00 00/07 03 00 00 01 00 02 00 00 00"
    ++ bytes "03 00/04 00 01 00 36 00 00 00 42 52 44 31"

-- inputs 0, 1 and their "and"; output 2
abbrev pub A : List ℕ
A = bytes "00 00 00 00 00 00 00 00 00 00/00 00 00 00 00 00 00 00 00 00/03 02 00 00 01 00 00 00 00 00/02 00/03 00 01 00 2C 00 00 00 42 52 44 31"
