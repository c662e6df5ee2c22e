-- The definitions compute: lines of the console's page and lines that can't be read, each checked by running the definition.
use mathlib.Core.Path.{◌≡◌, refl}
use mathlib.Core.List.{[], ◌∷◌}
use Rattle.std.proofs.Common.{Result, Ok, Err}
use Prim.Native.String.{String}
use Rattle.board.specs.Lists.{build, text}
use Rattle.board.specs.declared.Fault.TheVariants.{Line, Pin}
use Rattle.board.specs.declared.Sort.TheVariants.{Lines, Pins}
use Rattle.words.specs.Parts.{last}
use Rattle.words.specs.Number.{value_from, number_of}
use Rattle.words.specs.Hex.{hex_bytes}
use Rattle.words.specs.Forms.{word_fit, form_fit}
use Rattle.words.specs.Command.{anew_forms, image_forms, row_forms, book_forms, target_forms, other_forms, first_in, command_of}
use Rattle.words.specs.declared.command.Why.{Why}
use Rattle.words.specs.declared.command.Why.TheVariants.{Empty, Unknown, Words, Number, Fault as NoFault, Hex, Path}
use Rattle.words.specs.declared.command.Command.{Command}
use Rattle.words.specs.declared.command.Command.TheVariants.{Anew, OnImage, OnRows, OnBook, OnTarget, Alter}
use Rattle.words.specs.declared.command.Anew.TheVariants.{Load, Open, Import}
use Rattle.words.specs.declared.command.OnImage.TheVariants.{Export, Find}
use Rattle.words.specs.declared.command.OnRows.TheVariants.{Lend, Rows, Five}
use Rattle.words.specs.declared.command.OnBook.TheVariants.{Put, Book, Entries}
use Rattle.words.specs.declared.command.OnTarget.TheVariants.{Lend as LendTarget, Target, Read, Write}

abbrev asks : String → Result Command Why
asks line = command_of (text line)

-- the largest number of 64 bits is read, and a stuck value that is wider than a byte is 255
read :
    (asks "find 4/0" ≡ Ok (OnImage (Find (Line 4 0))))
    × (asks "rows 6 4/1" ≡ Ok (OnRows (Rows 6 (Line 4 1))))
    × (asks "five 3 1 004/300" ≡ Ok (OnRows (Five 3 1 (Line 4 255))))
    × (asks "find 4.0/1" ≡ Ok (OnImage (Find (Pin 4 0 1))))
    × (asks "find 4.18446744073709551615/256" ≡ Ok (OnImage (Find (Pin 4 18_446_744_073_709_551_615 255))))
    × (asks "put entry 3 18446744073709551615" ≡ Ok (OnBook Lines (Put 3 18_446_744_073_709_551_615)))
    × (asks "lend rows 0 8192" ≡ Ok (OnRows (Lend 0 8_192)))
    × (asks "book" ≡ Ok (OnBook Lines Book))
    × (asks "put pin 32 0" ≡ Ok (OnBook Pins (Put 32 0)))
    × (asks "pin entries" ≡ Ok (OnBook Pins Entries))
    × (asks "load -" ≡ Ok (Anew (Load 5)))
    × (asks "alter 3 0aF1" ≡ Ok (Alter 3 8))
    × (asks "open a/b" ≡ Ok (Anew (Open 5)))
    × (asks "import a/b" ≡ Ok (Anew (Import 7)))
    × (asks "export a" ≡ Ok (OnImage (Export 7)))
    × (asks "lend target 262144" ≡ Ok (OnTarget (LendTarget 262_144)))
    × (asks "target" ≡ Ok (OnTarget Target))
    × (asks "read 4e4F" ≡ Ok (OnTarget (Read 5)))
    × (asks "write" ≡ Ok (OnTarget Write))
unfolding anew_forms image_forms row_forms book_forms target_forms other_forms first_in form_fit word_fit last value_from number_of
read = (refl, refl, refl, refl, refl, refl, refl, refl, refl, refl, refl, refl, refl, refl, refl, refl, refl, refl, refl)

-- and the next is not; nor is a word where a space stands too many
unread :
    (asks "put entry 3 18446744073709551616" ≡ Err Number)
    × (asks "find  4/0" ≡ Err NoFault)
    × (asks " find 4/0" ≡ Err Unknown)
    × (asks "book " ≡ Err Words)
    × (asks "load " ≡ Err Hex)
    × (asks "" ≡ Err Empty)
    × (asks "find 4/" ≡ Err NoFault)
    × (asks "find 4" ≡ Err NoFault)
    × (asks "find 4/0/1" ≡ Err NoFault)
    × (asks "find 4./1" ≡ Err NoFault)
    × (asks "find .0/1" ≡ Err NoFault)
    × (asks "find 4.0" ≡ Err NoFault)
    × (asks "find 4.0.1/1" ≡ Err NoFault)
    × (asks "find 4/0.1" ≡ Err NoFault)
    × (asks "pin" ≡ Err Unknown)
    × (asks "load abc" ≡ Err Hex)
    × (asks "read" ≡ Err Words)
    × (asks "write -" ≡ Err Words)
    × (asks "lend" ≡ Err Unknown)
    × (asks "open a\tb" ≡ Err Path)
    × (asks "find" ≡ Err Words)
    × (asks "put" ≡ Err Unknown)
    × (asks "Book" ≡ Err Unknown)
unfolding anew_forms image_forms row_forms book_forms target_forms other_forms first_in form_fit word_fit last value_from number_of
unread = (refl, refl, refl, refl, refl, refl, refl, refl, refl, refl, refl, refl, refl, refl, refl, refl, refl, refl, refl, refl, refl, refl, refl)

-- each digit of HEX, and no bytes
bytes :
    (hex_bytes (text "0123456789abcdefABCDEF") ≡ (1 ∷ 35 ∷ 69 ∷ 103 ∷ 137 ∷ 171 ∷ 205 ∷ 239 ∷ 171 ∷ 205 ∷ 239 ∷ []))
    × (hex_bytes (text "-") ≡ [])
unfolding build
bytes = (refl, refl)
