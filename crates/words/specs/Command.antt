-- What a command line asks for.
use Rattle.std.specs.Prelude.{cond, true, false, Bool, Option, Some, None, Result, Ok, Err, unwrap_or, List, [], ◌∷◌, ◌++◌, ℕ, ◌-◌, eqb, length}
use Prim.Native.String.{String}
use Rattle.board.specs.Lists.{text}
use Rattle.board.specs.declared.Fault.TheVariants.{Line}
use Rattle.board.specs.declared.Sort.TheVariants.{Lines, Pins}
use Rattle.words.specs.Parts.{words, last}
use Rattle.words.specs.Number.{number_at}
use Rattle.words.specs.Fault.{fault_of}
use Rattle.words.specs.Forms.{form_fit}
use Rattle.words.specs.declared.command.Why.{Why}
use Rattle.words.specs.declared.command.Why.TheVariants.{Empty, Unknown}
use Rattle.words.specs.declared.command.Values.{Values}
use Rattle.words.specs.declared.command.Row as Code
use Rattle.words.specs.declared.command.Command.{Command}
use Rattle.words.specs.declared.command.Command.TheVariants.{Anew, OnImage, OnRows, OnBook, OnTarget, Alter, Help}
use Rattle.words.specs.declared.command.Anew.TheVariants.{Load, Open, Import}
use Rattle.words.specs.declared.command.OnImage.TheVariants.{Save, Export, Image, Check, Judge, Find}
use Rattle.words.specs.declared.command.OnRows.TheVariants.{Lend as LendRows, PutGood, PutFaulty, Rows, Refresh, Five, ShowGood, ShowFaulty}
use Rattle.words.specs.declared.command.OnBook.TheVariants.{Lend as LendBook, Put, Book, Entries}
use Rattle.words.specs.declared.command.OnTarget.TheVariants.{Lend as LendTarget, Target, Read, Write}

-- a command's form, and what a line of that form asks for
pub record Row : Type 0 where
  pub form : List ℕ
  pub asks : Command

-- a row of the code's table
abbrev pub shown : Code.Row → Row
shown r = record { form = r.form.now; asks = r.asks }

-- a row of the table, its form as quoted text
abbrev pub asked_by : String → Command → Row
asked_by f c = record { form = text f; asks = c }

-- the commands of the console's page, each with its form: N a number, F a fault, H HEX, P a path. Those that bring a new image
unfoldable pub anew_forms : Values → List Row
anew_forms v =
    asked_by "load H" (Anew (Load v.from))
    ∷ asked_by "open P" (Anew (Open v.from))
    ∷ asked_by "import P" (Anew (Import v.from))
    ∷ []

-- those that use the image alone
unfoldable pub image_forms : Values → List Row
image_forms v =
    asked_by "save P" (OnImage (Save v.from))
    ∷ asked_by "export P" (OnImage (Export v.from))
    ∷ asked_by "image" (OnImage Image)
    ∷ asked_by "check" (OnImage Check)
    ∷ asked_by "judge N F" (OnImage (Judge v.one v.fault))
    ∷ asked_by "find F" (OnImage (Find v.fault))
    ∷ []

-- those that use the rows
unfoldable pub row_forms : Values → List Row
row_forms v =
    asked_by "lend rows N N" (OnRows (LendRows v.two v.three))
    ∷ asked_by "put good H" (OnRows (PutGood v.from))
    ∷ asked_by "put faulty H" (OnRows (PutFaulty v.from))
    ∷ asked_by "rows N F" (OnRows (Rows v.one v.fault))
    ∷ asked_by "refresh N N" (OnRows (Refresh v.one v.two))
    ∷ asked_by "five N N F" (OnRows (Five v.one v.two v.fault))
    ∷ asked_by "show good N" (OnRows (ShowGood v.two))
    ∷ asked_by "show faulty N" (OnRows (ShowFaulty v.two))
    ∷ []

-- those that use one book
unfoldable pub book_forms : Values → List Row
book_forms v =
    asked_by "lend book N" (OnBook Lines (LendBook v.two))
    ∷ asked_by "put entry N N" (OnBook Lines (Put v.two v.three))
    ∷ asked_by "book" (OnBook Lines Book)
    ∷ asked_by "entries" (OnBook Lines Entries)
    ∷ asked_by "lend pins N" (OnBook Pins (LendBook v.two))
    ∷ asked_by "put pin N N" (OnBook Pins (Put v.two v.three))
    ∷ asked_by "pin book" (OnBook Pins Book)
    ∷ asked_by "pin entries" (OnBook Pins Entries)
    ∷ []

-- those that use the target
unfoldable pub target_forms : Values → List Row
target_forms v =
    asked_by "lend target N" (OnTarget (LendTarget v.two))
    ∷ asked_by "target" (OnTarget Target)
    ∷ asked_by "read H" (OnTarget (Read v.from))
    ∷ asked_by "write" (OnTarget Write)
    ∷ []

-- that which uses both books, and the one that lists them all
unfoldable pub other_forms : Values → List Row
other_forms v =
    asked_by "alter N H" (Alter v.one v.from)
    ∷ asked_by "help" Help
    ∷ []

-- and all of them
abbrev pub table : Values → List Row
table v = anew_forms v ++ (image_forms v ++ (row_forms v ++ (book_forms v ++ (target_forms v ++ other_forms v))))

-- the numbers of a line's words 1, 2 and 3 (word 0 is the first); the fault that its last word names, and where that word begins.
-- Where it names none, line 0's stands there, which no row then asks for (`fault_unasked`, proofs/Laws/NoFault.antt)
abbrev pub values_of : List ℕ → Values
values_of s = record {
  one = number_at (words s) 1;
  two = number_at (words s) 2;
  three = number_at (words s) 3;
  fault = unwrap_or (fault_of (last (words s))) (Line 0 0);
  from = length s - length (last (words s));
}

-- what a row asks for where a line fits its form, or what comes after it where the line has another name
abbrev pub chosen : Result Bool Why → Command → Result (Option Command) Why → Result (Option Command) Why
chosen (Ok true) asks rest = Ok (Some asks)
chosen (Ok false) asks rest = rest
chosen (Err why) asks rest = Err why

-- what the first row asks for whose name a line's words have, or why the line does not have its form
unfoldable pub first_in : List Row → List (List ℕ) → Result (Option Command) Why
first_in [] ws = Ok None
first_in (r ∷ rs) ws = chosen (form_fit (words r.form) ws) r.asks (first_in rs ws)

-- what was found, or else the rest
abbrev pub or_first : Result (Option Command) Why → Result (Option Command) Why → Result (Option Command) Why
or_first (Ok (Some c)) rest = Ok (Some c)
or_first (Ok None) rest = rest
or_first (Err why) rest = Err why

-- what was found is asked for
abbrev pub asked : Result (Option Command) Why → Result Command Why
asked (Ok (Some c)) = Ok c
asked (Ok None) = Err Unknown
asked (Err why) = Err why

-- what a line asks for, or why it can't be read
abbrev pub command_of : List ℕ → Result Command Why
command_of s = cond (eqb (length s) 0) (Err Empty) (asked (first_in (table (values_of s)) (words s)))
