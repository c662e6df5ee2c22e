-- A gate's statement from an image: its pieces and its pins' numbers.
use mathlib.Core.Path.{◌≡◌, refl, sym, ap, ◌∙◌}
use mathlib.Core.Logic.{⊎_elim}
use mathlib.Core.Bool.{true, false, cond}
use mathlib.Core.List.{List, [], ◌∷◌, ◌++◌, append_assoc, append-nil}
use Prim.Native.Nat.{ℕ, suc, ◌+◌, ◌-◌, ◌*◌, ◌≤◌, ◌<◌}
use native.Mathlib.Nat.{not-suc-le-zero}
use native.Mathlib.Omega.{arith}
use lib.Dec.{ltb}
use lib.ListN.{length, get_or, take, drop}
use borrow.Author.Tests.{ltb-true, ltb-false}
use lib.Seq.{take-append-add, take-append-le, length-take-le}
use Rattle.board.specs.Lists.{text, same}
use Rattle.board.specs.Limits.{last_kind}
use Rattle.board.specs.Board.{Record, record_of}
use Rattle.board.specs.Fine.{first_tie}
use Rattle.board.proofs.Lists.{way, same_is, build-length, build_at}
use Rattle.image.specs.Bytes.{byte_at, word_at}
use Rattle.image.specs.Image.{line_count, first_record, record_place, record_at, board_of}
use Rattle.image.proofs.Laws.Records.{records_at}
use Rattle.text.specs.Text.{Written, decimal, form, each}
use Rattle.text.proofs.Laws.Made.{next}
use Rattle.text.proofs.Laws.Each.{each_at, each_past}
use Rattle.drawing.specs.Form.{words, input_text, output_text, gate_text, Worded}
use Rattle.drawing.specs.Inner.{piece_forms, piece}
use Rattle.drawing.proofs.Laws.Pieces.{at_each}

-- a text in a part of a buffer stands behind the first bytes
pub part-behind : (out part rest t : List ℕ) (at n : ℕ) → at ≤ length out → Written n part t → take (at + n) (take at out ++ (part ++ rest)) ≡ take at out ++ t
part-behind out part rest t at n room w =
    let front : length (take at out) ≡ at = length-take-le at out room in
    ap (λ (k : ℕ). take (k + n) (take at out ++ (part ++ rest))) (sym front)
    ∙ take-append-add (take at out) (part ++ rest) n
    ∙ ap (λ (l : List ℕ). take at out ++ l) (take-append-le n part rest w.room ∙ w.is)

-- how long a text in a buffer is
pub written_length : {r : ℕ} {out t : List ℕ} → Written r out t → r ≡ length t
written_length {r} {out} {t} w = sym (length-take-le r out w.room) ∙ ap length w.is

-- the record of a line, and its pins, from the bytes
module _ (s : List ℕ) (i : ℕ) (l : i < line_count s) where
  pub line_record : record_of (board_of s) i ≡ record_at s (record_place s i)
  line_record = records_at s (first_record s) (line_count s) i _ l

  pub line_kind : (record_of (board_of s) i).kind ≡ byte_at s (record_place s i)
  line_kind = ap (λ (r : Record). r.kind) line_record

  pub line_pin : (j : ℕ) → j < length (record_of (board_of s) i).pins → get_or (record_of (board_of s) i).pins j 0 ≡ word_at s (record_place s i + 2 + 2 * j)
  line_pin j h =
      ap (λ (r : Record). get_or r.pins j 0) line_record
      ∙ build_at _ _ j (rw build-length at (rw line_record at h))

-- the text of a pin behind the first
abbrev pub next_pin : ℕ → ℕ → List ℕ
next_pin i q = piece 4 i ++ decimal q

each_same : (f g : ℕ → List ℕ) → ((n : ℕ) → f n ≡ g n) → (ns : List ℕ) → each f ns ≡ each g ns
unfolding each
each_same f g h [] = refl
each_same f g h (n ∷ ns) = rw (h n, each_same f g h ns)

-- the piece of a word: it opens the brackets before a pin, and those of a tie it closes too
abbrev opens : ℕ → List ℕ
opens k = cond (ltb k first_tie) (text "(n") (text "()\n")

word_is : (i k : ℕ) → k < last_kind → piece (4 + suc k) i ≡ get_or words (suc k) [] ++ opens (suc k)
unfolding piece piece_forms same
word_is i k h = same_is _ _ (at_each (λ j. same (piece (4 + suc j) i) (get_or words (suc j) [] ++ opens (suc j))) last_kind tt k h)

pub word_piece : (i : ℕ) (r : Record) → Worded r → piece (4 + r.kind) i ≡ get_or words r.kind [] ++ opens r.kind
word_piece i r w =
    let kind : suc (r.kind - 1) ≡ r.kind = omega (arith, w.a_gate) in
    rw kind at (word_is i (r.kind - 1) (omega (arith, w.a_gate, w.a_word)))

-- a gate with a pin is no tie, and one without is one
has_pins : (r : Record) → Worded r → 1 ≤ length r.pins → ltb r.kind first_tie ≡ true
has_pins r w some =
    ⊎_elim (λ e. e) (λ e. absurd (omega (arith, some, ap length (w.no_pin (ltb-false r.kind first_tie e))))) (way (ltb r.kind first_tie))

has_none : (r : Record) → Worded r → length r.pins ≡ 0 → ltb r.kind first_tie ≡ false
has_none r w none =
    ⊎_elim (λ e. absurd (omega (arith, none, w.some_pin (ltb-true r.kind first_tie e)))) (λ e. e) (way (ltb r.kind first_tie))

pub input_text_lem : (i : ℕ) → input_text i ≡ piece 0 i
unfolding input_text piece piece_forms
input_text_lem i = refl

pub output_text_lem : (o : ℕ) → output_text o ≡ piece 1 o ++ (decimal o ++ piece 3 o)
unfolding output_text piece piece_forms
output_text_lem o = refl

regroup : (name word bracket n p ps close : List ℕ) → name ++ word ++ bracket ++ (n ++ (p ++ []) ++ ps) ++ close ≡ name ++ (word ++ (bracket ++ n) ++ (p ++ (ps ++ close)))
regroup name word bracket n p ps close = simp (append_assoc, append-nil)

alone : (name word bracket close : List ℕ) → name ++ word ++ bracket ++ [] ++ close ≡ name ++ (word ++ (bracket ++ close))
alone name word bracket close = simp (append_assoc, append-nil)

-- a gate's text, of one pin at least, and of none
pub gate-text : (i : ℕ) (r : Record) → Worded r → 1 ≤ length r.pins → gate_text i r ≡ piece 2 i ++ (piece (4 + r.kind) i ++ (decimal (get_or r.pins 0 0) ++ (each (next_pin i) (drop 1 r.pins) ++ piece 3 i)))
unfolding gate_text piece piece_forms
gate-text i r w some = go r.pins some (rw (has_pins r w some) at (word_piece i r w))
  where
    go : (ps : List ℕ) → 1 ≤ length ps → piece (4 + r.kind) i ≡ get_or words r.kind [] ++ text "(n"
        → gate_text i (record { kind = r.kind; pins = ps })
        ≡ piece 2 i ++ (piece (4 + r.kind) i ++ (decimal (get_or ps 0 0) ++ (each (next_pin i) (drop 1 ps) ++ piece 3 i)))
    go [] h e = absurd (not-suc-le-zero h)
    go (p ∷ ps) h e =
        let name = piece 2 i in
        let word = get_or words r.kind [] in
        let close = piece 3 i in
        let same-pins = each_same (λ q. form ", n#" (q ∷ [])) (next_pin i) (λ q. simp append-nil) ps in
        regroup name word (text "(") (text "n") (decimal p) (each (λ q. form ", n#" (q ∷ [])) ps) close
        ∙ ap (λ (l : List ℕ). name ++ (word ++ text "(n" ++ (decimal p ++ (l ++ close)))) same-pins
        ∙ ap (λ (l : List ℕ). name ++ (l ++ (decimal p ++ (each (next_pin i) ps ++ close)))) (sym e)

pub tie_text : (i : ℕ) (r : Record) → Worded r → length r.pins ≡ 0 → gate_text i r ≡ piece 2 i ++ piece (4 + r.kind) i
unfolding gate_text piece piece_forms
tie_text i r w none = go r.pins none (rw (has_none r w none) at (word_piece i r w))
  where
    go : (ps : List ℕ) → length ps ≡ 0 → piece (4 + r.kind) i ≡ get_or words r.kind [] ++ text "()\n"
        → gate_text i (record { kind = r.kind; pins = ps }) ≡ piece 2 i ++ piece (4 + r.kind) i
    go [] h e = alone (piece 2 i) (get_or words r.kind []) (text "(") (text ")\n") ∙ ap (λ (l : List ℕ). piece 2 i ++ l) (sym e)
    go (p ∷ ps) h e = absurd (omega arith)

-- what is left from a pin on
module _ (i : ℕ) (pins : List ℕ) (j : ℕ) where
  abbrev pub pins_left : List ℕ
  pins_left = each (next_pin i) (drop j pins) ++ piece 3 i

  pub pin_next : j < length pins → pins_left ≡ piece 4 i ++ (decimal (get_or pins j 0) ++ (each (next_pin i) (drop (j + 1) pins) ++ piece 3 i))
  pin_next h = rw (each_at (next_pin i) pins j h) (simp append_assoc)

  pub pins_done : j ≡ length pins → pins_left ≡ piece 3 i
  pins_done e = rw (each_past (next_pin i) pins j e)

-- the statement as it is made: up to the first pin, and by a pin more
pub gate_begun : (i : ℕ) (r : Record) → Worded r → 1 ≤ length r.pins → (a b c : List ℕ) → a ≡ piece 2 i → b ≡ a ++ piece (4 + r.kind) i → c ≡ b ++ decimal (get_or r.pins 0 0)
    → gate_text i r ≡ c ++ pins_left i r.pins 1
gate_begun i r w some a b c named opened one =
    let all = gate_text i r in
    let word = piece (4 + r.kind) i in
    let pin = decimal (get_or r.pins 0 0) in
    let rest = pins_left i r.pins 1 in
    let from-a = next all [] (piece 2 i ++ (word ++ (pin ++ rest))) (gate-text i r w some) (piece 2 i) (word ++ (pin ++ rest)) a refl named in
    let from-b = next all a (word ++ (pin ++ rest)) from-a word (pin ++ rest) b refl opened in
    next all b (pin ++ rest) from-b pin rest c refl one

pub gate_more : (i : ℕ) (pins : List ℕ) (j : ℕ) (all made comma more : List ℕ) → j < length pins → all ≡ made ++ pins_left i pins j → comma ≡ made ++ piece 4 i
    → more ≡ comma ++ decimal (get_or pins j 0) → all ≡ more ++ pins_left i pins (j + 1)
gate_more i pins j all made comma more h is c m =
    let rest = pins_left i pins (j + 1) in
    let pin = decimal (get_or pins j 0) in
    next all comma (pin ++ rest) (next all made (pins_left i pins j) is (piece 4 i) (pin ++ rest) comma (pin_next i pins j h) c) pin rest more refl m
