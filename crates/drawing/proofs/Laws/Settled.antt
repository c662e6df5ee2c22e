-- A board that can be drawn is told by its text, so that a text is one reading only.
use mathlib.Core.Path.{◌≡◌, refl, sym, ap, ◌∙◌}
use mathlib.Core.Logic.{⊎_elim, inl, inr}
use mathlib.Core.Bool.{true, false}
use mathlib.Core.List.{List, [], ◌∷◌, ◌++◌, map, append_assoc}
use Prim.Native.Nat.{ℕ, suc, ◌+◌, ◌≤◌, ◌<◌, zero-le, suc-le-suc}
use native.Mathlib.Nat.{add-zero, zero-add, le_antisymm}
use native.Mathlib.Omega.{arith}
use lib.Dec.{eqb, ltb}
use lib.ListN.{length, get_or, take, drop}
use borrow.Author.Tests.{eqb-true, ne_eqb, ltb-true, ltb-false}
use Rattle.board.specs.Lists.{◌among◌}
use Rattle.board.specs.Board.{Record, Board, leading}
use Rattle.board.proofs.Lists.{way}
use Rattle.text.specs.Text.{each}
use Rattle.drawing.specs.Form.{input_text, output_text, lines_text, text_of, last_number, Worded, Drawn, Departs}
use Rattle.drawing.specs.Inner.{Statement, input, output, gate, Sound, an_input, an_output, a_gate, statement_text}
use Rattle.drawing.specs.Calls.{Reading, names, departs, Reads, ByReading}
use Rattle.drawing.proofs.Laws.Stops.{share_less}
use Rattle.drawing.proofs.Laws.Lines.{text_some}
use Rattle.drawing.proofs.Laws.Feed.{statement_split}
use Rattle.drawing.proofs.Laws.Told.{statement_told}

-- the text of statements, numbered on from k: inputs and gates take a number each
abbrev after : ℕ → Statement → ℕ
after k input = suc k
after k (output o) = k
after k (gate g) = suc k

abbrev list_text : ℕ → List Statement → List ℕ
list_text k [] = []
list_text k (st ∷ sts) = statement_text k st ++ list_text (after k st) sts

data AllSound : List Statement → Type 0 where
  no_statement : AllSound []
  one_more : (st : Statement) (sts : List Statement) → Sound st → AllSound sts → AllSound (st ∷ sts)

-- they are told by it
never_empty : {A : Type 0} (k : ℕ) (st : Statement) (u : List ℕ) → Sound st → statement_text k st ++ u ≡ [] → A
never_empty k st u sound e = go (statement_text k st) (text_some k st sound) e
  where
    go : {A : Type 0} (l : List ℕ) → 0 < length l → l ++ u ≡ [] → A
    go [] h e = absurd (omega arith)
    go (c ∷ cs) h e = let z : ◌≡◌ {A = ℕ} 0 1 = cc in absurd (omega arith)

list_told : (k : ℕ) {a b : List Statement} → AllSound a → AllSound b → list_text k a ≡ list_text k b → a ≡ b
list_told k no_statement no_statement e = refl
list_told k no_statement (one_more st sts sound more) e = never_empty k st (list_text (after k st) sts) sound (sym e)
list_told k (one_more st sts sound more) no_statement e = never_empty k st (list_text (after k st) sts) sound e
list_told k (one_more st sts sound more) (one_more other others also rest) e =
    let (same, behind, sections) = statement_split k st other (list_text (after k st) sts) (list_text (after k other) others) sound also e in
    let is : st ≡ other = statement_told k st other sound also same in
    let later : sts ≡ others = list_told (after k other) more rest (ap (λ (s : Statement). list_text (after k s) sts) (sym is) ∙ behind) in
    cc

-- the lines of a board that can be drawn: inputs without pins, then gates
abbrev bare_input : Record
bare_input = record { kind = 0; pins = [] }

data Gates : List Record → Type 0 where
  no_gate : Gates []
  one-gate : (g : Record) (gs : List Record) → Worded g → Gates gs → Gates (g ∷ gs)

data Drawable : List Record → Type 0 where
  gates_only : (gs : List Record) → Gates gs → Drawable gs
  one_input : (rs : List Record) → Drawable rs → Drawable (bare_input ∷ rs)

gates_of : (rs : List Record) → ((i : ℕ) → i < length rs → Worded (get_or rs i bare_input)) → Gates rs
gates_of [] h = no_gate
gates_of (r ∷ rs) h = one-gate r rs (h 0 (suc-le-suc zero-le)) (gates_of rs (λ i l. h (suc i) (suc-le-suc l)))

drawable_of : (rs : List Record) → ((i : ℕ) → i < leading rs → (get_or rs i bare_input).pins ≡ [])
    → ((i : ℕ) → leading rs ≤ i → i < length rs → Worded (get_or rs i bare_input)) → Drawable rs
drawable_of [] bare worded = gates_only [] no_gate
drawable_of (r ∷ rs) bare worded =
    ⊎_elim
    (λ (e : eqb r.kind 0 ≡ true).
    let kind = eqb-true r.kind 0 e in
    let pins : r.pins ≡ [] = (rw e at bare) 0 (suc-le-suc zero-le) in
    let is : r ≡ bare_input = ap (λ (j : ℕ). made j r.pins) kind ∙ ap (made 0) pins in
    rw is (one_input rs (drawable_of rs (λ i l. (rw e at bare) (suc i) (suc-le-suc l)) (λ i past l. (rw e at worded) (suc i) (suc-le-suc past) (suc-le-suc l)))))
    (λ (e : eqb r.kind 0 ≡ false). gates_only (r ∷ rs) (gates_of (r ∷ rs) (λ i l. (rw e at worded) i zero-le l)))
    (way (eqb r.kind 0))
  where
    made : ℕ → List ℕ → Record
    made kind pins = record { kind = kind; pins = pins }

-- its statements
abbrev listed : {rs : List Record} → Drawable rs → List ℕ → List Statement
listed (gates_only gs all) outs = map output outs ++ map gate gs
listed (one_input rs more) outs = input ∷ listed more outs

-- each may stand in a drawing
gates_sound : {gs : List Record} → Gates gs → AllSound (map gate gs)
gates_sound no_gate = no_statement
gates_sound (one-gate g gs w more) = one_more (gate g) (map gate gs) (a_gate w) (gates_sound more)

outs_sound : (os : List ℕ) {sts : List Statement} → ((o : ℕ) → o among os → o ≤ last_number) → AllSound sts → AllSound (map output os ++ sts)
outs_sound [] few more = more
outs_sound (o ∷ os) {sts} few more = one_more (output o) (map output os ++ sts) (an_output (few o (inl refl))) (outs_sound os (λ p m. few p (inr m)) more)

listed_sound : (outs : List ℕ) → ((o : ℕ) → o among outs → o ≤ last_number) → {rs : List Record} (d : Drawable rs) → AllSound (listed d outs)
listed_sound outs few (gates_only gs all) = outs_sound outs few (gates_sound all)
listed_sound outs few (one_input rs more) = one_more input (listed more outs) an_input (listed_sound outs few more)

-- their text is the board's
gates_text : (k : ℕ) {gs : List Record} → Gates gs → lines_text k gs ≡ list_text k (map gate gs)
unfolding lines_text
gates_text k no_gate = refl
gates_text k (one-gate g gs w more) = rw (ne_eqb g.kind 0 (λ e. omega (arith, w.a_gate)), gates_text (suc k) more)

outs_text : (k : ℕ) (os : List ℕ) (sts : List Statement) → each output_text os ++ list_text k sts ≡ list_text k (map output os ++ sts)
unfolding each
outs_text k [] sts = refl
outs_text k (o ∷ os) sts = append_assoc (output_text o) (each output_text os) (list_text k sts) ∙ ap (λ (z : List ℕ). output_text o ++ z) (outs_text k os sts)

none_leads : {gs : List Record} → Gates gs → leading gs ≡ 0
none_leads no_gate = refl
none_leads (one-gate g gs w more) = rw (ne_eqb g.kind 0 (λ e. omega (arith, w.a_gate)))

listed_text : (outs : List ℕ) (k : ℕ) {rs : List Record} (d : Drawable rs)
    → lines_text k (take (leading rs) rs) ++ each output_text outs ++ lines_text (k + leading rs) (drop (leading rs) rs) ≡ list_text k (listed d outs)
unfolding lines_text
listed_text outs k (gates_only gs all) = rw (none_leads all, add-zero, gates_text k all) (outs_text k outs (map gate gs))
listed_text outs k (one_input rs more) =
    let on : k + suc (leading rs) ≡ suc k + leading rs = omega arith in
    let ins = lines_text (suc k) (take (leading rs) rs) in
    let gates = lines_text (suc k + leading rs) (drop (leading rs) rs) in
    rw (on, append_assoc (input_text k) ins (each output_text outs), append_assoc (input_text k) (ins ++ each output_text outs) gates, listed_text outs (suc k) more)

-- the board that statements make, and that it is the same again
abbrev lines_of : List Statement → List Record
lines_of [] = []
lines_of (input ∷ sts) = bare_input ∷ lines_of sts
lines_of (output o ∷ sts) = lines_of sts
lines_of (gate g ∷ sts) = g ∷ lines_of sts

abbrev outs_of : List Statement → List ℕ
outs_of [] = []
outs_of (input ∷ sts) = outs_of sts
outs_of (output o ∷ sts) = o ∷ outs_of sts
outs_of (gate g ∷ sts) = outs_of sts

lines_again : {rs : List Record} (d : Drawable rs) (outs : List ℕ) → lines_of (listed d outs) ≡ rs
lines_again (one_input rs more) outs = ap (λ (z : List Record). bare_input ∷ z) (lines_again more outs)
lines_again (gates_only gs all) outs = past outs gs
  where
    alone : (gs : List Record) → lines_of (map gate gs) ≡ gs
    alone [] = refl
    alone (g ∷ gs) = ap (λ (z : List Record). g ∷ z) (alone gs)

    past : (os : List ℕ) (gs : List Record) → lines_of (map output os ++ map gate gs) ≡ gs
    past [] gs = alone gs
    past (o ∷ os) gs = past os gs

outs_again : {rs : List Record} (d : Drawable rs) (outs : List ℕ) → outs_of (listed d outs) ≡ outs
outs_again (one_input rs more) outs = outs_again more outs
outs_again (gates_only gs all) outs = front outs gs
  where
    alone : (gs : List Record) → outs_of (map gate gs) ≡ []
    alone [] = refl
    alone (g ∷ gs) = alone gs

    front : (os : List ℕ) (gs : List Record) → outs_of (map output os ++ map gate gs) ≡ os
    front [] gs = alone gs
    front (o ∷ os) gs = ap (λ (z : List ℕ). o ∷ z) (front os gs)

-- so a board that can be drawn is told by its text
board_listed : (b : Board) → Drawn b → (sts : List Statement) × AllSound sts × (text_of b ≡ list_text 0 sts) × (lines_of sts ≡ b.lines) × (outs_of sts ≡ b.outs)
unfolding text_of
board_listed b drawn =
    let d = drawable_of b.lines drawn.bare drawn.worded in
    let text = rw zero-add at (listed_text b.outs 0 d) in
    (listed d b.outs, listed_sound b.outs drawn.numbers d, text, lines_again d b.outs, outs_again d b.outs)

pub drawn_told : (b c : Board) → Drawn b → Drawn c → text_of b ≡ text_of c → b ≡ c
drawn_told b c drawn also e =
    let (sts, sound, is, lines, outs) = board_listed b drawn in
    let (others, sounds, so, other-lines, other-outs) = board_listed c also in
    let same : sts ≡ others = list_told 0 sound sounds (sym is ∙ e ∙ so) in
    let same_lines : b.lines ≡ c.lines = cc in
    let same-outs : b.outs ≡ c.outs = cc in
    ap (λ (l : List Record). board l b.outs) same_lines ∙ ap (board c.lines) same-outs
  where
    board : List Record → List ℕ → Board
    board lines outs = record { lines = lines; outs = outs }

-- a text departs from the form at one place only
no_later : (t : List ℕ) (n m : ℕ) → Departs t n → Departs t m → m ≤ n
no_later t n m first second =
    ⊎_elim
    (λ q.
    let l = ltb-true n m q in
    let (u, of-form, same) = second.shared in
    absurd (first.longest (omega (arith, second.within)) (u, of-form, share_less (suc n) m u t l same)))
    (λ q. ltb-false n m q)
    (way (ltb n m))

pub departs_one : (t : List ℕ) (n m : ℕ) → Departs t n → Departs t m → n ≡ m
departs_one t n m first second = le_antisymm (no_later t m n second first) (no_later t n m first second)

-- a text is one reading only
pub reads_one : (t : List ℕ) (is was : Reading) → Reads t is → Reads t was → is ≡ was
reads_one t (names b) (names c) (drawn, e) (also, f) = ap names (drawn_told b c drawn also (e ∙ sym f))
reads_one t (departs n) (departs m) first second = ap departs (departs_one t n m first second)
reads_one t (names b) (departs m) (drawn, e) second = absurd (second.not_so (b, drawn, e))
reads_one t (departs n) (names c) first (drawn, e) = absurd (first.not_so (c, drawn, e))

-- so what is owed of a text by two outcomes is owed by one reading
pub read_alike : (t : List ℕ) (P Q : Reading → Type 0) → ByReading t P → ByReading t Q → (is : Reading) × P is × Q is
read_alike t P Q (is, reads, owed) (was, also, owes) = (is, owed, rw (reads_one t was is also reads) at owes)
