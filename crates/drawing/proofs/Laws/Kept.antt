-- What is kept of a board with one statement more, and that a statement's numbers have room.
use mathlib.Core.Path.{◌≡◌, refl, sym, ap}
use mathlib.Core.Logic.{⊎_elim, inl, inr}
use mathlib.Core.Bool.{true, false}
use mathlib.Core.List.{List, [], ◌∷◌, ◌++◌, append-nil, append_assoc}
use Prim.Native.Nat.{ℕ, zero, suc, ◌+◌, ◌*◌, ◌≤◌, ◌<◌}
use native.Mathlib.Omega.{arith}
use lib.Dec.{ltb, lit<}
use lib.ListN.{length, get_or, take, replicate, length-append, length-take}
use lib.Seq.{get_or-take}
use borrow.Author.Tests.{ltb-true, ltb-false}
use Rattle.std.proofs.lemmas.List.{get_or_past}
use Rattle.std.specs.Prelude.{Ok}
use Rattle.board.specs.Lists.{◌among◌}
use Rattle.board.specs.Limits.{most_lines, most_outputs}
use Rattle.board.specs.Board.{Record, Board}
use Rattle.board.proofs.Lists.{way}
use Rattle.text.specs.Text.{each}
use Rattle.drawing.specs.Form.{last_number}
use Rattle.drawing.specs.Image.{word_bytes, record_bytes, lines_bytes}
use Rattle.drawing.specs.Inner.{bare, Small, Kept, output, gate, Sound, an_output, a_gate, Lined, Storable, KeepsMore}
use Rattle.drawing.specs.declared.form.Tally.{Tally}
use Rattle.drawing.specs.declared.line.Line.{Line}
use Rattle.drawing.specs.declared.line.Line.TheVariants.{Input, Output, Gate}
use Rattle.drawing.proofs.Laws.Sofar.{each_end}

-- the bytes of one line more
lines_end : (rs : List Record) (r : Record) → lines_bytes (rs ++ (r ∷ [])) ≡ lines_bytes rs ++ record_bytes r
unfolding lines_bytes
lines_end [] r = append-nil (record_bytes r)
lines_end (q ∷ rs) r = rw (lines_end rs r) (sym (append_assoc (record_bytes q) (lines_bytes rs) (record_bytes r)))

module _ (c : Tally) (records outputs after : List ℕ) where
  -- a record more
  record_kept : (g : Record) (bytes : List ℕ) → bytes ≡ record_bytes g → (c.lines < most_lines → take (10 * c.lines + 10) after ≡ take (10 * c.lines) records ++ bytes)
      → (b : Board) → c.lines ≡ length b.lines → Kept b records outputs → Kept (record { lines = b.lines ++ (g ∷ []); outs = b.outs }) after outputs
  record_kept g bytes are puts b counted kept =
      let long : length (b.lines ++ (g ∷ [])) ≡ c.lines + 1 = rw length-append (omega arith) in
      record {
        lines = λ l.
            let size : 10 * length (b.lines ++ (g ∷ [])) ≡ 10 * c.lines + 10 = omega arith in
            rw (size, puts (omega arith), are, counted, kept.lines (omega arith)) (sym (lines_end b.lines g));
        outs = kept.outs;
      }

  pub keeps_input : (n : ℕ) (pins : List ℕ) → pins ≡ replicate 4 0
      → (c.lines < most_lines → take (10 * c.lines + 10) after ≡ take (10 * c.lines) records ++ (0 ∷ 0 ∷ each word_bytes pins))
      → KeepsMore (Input n) c records outputs after outputs
  keeps_input n pins zeros puts b st told lines outs kept =
      rw told (record_kept bare (0 ∷ 0 ∷ each word_bytes pins) (ap (λ (z : List ℕ). 0 ∷ 0 ∷ each word_bytes z) zeros) puts b lines kept)

  pub keeps_gate : (kind count : ℕ) (pins : List ℕ) (n : ℕ)
      → (c.lines < most_lines → take (10 * c.lines + 10) after ≡ take (10 * c.lines) records ++ (kind ∷ count ∷ each word_bytes pins))
      → KeepsMore (Gate kind count pins n) c records outputs after outputs
  keeps_gate kind count pins n puts b st (ps, told, counts, holds) lines outs kept =
      rw told
      (record_kept (record { kind = kind; pins = ps }) (kind ∷ count ∷ each word_bytes pins) (rw (counts, holds)) puts b lines kept)

-- an output more
pub keeps_output : (c : Tally) (records outputs after : List ℕ) (o n : ℕ)
    → (c.outputs < most_outputs → take (2 * c.outputs + 2) after ≡ take (2 * c.outputs) outputs ++ word_bytes o) → KeepsMore (Output o n) c records outputs records after
keeps_output c records outputs after o n puts b st told lines outs kept =
    let long : length (b.outs ++ (o ∷ [])) ≡ c.outputs + 1 = rw length-append (omega arith) in
    rw told
    (record {
      lines = kept.lines;
      outs = λ l.
          let size : 2 * length (b.outs ++ (o ∷ [])) ≡ 2 * c.outputs + 2 = omega arith in
          rw (size, puts (omega arith), outs, kept.outs (omega arith)) (sym (each_end word_bytes b.outs o));
    })

-- pins and the zeros behind them are numbers of two bytes
padded : (ps : List ℕ) → ((p : ℕ) → p among ps → p ≤ last_number) → (i : ℕ) → get_or (ps ++ replicate 4 0) i 0 < 65536
padded [] few zero = lit< tt
padded [] few (suc zero) = lit< tt
padded [] few (suc (suc zero)) = lit< tt
padded [] few (suc (suc (suc zero))) = lit< tt
padded [] few (suc (suc (suc (suc i)))) = lit< tt
padded (p ∷ ps) few zero = omega (arith, few p (inl refl))
padded (p ∷ ps) few (suc i) = padded ps (λ q there. few q (inr there)) i

small : (pins ps : List ℕ) → ((q : ℕ) → q among ps → q ≤ last_number) → pins ≡ take 4 (ps ++ replicate 4 0) → Small pins
small pins ps few holds = λ i.
    let four = ps ++ replicate 4 0 in
    rw holds
    (⊎_elim
    (λ (e : ltb i 4 ≡ true). rw (get_or-take 4 four i 0 (ltb-true i 4 e)) (padded ps few i))
    (λ (e : ltb i 4 ≡ false).
    let past = ltb-false i 4 e in
    rw (get_or_past (take 4 four) i 0 (omega (arith, length-take 4 four))) (lit< tt))
    (way (ltb i 4)))

-- so each statement that is read has room
pub lined_storable : (from k : ℕ) (rest : List ℕ) (line : Line) → Lined from k rest (Ok line) → Storable line
lined_storable from k rest (Input n) begins = lit< tt
lined_storable from k rest (Output o n) begins = go begins.sound
  where
    go : Sound (output o) → o < 65536
    go (an_output few) = omega arith
lined_storable from k rest (Gate kind count pins n) (ps, begins, counts, holds) = go begins.sound
  where
    go : Sound (gate (record { kind = kind; pins = ps })) → (kind < 256) × (count < 256) × Small pins
    go (a_gate w) = (omega (arith, w.a_word), omega (arith, w.four_pins, counts), small pins ps w.numbers holds)
