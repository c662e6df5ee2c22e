-- Document 01's two edges: an alteration to the same record is accepted, since that record is good where it stands, and an altered line
-- that reaches no output touches nothing, before or after.
use mathlib.Core.Path.{◌≡◌, ap, ◌∙◌}
use mathlib.Core.Option.{Option, none}
use mathlib.Core.List.{List}
use mathlib.Core.Bool.{false, not}
use Prim.Native.Nat.{ℕ, ◌+◌, ◌*◌, ◌<◌}
use native.Mathlib.Omega.{arith}
use lib.Dec.{eqb, leb, lit<}
use lib.ListN.{length, get_or, take, drop}
use lib.Seq.{ext_get_or, get_or-take, get_or-drop}
use borrow.Author.Tests.{eq-eqb, ne_eqb, lt-leb}
use Rattle.board.specs.Lists.{◌among◌}
use Rattle.board.specs.Board.{inputs, leading, altered}
use Rattle.board.specs.Gate.{site}
use Rattle.board.specs.Book.{entries_a_line, fault_at, renewed}
use Rattle.board.specs.Reach.{reach, touched}
use Rattle.board.specs.declared.Sort.{Sort}
use Rattle.board.specs.declared.Sort.TheVariants.{Lines, Pins}
use Rattle.board.proofs.Lists.{nowhere_at, build-length, build_at}
use Rattle.board.proofs.Fine.{fine_low, fine_altered}
use Rattle.image.specs.Bytes.{byte_at, word_at}
use Rattle.image.specs.Image.{line_count, first_record, record_place, record_at, records, board_of}
use Rattle.image.specs.Refusals.{bad_field, image_refusals, first_refusal, Accepted}
use Rattle.image.specs.Calls.{◌then◌, line_refusals}
use Rattle.image.specs.declared.Refusal.{Refusal}
use Rattle.image.specs.declared.Refusal.TheVariants.{Line, Lent, Alteration}
use Rattle.image.proofs.Laws.Answer.{next_skip}
use Rattle.image.proofs.Laws.Fine.{passed, field_good, accepted_fine}
use Rattle.find.specs.Book.{bad_book}
use Rattle.alter.specs.Patch.{fields, unfit}
use Rattle.alter.specs.Alter.{Books, brought_up, alter_refusals}
use Rattle.alter.proofs.Laws.Refused.{Fit, any_inputs, field_at, takes}
use Rattle.alter.proofs.Laws.Board.{Same, same_field}
use Rattle.alter.proofs.Laws.Meet.{meets_none, meets_none_after}

-- the ten bytes from a place on
abbrev pub own : List ℕ → ℕ → List ℕ
own s p = take 10 (drop p s)

own_byte : (s : List ℕ) (p j : ℕ) → j < 10 → byte_at (own s p) j ≡ byte_at s (p + j)
own_byte s p j l = get_or-take 10 (drop p s) j 0 l ∙ get_or-drop p s j 0

own_word : (s : List ℕ) (p j : ℕ) → j < 9 → word_at (own s p) j ≡ word_at s (p + j)
own_word s p j l =
    let e : p + (j + 1) ≡ p + j + 1 = omega arith in
    rw (own_byte s p j (omega arith), own_byte s p (j + 1) (omega arith), e)

own_same : (s : List ℕ) (p : ℕ) → Same (own s p) 0 s p
own_same s p = record {
  kind = own_byte s p 0 (lit< tt) ∙ (let e : p + 0 ≡ p = omega arith in ap (byte_at s) e);
  count = own_byte s p 1 (lit< tt);
  pins = λ j l. let e : p + (2 + 2 * j) ≡ p + 2 + 2 * j = omega arith in own_word s p (2 + 2 * j) (omega arith) ∙ ap (word_at s) e;
}

module _ (s : List ℕ) (line : ℕ) (ok : Accepted s) (inside : line < line_count s) where
  module _ (gate : byte_at s (record_place s line) ≡ 0 → ⊥) where
    own_good : unfit s line (own s (record_place s line)) ≡ false
    unfolding unfit
    own_good =
        let p = record_place s line in
        let ins = inputs (board_of s) in
        rw (ne_eqb (byte_at s p) 0 gate, (own_same s p).kind, ne_eqb (byte_at s p) 0 gate)
        (nowhere_at (bad_field (own s p) 0 line ins) fields (λ f l.
        ap (bad_field (own s p) 0 line ins) (field_at f l)
        ∙ same_field (own_same s p) line ins f l
        ∙ any_inputs s p line ins (leading (records s (first_record s) line)) f gate
        ∙ field_good s (passed s ok) line f inside l))

    -- an alteration of a gate to its own record is accepted
    pub same_accepted : (books : Books) → ((sort : Sort) → length (books sort) ≡ entries_a_line sort * line_count s)
        → first_refusal (alter_refusals s books line (own s (record_place s line))) ≡ none
    unfolding alter_refusals line_refusals
    same_accepted books long =
        let named = next_skip (image_refusals s) ok (leb (line_count s) line) Line (lt-leb _ _ inside) in
        let whole : (rs : List (Option Refusal)) (sort : Sort) → first_refusal rs ≡ none → first_refusal (rs then bad_book sort s (length (books sort))) ≡ none =
        λ rs sort known. next_skip rs known (not (eqb (length (books sort)) (entries_a_line sort * line_count s))) Lent (ap not (eq-eqb _ _ (long sort))) in
        let lines = line_refusals s line then bad_book Lines s (length (books Lines)) in
        let lent = whole lines Pins (whole (line_refusals s line) Lines named) in
        next_skip (lines then bad_book Pins s (length (books Pins))) lent (unfit s line (own s (record_place s line))) Alteration own_good

  -- an altered line that reaches no output touches nothing
  module _ (new : List ℕ) (fits : Fit s line new) (alone : (o : ℕ) → o among (board_of s).outs → reach (board_of s) line o ≡ false) where
    nothing_touched : (l : ℕ) → touched (board_of s) line (record_at new 0) l ≡ false
    unfolding touched
    nothing_touched l =
        let b = board_of s in
        let r = record_at new 0 in
        let fine = accepted_fine s ok in
        let low = fine_low b fine in
        let later = fine_low (altered b line r) (fine_altered b line r fine (takes s line new inside fits)) in
        rw (meets_none b line l alone, meets_none_after b line r low later alone l)

    pub nothing_renewed : (books : Books) (sort : Sort) → brought_up s books line new sort ≡ books sort
    unfolding brought_up renewed
    nothing_renewed books sort =
        let b = board_of s in
        let r = record_at new 0 in
        let book = books sort in
        let f : ℕ → List ℕ → ℕ = λ k done. renewed b line r (fault_at sort k) (get_or book k 0) in
        ext_get_or 0 (brought_up s books line new sort) book (build-length f (length book)) (λ k l.
        build_at f (length book) k (rw (build-length f (length book)) at l) ∙ rw (nothing_touched (site (fault_at sort k))))
