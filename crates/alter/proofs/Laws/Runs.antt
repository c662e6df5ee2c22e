-- Demand 3 on the call: an accepted image stays accepted and right books are right after the call for the image after it, refused or
-- accepted; and Check accepts an altered image with the same counts.
use mathlib.Core.Path.{◌≡◌, refl, ◌∙◌}
use mathlib.Core.Option.{Option, none, some}
use mathlib.Core.List.{List, [], ◌∷◌}
use Prim.Native.Nat.{ℕ, ◌*◌, ◌<◌}
use lib.ListN.{length, get_or}
use Rattle.board.specs.Book.{entries_a_line, fault_at, renewed, Right}
use Rattle.board.specs.declared.Sort.{Sort}
use Rattle.board.specs.declared.Sort.TheVariants.{Lines, Pins}
use Rattle.board.proofs.Lists.{build-length}
use Rattle.board.proofs.Alter.{renewed_book_right}
use Rattle.image.specs.Image.{line_count, record_at, board_of}
use Rattle.image.specs.Refusals.{first_refusal, Accepted}
use Rattle.image.specs.Promise.{unless_refused, Owes}
use Rattle.image.specs.Check.{check_promise}
use Rattle.image.specs.Calls.{◌then◌, line_refusals}
use Rattle.image.specs.declared.Refusal.{Refusal}
use Rattle.image.specs.declared.Refusal.TheVariants.{Alteration}
use Rattle.image.proofs.Laws.Answer.{not-given, none_both}
use Rattle.image.proofs.Laws.Calls.{line_accepted}
use Rattle.image.proofs.Laws.Fine.{accepted_fine}
use Rattle.image.proofs.Laws.Promise.{done_leaves, done_says}
use Rattle.find.specs.Book.{bad_book}
use Rattle.find.proofs.Laws.Calls.{book_long}
use Rattle.alter.specs.Patch.{patched, unfit, bad_alteration}
use Rattle.alter.specs.Alter.{Books, brought_up, alter_refusals, alter_promise}
use Rattle.alter.proofs.Laws.Refused.{Fit, fit, takes}
use Rattle.alter.proofs.Laws.Board.{board_is, same_lines, patched_accepted, same_counts}

-- what holds of the line book and of the pin book holds of both
pub by_sort : (P : Sort → Type 0) → P Lines → P Pins → (sort : Sort) → P sort
by_sort P lines pins Lines = lines
by_sort P lines pins Pins = pins

-- what holds where no refusal applies
pub record Alterable (s : List ℕ) (books : Books) (line : ℕ) (new : List ℕ) : Type 0 where
  pub ok : Accepted s
  pub inside : line < line_count s
  pub long : (sort : Sort) → length (books sort) ≡ entries_a_line sort * line_count s
  pub fits : Fit s line new

pub alter_accepted : (s : List ℕ) (books : Books) (line : ℕ) (new : List ℕ) → first_refusal (alter_refusals s books line new) ≡ none
    → Alterable s books line new
unfolding alter_refusals
alter_accepted s books line new e =
    let lines = line_refusals s line then bad_book Lines s (length (books Lines)) in
    let (before, good) = none_both (lines then bad_book Pins s (length (books Pins))) (bad_alteration s line new) e in
    let (lent, pins-whole) = none_both lines (bad_book Pins s (length (books Pins))) before in
    let (named, book-whole) = none_both (line_refusals s line) (bad_book Lines s (length (books Lines))) lent in
    let (ok, inside) = line_accepted s line named in
    record {
      ok = ok;
      inside = inside;
      long = by_sort (λ sort. length (books sort) ≡ entries_a_line sort * line_count s) (book_long Lines s _ book-whole) (book_long Pins s _ pins-whole);
      fits = fit s line new (not-given (unfit s line new) Alteration good);
    }

-- an accepted image, and its two right books, each of its numbers a line
pub record Whole (s : List ℕ) (books : Books) : Type 0 where
  pub ok : Accepted s
  pub long : (sort : Sort) → length (books sort) ≡ entries_a_line sort * line_count s
  pub right : (sort : Sort) → Right sort (board_of s) (books sort)

module _ (s : List ℕ) (books : Books) (line : ℕ) (new : List ℕ) {said t : List ℕ} (later : Books) (ten : length new ≡ 10)
    (owes : Owes (alter_promise s books line new) (t ∷ later Lines ∷ later Pins ∷ []) said) where
  -- what the call leaves where no refusal applies
  pub patches : first_refusal (alter_refusals s books line new) ≡ none → (t ≡ patched s line new) × ((sort : Sort) → later sort ≡ brought_up s books line new sort)
  patches e =
      let left = done_leaves owes e in
      let lines : later Lines ≡ brought_up s books line new Lines = cc in
      let pins : later Pins ≡ brought_up s books line new Pins = cc in
      (cc, by_sort (λ sort. later sort ≡ brought_up s books line new sort) lines pins)

  -- the image stays accepted and its books right and of their length, whatever the call does
  pub alter_keeps : Whole s books → Whole t later
  unfolding brought_up
  alter_keeps whole = go (first_refusal (alter_refusals s books line new)) refl owes.leaves
    where
      up : Books
      up = brought_up s books line new

      go : (o : Option Refusal) → first_refusal (alter_refusals s books line new) ≡ o
          → ◌≡◌ {A = List (List ℕ)} (t ∷ later Lines ∷ later Pins ∷ []) (unless_refused o (s ∷ books Lines ∷ books Pins ∷ []) (patched s line new ∷ up Lines ∷ up Pins ∷ []))
          → Whole t later
      go none e left =
          let known = alter_accepted s books line new e in
          let put = (patches e).0 in
          let are = (patches e).1 in
          let b = board_of s in
          let r = record_at new 0 in
          let lines = same_lines s line new ten known.ok known.inside in
          rw put (record {
            ok = patched_accepted s line new ten known.ok known.inside known.fits;
            long = λ sort. rw (are sort) (build-length (λ k before. renewed b line r (fault_at sort k) (get_or (books sort) k 0)) (length (books sort)) ∙ known.long sort ∙ rw lines);
            right =
                λ sort. rw (are sort, board_is s line new ten known.ok known.inside known.fits)
                (renewed_book_right sort b line r (accepted_fine s known.ok) (takes s line new known.inside known.fits) (books sort) (whole.right sort));
          })
      go (some r) e left =
          let kept : t ≡ s = cc in
          let lines : later Lines ≡ books Lines = cc in
          let pins : later Pins ≡ books Pins = cc in
          let same = by_sort (λ sort. later sort ≡ books sort) lines pins in
          rw kept (record { ok = whole.ok; long = λ sort. rw (same sort) (whole.long sort); right = λ sort. rw (same sort) (whole.right sort) })

  -- an altered image is accepted by Check, with the same counts
  pub altered_checks : first_refusal (alter_refusals s books line new) ≡ none → (heard : List ℕ) → Owes (check_promise t) [] heard → heard ≡ 0 ∷ (check_promise s).done
  altered_checks e heard checked =
      let known = alter_accepted s books line new e in
      let put = (patches e).0 in
      let ok : Accepted t = rw put (patched_accepted s line new ten known.ok known.inside known.fits) in
      done_says checked ok ∙ rw (put, same_counts s line new ten known.ok known.inside known.fits)
