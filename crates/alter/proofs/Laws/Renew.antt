-- Books that are renewed by the marks of the board before and of the board after are brought up to date: a line is marked exactly when a fault
-- on it is touched.
use mathlib.Core.Path.{◌≡◌, sym, ap, ◌∙◌}
use mathlib.Core.List.{List}
use mathlib.Core.Bool.{false}
use Prim.Native.Nat.{ℕ, ◌+◌, ◌≤◌, ◌<◌}
use native.Mathlib.Omega.{arith}
use lib.ListN.{length, get_or}
use Rattle.board.specs.Board.{altered}
use Rattle.board.specs.Reach.{meets, touched}
use Rattle.board.specs.Gate.{site}
use Rattle.board.specs.Book.{fault_at, renewed, found}
use Rattle.board.specs.declared.Sort.{Sort}
use Rattle.board.specs.declared.Sort.TheVariants.{Lines, Pins}
use Rattle.board.proofs.Lists.{build-same}
use Rattle.board.proofs.Fine.{fine_low, fine_altered}
use Rattle.image.specs.Image.{line_count, record_place, record_at, board_of}
use Rattle.image.specs.Inner.{Known}
use Rattle.image.specs.declared.Counts.{Counts}
use Rattle.image.proofs.Laws.Fine.{lines_few, accepted_fine}
use Rattle.find.specs.Inner.{reworked_entry, reworked, Renewable, Renewed}
use Rattle.find.proofs.Laws.Book.{on_lines}
use Rattle.alter.specs.Patch.{patched}
use Rattle.alter.specs.Inner.{Met, AloneUnlessMarked, Reworkable, Reworked}
use Rattle.alter.specs.Alter.{Books, both, brought_up}
use Rattle.alter.proofs.Laws.Meet.{meets_itself, meets_none_after}
use Rattle.alter.proofs.Laws.Patch.{record_fits}
use Rattle.alter.proofs.Laws.Refused.{Fit, fit, takes}
use Rattle.alter.proofs.Laws.Board.{board_is, same_lines, still_known}

-- putting a record in, step by step: what each step asks, and what they leave together
module _ {s : List ℕ} {c : Counts} {line : ℕ} {new : List ℕ} {books : Books} (asked : Reworkable s c line new books) where
  fits : Fit s line new
  fits = fit s line new asked.fine

  pub puts : (line < 65536) × (length new ≡ 10) × (record_place s line + 10 ≤ length s)
  puts = (
    omega (arith, asked.inside, lines_few s asked.known.ok),
    asked.ten,
    omega (arith, record_fits s line asked.known.ok asked.inside),
  )

  module _ (t : List ℕ) (put : t ≡ patched s line new) where
    pub known_after : Known t c
    known_after = rw put (still_known s line new asked.ten asked.known.ok asked.inside fits asked.known)

    pub renews_after : (sort : Sort) → Renewable sort t (books sort)
    renews_after sort =
        let same = same_lines s line new asked.ten asked.known.ok asked.inside in
        record { faults = λ k l. on_lines sort t (length (books sort)) k (rw (put, same) (asked.long sort)) l }

    module _ (bare : List ℕ) (none-marked : (l : ℕ) → get_or bare l 0 ≡ 0) (room : length bare ≡ line_count s) (first : List ℕ) (met : Met (board_of s) line bare first) where
      after : board_of t ≡ altered (board_of s) line (record_at new 0)
      after = ap board_of put ∙ board_is s line new asked.ten asked.known.ok asked.inside fits

      -- the altered line, where it is not marked yet, reaches no output after the alteration either
      pub marked_or_none : AloneUnlessMarked first line (board_of t)
      marked_or_none off l =
          let b = board_of s in
          let fine = accepted_fine s asked.known.ok in
          let later = fine_altered b line (record_at new 0) fine (takes s line new asked.inside fits) in
          let alone : meets b line line ≡ false = rw (none-marked line, off) at (sym (met line (rw room asked.inside))) in
          rw after (meets_none_after b line (record_at new 0) (fine_low b fine) (fine_low _ later) (meets_itself b line alone) l)

      module _ (long : length first ≡ length bare) (marks : List ℕ) (met-after : Met (board_of t) line first marks) where
        -- by the marks of both boards a book is brought up to date
        brought : (sort : Sort) → reworked sort (board_of t) marks (books sort) ≡ brought_up s books line new sort
        unfolding brought_up reworked_entry renewed touched
        brought sort =
            build-same _ _ (length (books sort)) (λ k done h.
            let l = site (fault_at sort k) in
            let inside : l < length bare = rw room (on_lines sort s (length (books sort)) k (asked.long sort) h).inside in
            rw (met-after l (rw long inside), met l inside, none-marked l, after))

        pub book_done : (sort : Sort) {r : ℕ} {later : List ℕ} → Renewed sort t marks (books sort) r later
            → (later ≡ brought_up s books line new sort) × (r ≡ found (brought_up s books line new sort))
        book_done sort left = (left.book ∙ brought sort, left.count ∙ ap found (brought sort))

        pub all_done : {n m : ℕ} {book pins : List ℕ} → Renewed Lines t marks (books Lines) n book → Renewed Pins t marks (books Pins) m pins
            → Reworked s line new books (n + m) t (both book pins)
        all_done {n} {m} {book} {pins} lines rest =
            record { image = put; books_are = each; count = cc ((book_done Lines lines).1, (book_done Pins rest).1) }
          where
            each : (sort : Sort) → both book pins sort ≡ brought_up s books line new sort
            each Lines = (book_done Lines lines).0
            each Pins = (book_done Pins rest).0
