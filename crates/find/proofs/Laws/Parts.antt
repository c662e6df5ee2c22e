-- A part of a book, entry by entry: what a loop has stored so far, where a line's entries end, and a line's entries put back into their part.
use mathlib.Core.Path.{◌≡◌, sym, ap, ◌∙◌}
use mathlib.Core.Logic.{⊎_elim}
use mathlib.Core.List.{List, ◌++◌}
use mathlib.Core.Bool.{Bool, true, false, ◌||◌}
use Prim.Native.Nat.{ℕ, ◌+◌, ◌-◌, ◌*◌, ◌/◌, ◌≤◌, ◌<◌}
use native.Mathlib.Nat.{le_refl, le_of_lt}
use native.Mathlib.Omega.{arith}
use lib.Dec.{ltb}
use lib.ListN.{length, get_or, set, take, drop, length-set, length-take, length-drop, length-append, get_or-append}
use lib.Seq.{get_or-set_same, get_or-set_other, get_or-take, get_or-drop, get_or-append-add, length-take-le}
use borrow.Author.Tests.{ltb-true, ltb-false}
use Rattle.board.specs.Lists.{bit, on}
use Rattle.board.specs.Board.{Board}
use Rattle.board.specs.Book.{entries_a_line}
use Rattle.board.specs.declared.Sort.{Sort}
use Rattle.board.proofs.Lists.{way, or_false}
use Rattle.board.proofs.Reach.{on_bit}
use Rattle.lanes.specs.Inner.{Block}
use Rattle.find.specs.declared.blocks.Start.{Start}
use Rattle.find.specs.Inner.{later, Onward, test_of, line_of, Part, LineEnd, Gone, Tried, TriedLine, Searched}
use Rattle.find.proofs.Laws.Blocks.{onward_on, onward_end, onward_done}

-- a line ends where the next one begins, or with the part
abbrev pub next_line : Sort → ℕ → ℕ
next_line sort k = entries_a_line sort * (k / entries_a_line sort + 1)

-- the entries of one line are a part themselves
module _ (at : Start) (k n e : ℕ) (ends : LineEnd at k n e) where
  number : (i : ℕ) → at.first + k + i ≡ at.first + (k + i)
  number i = omega arith

  pub line_part : (s : List ℕ) → Part at s n → Part (later at k) s (e - k)
  line_part s part =
      record {
        short = omega (arith, part.short, ends.within);
        faults = λ i l. rw (number i) (part.faults (k + i) (omega (arith, ends.within)));
      }

  pub part_line : (i : ℕ) → i < e - k → line_of (later at k) i ≡ line_of at k
  part_line i l = rw (number i) (ends.same (k + i) (omega arith) (omega arith))

-- the entries of a line that was tried
module _ (at : Start) (b : Board) (m n line : ℕ) (todo part : List ℕ) (of_line : (k : ℕ) → k < length part → line_of at k ≡ line) where
  pub line_tried : (rows part' : List ℕ) (r : Bool) → line < length todo → (get_or todo line 0 ≡ 0 → ⊥) → Gone at b m n part part'
      → (r ≡ false → (m n : ℕ) → m ≤ n → Gone at b m n part' part') → Block b m rows
      → TriedLine at b m n line todo part r rows (set todo line (bit r)) part'
  line_tried rows part' r inside ne gone stays block =
      let here : on (get_or (set todo line (bit r)) line 0) ≡ r = rw (get_or-set_same todo line (bit r) 0 inside) (on_bit r) in
      record {
        tried = record {
          long = gone.long;
          wide = length-set todo line (bit r);
          each = λ j l. rw (of_line j l) record {
            done = λ off. absurd (ne (omega (arith, ltb-false 0 (get_or todo line 0) off)));
            going = λ a c is. gone.each j l is;
            ended = λ a c p le is. (stays (sym here ∙ c) n p le).each j (omega (arith, gone.long)) (gone.each j l is);
          };
        };
        block = block;
        answer = here;
        others = λ l other. get_or-set_other todo line l (bit r) 0 other;
      }

-- a part of a list, and another put back in its place
pub part_long : (xs : List ℕ) (k e : ℕ) → e ≤ length xs → length (take (e - k) (drop k xs)) ≡ e - k
part_long xs k e within = simp (length-take, length-drop) (omega arith)

abbrev pub put_back : List ℕ → List ℕ → ℕ → ℕ → List ℕ
put_back xs new k e = take k xs ++ (new ++ drop (e - k) (drop k xs))

module _ (xs new : List ℕ) (k e : ℕ) (l : k ≤ e) (within : e ≤ length xs) (long : length new ≡ e - k) where
  front_long : length (take k xs) ≡ k
  front_long = length-take-le k xs (omega arith)

  pub back_long : length (put_back xs new k e) ≡ length xs
  back_long = simp (length-append, front_long, length-drop, long) (omega arith)

  pub back_before : (j : ℕ) → j < k → get_or (put_back xs new k e) j 0 ≡ get_or xs j 0
  back_before j i = get_or-append (take k xs) _ 0 j (omega (arith, front_long)) ∙ get_or-take k xs j 0 i

  behind : (j : ℕ) → k ≤ j → get_or (put_back xs new k e) j 0 ≡ get_or (new ++ drop (e - k) (drop k xs)) (j - k) 0
  behind j i =
      let at : length (take k xs) + (j - k) ≡ j = omega (arith, front_long) in
      rw at at (get_or-append-add (take k xs) (new ++ drop (e - k) (drop k xs)) (j - k) 0)

  pub back_inside : (j : ℕ) → k ≤ j → j < e → get_or (put_back xs new k e) j 0 ≡ get_or new (j - k) 0
  back_inside j i o = behind j i ∙ get_or-append new _ 0 (j - k) (omega arith)

  pub back_after : (j : ℕ) → e ≤ j → get_or (put_back xs new k e) j 0 ≡ get_or xs j 0
  back_after j i =
      let at : length new + (j - e) ≡ j - k = omega arith in
      let from : k + (e - k + (j - e)) ≡ j = omega arith in
      behind j (omega arith)
      ∙ (rw at at (get_or-append-add new (drop (e - k) (drop k xs)) (j - e) 0))
      ∙ get_or-drop (e - k) (drop k xs) (j - e) 0
      ∙ get_or-drop k xs (e - k + (j - e)) 0
      ∙ ap (λ (i : ℕ). get_or xs i 0) from

-- the lines of a part's first k entries are tried, of which k is the next line's first, and the others are as before
module _ (at : Start) (b : Board) (m n : ℕ) (todo part : List ℕ) where
  pub record Trying (any : Bool) (k : ℕ) (todo' part' : List ℕ) : Type 0 where
    pub tried : Tried at b m n k todo part todo' part'
    pub within : k ≤ length part
    pub rest : (j : ℕ) → k ≤ j → get_or part' j 0 ≡ get_or part j 0
    pub left : (j : ℕ) → k ≤ j → j < length part → get_or todo' (line_of at j) 0 ≡ get_or todo (line_of at j) 0
    pub lower : (j : ℕ) → j < k → k < length part → line_of at j < line_of at k
    pub answer : any ≡ false → (j : ℕ) → j < k → on (get_or todo' (line_of at j) 0) ≡ false

  module _ (any more : Bool) (k e : ℕ) (rows xs row new row' : List ℕ) (inside : k < length part) (ends : LineEnd at k (length part) e)
      (so : Trying any k row xs)
      (now : TriedLine (later at k) b m n (line_of at k) row (take (e - k) (drop k xs)) more rows row' new) where
    long_xs : length xs ≡ length part
    long_xs = so.tried.long

    to_end : k ≤ e
    to_end = le_of_lt ends.more

    end_within : e ≤ length xs
    end_within = omega (arith, ends.within, long_xs)

    long_sub : length (take (e - k) (drop k xs)) ≡ e - k
    long_sub = part_long xs k e end_within

    long_new : length new ≡ e - k
    long_new = now.tried.long ∙ long_sub

    -- a line before is another
    apart : (j : ℕ) → j < k → line_of at j ≡ line_of at k → ⊥
    apart j l same = omega (arith, so.lower j l inside)

    sub_at : (j : ℕ) → k ≤ j → j < e → get_or (take (e - k) (drop k xs)) (j - k) 0 ≡ get_or part j 0
    sub_at j l i =
        let at : k + (j - k) ≡ j = omega arith in
        get_or-take (e - k) (drop k xs) (j - k) 0 (omega arith) ∙ get_or-drop k xs (j - k) 0 ∙ ap (λ (q : ℕ). get_or xs q 0) at ∙ so.rest j l

    each_on : (j : ℕ) → j < e
        → Onward (test_of at b j) m n (get_or todo (line_of at j) 0) (get_or part j 0) (get_or row' (line_of at j) 0) (get_or (put_back xs new k e) j 0)
    each_on j i =
        ⊎_elim
        (λ (q : ltb j k ≡ true).
        let l = ltb-true j k q in
        rw (back_before xs new k e to_end end_within long_new j l, now.others (line_of at j) (apart j l)) (so.tried.each j l))
        (λ (q : ltb j k ≡ false).
        let l = ltb-false j k q in
        let number : at.first + k + (j - k) ≡ at.first + j = omega arith in
        rw (back_inside xs new k e to_end end_within long_new j l i, ← (so.left j l (omega (arith, ends.within))), ← (sub_at j l i))
        (rw number at (now.tried.each (j - k) (omega (arith, long_sub)))))
        (way (ltb j k))

    pub line_next : Trying (any || more) e row' (put_back xs new k e)
    line_next =
        record {
          tried = record { long = back_long xs new k e to_end end_within long_new ∙ long_xs; wide = now.tried.wide ∙ so.tried.wide; each = each_on };
          within = ends.within;
          rest = λ j l. back_after xs new k e to_end end_within long_new j l ∙ so.rest j (omega (arith, to_end));
          left = λ j l i. now.others (line_of at j) (λ same. omega (arith, ends.above j l i)) ∙ so.left j (omega (arith, to_end)) i;
          lower = λ j l i.
              ⊎_elim
              (λ (q : ltb j k ≡ true). omega (arith, so.lower j (ltb-true j k q) inside, ends.above e (le_refl e) i))
              (λ (q : ltb j k ≡ false). omega (arith, ends.same j (ltb-false j k q) l, ends.above e (le_refl e) i))
              (way (ltb j k));
          answer = λ none j l.
              let (before, here) = or_false any more none in
              ⊎_elim
              (λ (q : ltb j k ≡ true). let i = ltb-true j k q in rw (now.others (line_of at j) (apart j i)) (so.answer before j i))
              (λ (q : ltb j k ≡ false). rw (ends.same j (ltb-false j k q) l) (now.answer ∙ here))
              (way (ltb j k));
        }

-- a part after one block more, and at the end: all patterns are tried, or no line is to do any more
module _ (at : Start) (b : Board) (todo part : List ℕ) where
  module _ (m n : ℕ) (todo' part' : List ℕ) where
    pub tried_on : (row xs : List ℕ) → m ≤ n → Tried at b 0 m (length part) todo part row xs → Tried at b m n (length xs) row xs todo' part'
        → Tried at b 0 n (length part) todo part todo' part'
    tried_on row xs l h k =
        record {
          long = k.long ∙ h.long;
          wide = k.wide ∙ h.wide;
          each = λ j i. onward_on l (h.each j i) (k.each j (omega (arith, h.long)));
        }

    pub all_searched : Tried at b 0 n (length part) todo part todo' part' → Searched at b n todo part part'
    all_searched h =
        record { long = h.long; worked = λ k l a is. onward_end (h.each k l) a is; kept = λ k l off. ((h.each k l).done off).0 }

    pub none_left : Tried at b 0 m (length part) todo part todo' part' → m ≤ n
        → ((k : ℕ) → k < length part → on (get_or todo' (line_of at k) 0) ≡ false) → Searched at b n todo part part'
    none_left h l off =
        record { long = h.long; worked = λ k i a is. onward_done (h.each k i) (off k i) l a is; kept = λ k i shut. ((h.each k i).done shut).0 }
