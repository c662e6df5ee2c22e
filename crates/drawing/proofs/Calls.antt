-- What holds of the reader and the writer: the reader's outcome is pinned, its refusals are five, and reading and writing undo each other.
use mathlib.Core.Path.{◌≡◌, refl, sym, ap, ◌∙◌}
use mathlib.Core.Logic.{⊎_elim, inl, inr}
use mathlib.Core.Option.{Option, none, some, map}
use mathlib.Core.List.{List, [], ◌∷◌}
use mathlib.Core.Bool.{Bool, true, false, ◌||◌}
use Prim.Native.Nat.{ℕ, ◌/◌, ◌%◌, ◌≤◌}
use lib.Dec.{ltb}
use lib.ListN.{length, get_or, take}
use Rattle.std.specs.Prelude.{Result}
use Rattle.board.specs.Lists.{◌among◌}
use Rattle.board.specs.Limits.{most_lines, most_outputs}
use Rattle.board.proofs.Lists.{way}
use Rattle.image.specs.Image.{board_of}
use Rattle.image.specs.Refusals.{given, outside, first_bad, first_bad_output, image_refusals, first_refusal}
use Rattle.image.specs.Promise.{numbers, Owes}
use Rattle.image.specs.declared.Refusal.{Refusal}
use Rattle.image.specs.declared.Refusal.TheVariants.{Counts, Record, Output, Form, Target}
use Rattle.image.proofs.Laws.Answer.{after_none, none_both}
use Rattle.image.proofs.Laws.Promise.{unrefused, pinned}
use Rattle.drawing.specs.Form.{text_of}
use Rattle.drawing.specs.Image.{image_of, without_note, AllBytes}
use Rattle.drawing.specs.Calls.{Reading, names, departs, ByReading, made_says, in_front, too_short, miscounts, read_refusals, write_refusals, read_promise, write_promise}
use Rattle.drawing.proofs.Laws.ImageDrawn.{accepted_drawn}
use Rattle.drawing.proofs.Laws.WriteCall.{made_told}
use Rattle.drawing.proofs.Laws.ImageBytes.{image_refusals_lem, image_board}
use Rattle.drawing.proofs.Laws.ImageAgain.{image_again}
use Rattle.drawing.proofs.Laws.ImageAccepted.{counts_good, again_accepted}
use Rattle.drawing.proofs.Laws.Settled.{reads_one, read_alike}
use Rattle.drawing.proofs.Laws.RoundTrip.{first_none_both, none_first, never_none, long_enough, both, leaves, first-bytes}

-- of a record, an output or the target
board_refused : (bad out : Option ℕ) (short : Bool) (r : Refusal)
    → first_refusal (none ∷ none ∷ none ∷ none ∷ map (λ k. Record (k / 6) (k % 6)) bad ∷ map Output out ∷ given short Target ∷ []) ≡ some r
    → get_or (numbers r) 0 0 among (13 ∷ 2 ∷ 4 ∷ 5 ∷ 14 ∷ [])
board_refused (some k) out short r e = let is : r ≡ Record (k / 6) (k % 6) = cc in rw is (inr (inr (inl refl)))
board_refused none (some j) short r e = let is : r ≡ Output j = cc in rw is (inr (inr (inr (inl refl))))
board_refused none none true r e = let is : r ≡ Target = cc in rw is (inr (inr (inr (inr (inl refl)))))
board_refused none none false r e = never_none r (sym e)

-- any two outcomes that the reader's promise allows are equal, since a text is one reading only
pub read_pinned : (t target : List ℕ) (a b : Result ℕ Refusal) (left later : List (List ℕ)) → ByReading t (λ is. Owes (read_promise is target) left (made_says a))
    → ByReading t (λ is. Owes (read_promise is target) later (made_says b)) → (a ≡ b) × (left ≡ later)
read_pinned t target a b left later one other =
    let (is, owes, owed) = read_alike t (λ is. Owes (read_promise is target) left (made_says a)) (λ is. Owes (read_promise is target) later (made_says b)) one other in
    pinned made_told (read_promise is target) a b left later owes owed

-- the reader refuses by 13, 2, 4, 5 or 14: an image made of a board has its mark and its distance
pub read_numbers : (is : Reading) (target : List ℕ) (r : Refusal) → first_refusal (read_refusals is target) ≡ some r → get_or (numbers r) 0 0 among (13 ∷ 2 ∷ 4 ∷ 5 ∷ 14 ∷ [])
unfolding read_refusals
read_numbers (departs n) target r e = let is : r ≡ Form n = cc in rw is (inl refl)
read_numbers (names b) target r e =
    ⊎_elim
    (λ (t : (outside most_lines (length b.lines) || outside most_outputs (length b.outs)) ≡ true).
    let first : some Counts ≡ some r = rw t at e in
    let is : r ≡ Counts = cc in
    rw is (inr (inl refl)))
    (λ (t : (outside most_lines (length b.lines) || outside most_outputs (length b.outs)) ≡ false).
    let good : miscounts b ≡ none = rw t refl in
    board_refused (first_bad (image_of b)) (first_bad_output (image_of b)) (ltb (length target) (length (image_of b))) r (rw (t, image_refusals_lem b good) at e))
    (way (outside most_lines (length b.lines) || outside most_outputs (length b.outs)))

-- s is written into a target, which is then `after`, and n is the length returned. Whatever the reader makes of those n bytes, with room for the
-- image, is the image without its note
pub write_read : (s target after : List ℕ) (n : ℕ) → AllBytes s → Owes (write_promise s target) (after ∷ []) (0 ∷ n ∷ [])
    → (room left heard : List ℕ) → length (without_note s) ≤ length room → ByReading (take n after) (λ is. Owes (read_promise is room) (left ∷ []) heard)
    → (left ≡ in_front (without_note s) room) × (heard ≡ 0 ∷ length (without_note s) ∷ [])
unfolding write_refusals read_refusals
write_read s target after n small wrote room left heard fits (is, reads, owes) =
    let b = board_of s in
    let none-given = unrefused wrote in
    let ok = (none_both (image_refusals s) (too_short (text_of b) target) none-given).0 in
    let text = first-bytes (text_of b) target after n (leaves (write_refusals s target) (text_of b) target after (0 ∷ n ∷ []) wrote none-given) in
    let is_b : is ≡ names b = reads_one (take n after) is (names b) reads (accepted_drawn s ok, sym text) in
    let again = image_again s small ok in
    let enough = long_enough (image_of b) room (rw again fits) in
    let past = none_first (miscounts b) (image_refusals (image_of b)) (counts_good s ok) (again_accepted s small ok) in
    let none-again = after_none (miscounts b ∷ image_refusals (image_of b)) (too_short (image_of b) room) past ∙ enough in
    rw again at (both (leaves (read_refusals (names b) room) (image_of b) room left heard (rw is_b at owes) none-again))

-- a text t is read into some room, which is then `after`, and n is the length returned. Whatever the writer makes of those n bytes, with a target
-- for the text, is the text
pub read_write : (t room after : List ℕ) (n : ℕ) → ByReading t (λ is. Owes (read_promise is room) (after ∷ []) (0 ∷ n ∷ []))
    → (target left heard : List ℕ) → length t ≤ length target → Owes (write_promise (take n after) target) (left ∷ []) heard
    → (left ≡ in_front t target) × (heard ≡ 0 ∷ length t ∷ [])
unfolding write_refusals read_refusals
read_write t room after n (departs k, reads, owes) target left heard fits wrote = never_none (Form k) (unrefused owes)
read_write t room after n (names b, (drawn, is-t), owes) target left heard fits wrote =
    let none-given = unrefused owes in
    let past = (none_both (miscounts b ∷ image_refusals (image_of b)) (too_short (image_of b) room) none-given).0 in
    let ok = (first_none_both (miscounts b) (image_refusals (image_of b)) past).1 in
    let image = first-bytes (image_of b) room after n (leaves (read_refusals (names b) room) (image_of b) room after (0 ∷ n ∷ []) owes none-given) in
    let text : text_of (board_of (image_of b)) ≡ t = ap text_of (image_board b drawn) ∙ is-t in
    let none-again = after_none (image_refusals (image_of b)) (too_short (text_of (board_of (image_of b))) target) ok ∙ long_enough (text_of (board_of (image_of b))) target (rw text fits) in
    rw text at (both (leaves (write_refusals (image_of b) target) (text_of (board_of (image_of b))) target left heard (rw image at wrote) none-again))
