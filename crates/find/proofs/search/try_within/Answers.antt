-- The fronts of the arrays are as long as the board asks for.
use Rattle.std.proofs.Common.{ℕ, ◌+◌, ◌*◌, ap, sym, ◌∙◌, arith}
use Rattle.std.proofs.Math.Nat.{le_of_eq}
use Rattle.std.proofs.Math.Seq.{length-take-le}
use Rattle.image.proofs.Laws.Fine.{known_few}
use Rattle.find.proofs.search.try_within.Goals as goal

pub try_in-requires : goal.try_in-requires
try_in-requires c =
    let known = c.args.board.known in
    let (part, wide) = c.requires in
    let low = known_few known in
    record {
      flat_long = length-take-le _ _ low ∙ known.lines_are;
      rows_long = length-take-le _ _ wide.rows_long ∙ ap (λ (n : ℕ). 16 * n + 16) known.lines_are;
      changes = length-take-le _ _ low ∙ known.lines_are;
      wide = le_of_eq (sym (length-take-le _ _ wide.todo_long ∙ known.lines_are));
      part = part;
    }

pub slice_bounds-flat-end : goal.slice_bounds-flat-end
slice_bounds-flat-end c = omega (arith, known_few c.args.board.known)

pub slice_bounds-try_in-end : goal.slice_bounds-try_in-end
slice_bounds-try_in-end c = sym (length-take-le _ _ (omega (arith, known_few c.args.board.known)))

pub slice_bounds-changed-end : goal.slice_bounds-changed-end
slice_bounds-changed-end c = known_few c.args.board.known

pub slice_bounds-try_in-end-4 : goal.slice_bounds-try_in-end-4
slice_bounds-try_in-end-4 c = sym (length-take-le _ _ (known_few c.args.board.known))
