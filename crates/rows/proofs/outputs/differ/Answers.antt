-- The rows differ at some output exactly where `any` finds one.
use Rattle.std.proofs.Common.{ℕ, ◌∙◌, arith, rules, tests}
use Rattle.std.proofs.lemmas.Iterator.{YieldsList-from_range}
use Rattle.std.proofs.lemmas.Iterator.Search.{any_from_yields_List}
use Rattle.image.specs.Image.{output_at, board_of}
use Rattle.image.proofs.Laws.Fine.{output_count_lem, output_at_lem}
use Rattle.rows.specs.Inner.{apart}
use Rattle.rows.proofs.Laws.Any.{any_at}
use Rattle.rows.proofs.outputs.differ.Goals as goal

pub returns : goal.returns
returns c =
    let a = c.args in
    let s = a.img.now in
    let test = apart a.one.now a.other.now in
    any_from_yields_List (λ (j : ℕ). test (output_at s j)) _ _ c.any.result c.any.ensures.ran (YieldsList-from_range 0 a.outputs a.outputs (cc) (omega arith))
    (λ x b q k. search (rules, tests))
    ∙ any_at test (board_of s).outs (output_at s) a.outputs (rw c.requires.0 (output_count_lem s)) (λ j l. output_at_lem s j (rw c.requires.0 at l))
