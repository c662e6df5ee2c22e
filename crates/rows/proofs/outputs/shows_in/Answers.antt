-- The two rows differ at some output exactly when the pattern shows the fault.
use Rattle.std.proofs.Common.{◌∙◌, arith}
use Rattle.image.proofs.Laws.Fine.{lines_few, outputs_few}
use Rattle.rows.proofs.Laws.Judge.{rows_show}
use Rattle.rows.proofs.outputs.shows_in.Goals as goal

pub returns : goal.returns
returns c =
    let a = c.args in
    c.differ.ensures
    ∙ rw (c.fill_row.ensures, c.requires.good_long, c.fill_faulty.ensures) (rows_show a.board.img.now a.board.known.ok a.condition a.x)

pub fill_row-requires : goal.fill_row-requires
fill_row-requires c =
    let few = lines_few c.args.board.img.now c.args.board.known.ok in
    (omega (arith, c.requires.good_long), omega (arith, c.requires.good_long, few))

pub fill_faulty-requires : goal.fill_faulty-requires
fill_faulty-requires c =
    let few = lines_few c.args.board.img.now c.args.board.known.ok in
    record {
      good-row = rw c.requires.good_long at c.fill_row.ensures;
      long = c.requires.faulty_long;
      few = omega (arith, few);
      inside = omega (arith, c.requires.on_board.inside);
    }

pub differ-requires : goal.differ-requires
differ-requires c =
    let known = c.args.board.known in
    (known.outs_are, omega (arith, known.outs_are, outputs_few c.args.board.img.now known.ok))
