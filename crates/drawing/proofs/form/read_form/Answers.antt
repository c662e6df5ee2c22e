-- `drawing::form::read_form` meets its contract: the reader stands behind a board's text, and one statement more is that board with one more.
use Rattle.std.proofs.Common.{◌≡◌, ◌+◌, ℕ, List, [], Err, Ok, refl, arith, rules}
use Rattle.text.specs.Text.{each}
use Rattle.drawing.specs.Image.{lines_bytes}
use Rattle.drawing.specs.Inner.{Lined, Begins, Statement, input, output, gate, add, ToldBy, length_of}
use Rattle.drawing.specs.declared.stop.Stop.{Stop}
use Rattle.drawing.specs.declared.line.Line.{Line}
use Rattle.drawing.specs.declared.line.Line.TheVariants.{Input, Output, Gate}
use Rattle.drawing.proofs.Laws.Stands.{stands_first, stands_stop, told_more}
use Rattle.drawing.proofs.Laws.Kept.{lined_storable}
use Rattle.drawing.proofs.form.read_form.Goals as goal

pub loop-at-init : goal.loop-at-init
unfolding lines_bytes each
loop-at-init c =
    record {
      board = record { lines = []; outs = [] };
      stands = stands_first c.args.text.now;
      kept = record { lines = λ l. refl; outs = λ l. refl };
    }

pub returns-in_err-line : goal.returns-in_err-line
returns-in_err-line c =
    let l = c.loop-at in
    let (s, was, is) : (s : Stop) × (c.read_line-read.result ≡ Err s) × (c.from_residual.result ≡ Err (record { along = l.at + s.along })) = search rules in
    rw is (stands_stop c.args.text.now l.invariant.board l.tally l.at l.invariant.stands s.along c.loop-at-test.true (rw (c.tail.ensures, was) at c.read_line-read.ensures))

pub keep_line-tally-requires : goal.keep_line-tally-requires
keep_line-tally-requires c =
    let line = c.in_ok-line.line in
    let was : c.read_line-read.result ≡ Ok line = search rules in
    let known = c.loop-at.invariant in
    let stands = known.stands in (
      lined_storable _ _ _ line (rw was at c.read_line-read.ensures),
      omega (arith, stands.few, stands.inside),
      omega (arith, stands.few, stands.inside),
    )

-- what is read is a statement
one_read : {from k : ℕ} {rest : List ℕ} (line : Line) → Lined from k rest (Ok line) → (st : Statement) × ToldBy line st × Begins from k rest st (length_of line)
one_read (Input n) begins = (input, refl, begins)
one_read (Output o n) begins = (output o, refl, begins)
one_read (Gate kind count pins n) (ps, begins, counts, holds) = (gate (record { kind = kind; pins = ps }), (ps, refl, counts, holds), begins)

pub loop-at-preserved : goal.loop-at-preserved
loop-at-preserved c =
    let line = c.in_ok-line.line in
    let was : c.read_line-read.result ≡ Ok line = search rules in
    let text = c.args.text.now in
    let l = c.loop-at in
    let known = l.invariant in
    let b = known.board in
    let stands = known.stands in
    let kept = c.keep_line-tally in
    let (st, told, begins) = one_read line (rw (c.tail.ensures, was) at c.read_line-read.ensures) in record {
      board = add b st;
      stands = rw (kept.ensures.0, c.length.ensures) (told_more text b l.tally l.at stands st (length_of line) begins line told);
      kept = kept.ensures.1 b st told stands.lines_are stands.outs_are known.kept;
    }
