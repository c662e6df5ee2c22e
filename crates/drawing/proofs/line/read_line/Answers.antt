-- `drawing::line::read_line` meets its contract: its first piece says which statement it is.
use Rattle.std.proofs.Common.{◌≡◌, ◌+◌, Err, Ok, arith, rules}
use Rattle.drawing.specs.declared.stop.Stop.{Stop}
use Rattle.drawing.proofs.Laws.Statements.{line_stops}
use Rattle.drawing.proofs.Laws.Lines.{input_lined, output_lined, gate_lined}
use Rattle.drawing.proofs.line.read_line.Goals as goal

pub returns-in_err-took : goal.returns-in_err-took
returns-in_err-took c =
    let (s, was, is) : (s : Stop) × (c.choose.result ≡ Err s) × (c.from_residual.result ≡ Err s) = search rules in
    rw is (line_stops (rw was at (c.choose.ensures c.args.section 3 c.statements_from.ensures)))

pub returns-in-0 : goal.returns-in-0
returns-in-0 c =
    let a = c.args in
    let w = c.in_ok-took.took in
    let was : c.choose.result ≡ Ok w = search rules in
    let (low, high, long, inside, is) = rw (was, c.in-0.is) at (c.choose.ensures a.section 3 c.statements_from.ensures) in
    input_lined a.section a.k a.rest.now w.length low inside is

pub returns-in-1 : goal.returns-in-1
returns-in-1 c =
    let a = c.args in
    let w = c.in_ok-took.took in
    let was : c.choose.result ≡ Ok w = search rules in
    let (low, high, long, inside, is) = rw (was, c.in-1.is) at (c.choose.ensures a.section 3 c.statements_from.ensures) in
    output_lined a.section a.k a.rest.now w.length low long is c.output_at.result c.output_at.ensures

pub returns-in_default : goal.returns-in_default
returns-in_default c =
    let a = c.args in
    let w = c.in_ok-took.took in
    let was : c.choose.result ≡ Ok w = search rules in
    let chosen = rw was at (c.choose.ensures a.section 3 c.statements_from.ensures) in
    let two : a.section + w.which ≡ 2 = let most = chosen.1 in omega (arith, c.in_default) in
    let (low, high, long, inside, is) = rw two at chosen in
    gate_lined a.section a.k a.rest.now w.length low long is c.gate_at.result c.gate_at.ensures
