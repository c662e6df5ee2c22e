-- Each line's value goes behind those before it, which are all that it reads.
use Rattle.std.proofs.Common.{[], arith}
use Rattle.board.proofs.Filling.{begun, stored_next, front_built, built}
use Rattle.image.specs.Image.{board_of}
use Rattle.five.proofs.Laws.Below.{row_fives}
use Rattle.five.proofs.fill.fill.Goals as goal

pub loop-i-init : goal.loop-i-init
loop-i-init c = begun _ [] _

pub line_value-v-requires : goal.line_value-v-requires
line_value-v-requires c =
    let a = c.args in
    record {
      ok = c.requires.ok;
      inside = omega (arith, c.requires.long, c.loop-i.invariant.long, c.loop-i-test.true);
      condition = c.requires.condition;
      fives = rw (front_built _ c.loop-i.invariant) (row_fives a.condition a.pattern.named a.pattern.values (board_of a.img.now) c.loop-i.i);
    }

pub loop-i-preserved : goal.loop-i-preserved
loop-i-preserved c = stored_next _ c.loop-i.invariant _ (omega arith) c.line_value-v.ensures

pub returns : goal.returns
returns c = built _ c.loop-i.invariant (omega arith)
