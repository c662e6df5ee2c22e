-- One byte more of the word.
use Rattle.std.proofs.Common.{arith}
use Rattle.words.proofs.Laws.Hex.{put_more}
use Rattle.words.proofs.hex.unpack.Goals as goal

pub loop-i-preserved : goal.loop-i-preserved
loop-i-preserved c =
    put_more _ _ c.args.out.now c.loop-i.out c.loop-i.i _ c.loop-i.invariant (omega arith) (omega arith) c.byte_of.ensures
