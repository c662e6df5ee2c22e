-- A pattern has 64 bits.
use Rattle.image.proofs.Laws.Pattern.{no_bit}
use Rattle.image.proofs.pattern.bit_of.Goals as goal

pub returns-else-i-lt64 : goal.returns-else-i-lt64
returns-else-i-lt64 c = no_bit c.args.x c.args.i c.ranges.x.fits c.if-i-lt64.false
