use Rattle.lanes.proofs.Laws.Eight.{put_at}
use Rattle.lanes.proofs.eight.put_eight.Goals as goal

pub returns : goal.returns
returns c = put_at c.args.rows.now c.args.at c.args.e c.requires c.fits-e.0
