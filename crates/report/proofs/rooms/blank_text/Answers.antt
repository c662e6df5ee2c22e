-- The room is too long to be counted, so this goes by a law.
use Rattle.std.proofs.Common.{ℕ, sym}
use Rattle.std.proofs.Math.ListN.{length-replicate}
use Rattle.report.proofs.rooms.blank_text.Goals as goal

pub returns : goal.returns
returns c = sym (length-replicate {A = ℕ} 1048577 0)
