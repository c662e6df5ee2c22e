use Rattle.image.specs.Bytes.{words_at}
use Rattle.image.specs.Image.{line_count, record_place, board_of}
use Rattle.lanes.specs.Inner.{Decoded}
use Rattle.lanes.proofs.flat.mark_outputs.Given as goal

abbrev pub invariant-loop-j : goal.invariant-loop-j
invariant-loop-j l = Decoded (board_of l.img) (line_count l.img) (words_at l.img (record_place l.img (line_count l.img)) l.j) l.flat
