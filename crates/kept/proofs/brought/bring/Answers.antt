-- The room has one byte more than the longest image.
use Rattle.std.proofs.Common.{◌≡◌, ◌+◌, ℕ, List, length, take, length-take, sym, arith}
use Rattle.kept.proofs.brought.bring.Goals as goal

longest : (room : List ℕ) → length room ≡ 65536 + 1 → length (take 65536 room) ≡ 65536
longest room is = simp length-take (omega arith)

pub slice_bounds-put_word-end-in-Load : goal.slice_bounds-put_word-end-in-Load
slice_bounds-put_word-end-in-Load c = sym (longest c.args.room.now c.requires)

pub slice_bounds-import-end-in-Import : goal.slice_bounds-import-end-in-Import
slice_bounds-import-end-in-Import c = sym (longest c.args.room.now c.requires)

pub returns-in-Load : goal.returns-in-Load
returns-in-Load c = rw (longest c.args.room.now c.requires) at c.put_word.ensures.inside

pub returns-in-Import : goal.returns-in-Import
returns-in-Import c = rw (longest c.args.room.now c.requires) at c.import.ensures
