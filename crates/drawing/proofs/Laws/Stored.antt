-- Bytes of an image put one number after the other.
use mathlib.Core.Path.{◌≡◌}
use mathlib.Core.List.{List, ◌++◌}
use Prim.Native.Nat.{ℕ, ◌+◌, ◌<◌}
use native.Mathlib.Numerals.{add-one}
use lib.ListN.{length, get_or, take}
use lib.Seq.{take-suc}
use Rattle.text.specs.Text.{each}
use Rattle.drawing.specs.Image.{word_bytes}
use Rattle.drawing.proofs.Laws.Sofar.{each_end}

-- a number of two bytes more
pub each-take : (ns : List ℕ) (i : ℕ) → i < length ns → each word_bytes (take (i + 1) ns) ≡ each word_bytes (take i ns) ++ word_bytes (get_or ns i 0)
each-take ns i l = rw (add-one, take-suc ns i 0 l) (each_end word_bytes (take i ns) (get_or ns i 0))
