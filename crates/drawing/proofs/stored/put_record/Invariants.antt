-- Behind the kind and the count stand the pins so far.
use Rattle.std.proofs.Common.{◌≡◌, [], ◌∷◌, ◌++◌, ◌+◌, ◌*◌, length, take}
use Rattle.text.specs.Text.{each}
use Rattle.drawing.specs.Image.{word_bytes}
use Rattle.drawing.proofs.stored.put_record.Given as goal

abbrev pub invariant-loop-pin : goal.invariant-loop-pin
invariant-loop-pin l = record {
  end : l.end ≡ l.at + 2 + 2 * l.pin-index;
  long : length l.out ≡ length l.fn.out;
  put : take l.end l.out ≡ take l.at l.fn.out ++ (l.kind ∷ l.count ∷ []) ++ each word_bytes (take l.pin-index l.fn.pins);
}
