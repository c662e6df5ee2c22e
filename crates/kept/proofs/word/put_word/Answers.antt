-- Where there is room, all the word's bytes are put.
use Rattle.std.proofs.Common.{◌≡◌, ◌∙◌, ◌/◌, ◌≤◌, length, take, ap, arith, take_all}
use Rattle.std.specs.Prelude.{Some}
use Rattle.std.proofs.Math.Nat.{min-eq_left, le_of_eq}
use Rattle.board.proofs.Lists.{build-length}
use Rattle.words.specs.Hex.{hex_bytes}
use Rattle.kept.proofs.word.put_word.Goals as goal

pub returns : goal.returns
returns c =
    let word = c.args.word.now in
    let room : length word / 2 ≤ length c.args.room.now = omega arith in
    let all : c.unpack.result ≡ length word / 2 = c.unpack.ensures.0 ∙ min-eq_left room in
    let whole : take (length word / 2) (hex_bytes word) ≡ hex_bytes word = take_all _ _ (le_of_eq (build-length _ (length word / 2))) in
    record { inside = omega (arith, all, room); puts = λ l. (ap Some all, c.unpack.ensures.1 ∙ rw (all, whole)); refuses = λ l. absurd (omega (arith, l, room)) }
