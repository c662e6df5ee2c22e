-- Each line is tried with the entries that it has in the part.
use Rattle.std.proofs.Common.{◌≡◌, ◌<◌, ap, ◌∙◌, arith}
use Rattle.board.specs.Gate.{site}
use Rattle.image.specs.Image.{board_of}
use Rattle.image.proofs.Laws.Fine.{line_count_lem}
use Rattle.lanes.specs.Inner.{size}
use Rattle.find.specs.Inner.{line_of}
use Rattle.find.proofs.Laws.Parts.{line_part, part_line, part_long, line_next}
use Rattle.find.proofs.blocks.try_block.Goals as goal

pub try_line-more-requires : goal.try_line-more-requires
try_line-more-requires c =
    let a = c.args in
    let asked = c.requires in
    let s = a.trial.img.now in
    let k = c.loop-k.k in
    let tried = c.loop-k.invariant.0.tried in
    let ends = rw tried.long at c.line_end-next.ensures in
    let long = part_long c.loop-k.part k c.line_end-next.result c.line_end-next.ensures.within in
    let line : c.site_of-line.result ≡ line_of a.at k = c.site_of-line.ensures ∙ ap site c.fault.ensures in
    let fault = asked.part.faults k (omega (arith, tried.long, c.loop-k-test.true)) in
    let inside : c.site_of-line.result < size (board_of s) = rw (line, line_count_lem s) fault.inside in (
      record {
        tryable = record { block = c.loop-k.invariant.1; part = rw (c.later.ensures, long) (line_part a.at k _ _ ends s asked.part) };
        span = asked.span;
        inside = inside;
        changes = c.loop-k.invariant.2 ∙ asked.changes;
        of_line = λ i l. rw (c.later.ensures, line) (part_line a.at k _ _ ends i (rw long at l));
      },
      omega (arith, inside, asked.wide, tried.wide),
    )

pub loop-k-preserved : goal.loop-k-preserved
loop-k-preserved c =
    let a = c.args in
    let (trying, block, same) = c.loop-k.invariant in
    let line : c.site_of-line.result ≡ line_of a.at c.loop-k.k = c.site_of-line.ensures ∙ ap site c.fault.ensures in
    let inside = rw trying.tried.long at c.loop-k-test.true in
    let ends = rw trying.tried.long at c.line_end-next.ensures in
    let now = rw (line, c.later.ensures) at c.try_line-more.ensures in (
      line_next a.at (board_of a.trial.img.now) a.trial.base a.trial.end a.todo.now a.part.now c.loop-k.any c.try_line-more.result
          c.loop-k.k c.line_end-next.result _ c.loop-k.part c.loop-k.todo _ _ inside ends trying now,
      now.block,
      c.try_line-more.auto.changed ∙ same,
    )
