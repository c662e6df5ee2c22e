-- It ends when all patterns are tried or no line is to do.
use Rattle.std.proofs.Common.{length, ◌≡◌, ◌∙◌, ◌*◌, ◌+◌, ◌≤◌, min, arith}
use Rattle.image.specs.Image.{board_of}
use Rattle.find.specs.Inner.{Tried}
use Rattle.find.proofs.Laws.Parts.{tried_on, all_searched, none_left}
use Rattle.find.proofs.search.search.Goals as goal
use Rattle.find.proofs.search.search.Goals.{After-try_block}

-- the patterns before a block are tried, and those in it then too
module _ (c : After-try_block) where
  before : min c.args.limit (512 * c.loop-block.block) ≡ 512 * c.loop-block.block
  before = omega (arith, c.div_ceil-block-end.ensures, c.loop-block-test.true)

  left : 512 * c.loop-block.block ≤ c.min-end.result
  left = omega (arith, c.div_ceil-block-end.ensures, c.loop-block-test.true, c.min-end.ensures)

  tried : Tried c.args.at (board_of c.args.img.now) 0 c.min-end.result (length c.args.part.now) c.args.todo.now c.args.part.now c.try_block.new.todo c.try_block.new.part
  tried = tried_on _ _ _ _ _ _ _ _ _ _ left (rw before at c.loop-block.invariant.0) c.try_block.ensures.tried

pub returns-then-not-try_block : goal.returns-then-not-try_block
returns-then-not-try_block c =
    let few : c.min-end.result ≤ c.args.limit = omega (arith, c.min-end.ensures) in
    let part = c.loop-block.invariant.0 in
    none_left _ _ _ _ _ _ _ _ (tried (goal.at.returns-then-not-try_block c).After-try_block) few
    (λ k l. c.try_block.ensures.answer c.if-not-try_block.true k (omega (arith, l, part.long)))

pub loop-block-preserved : goal.loop-block-preserved
loop-block-preserved c =
    let block = c.loop-block.block in
    let next : c.min-end.result ≡ min c.args.limit (512 * (block + 1)) = omega (arith, c.min-end.ensures) in
    (rw next at (tried (goal.at.loop-block-preserved c).After-try_block), c.try_block.ensures.room, c.try_block.auto.changed ∙ c.loop-block.invariant.2)

pub returns : goal.returns
returns c =
    let all : min c.args.limit (512 * c.loop-block.block) ≡ c.args.limit = omega (arith, c.div_ceil-block-end.ensures, c.loop-block-test.false) in
    all_searched _ _ _ _ 0 _ _ _ (rw all at c.loop-block.invariant.0)
