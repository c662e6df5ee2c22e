-- A line that is done is left, and another is tried and then to do where an entry awaits more.
use Rattle.image.specs.Image.{board_of}
use Rattle.find.proofs.Laws.Parts.{line_tried}
use Rattle.find.proofs.blocks.try_line.Goals as goal

pub returns : goal.returns
returns c =
    let a = c.args in
    line_tried a.at (board_of a.trial.img.now) a.trial.base a.trial.end a.line a.todo.now a.part.now c.requires.0.of_line _ _ c.is_to_do-more.result
    c.requires.1 c.if-todo-line-eq0.false c.bring_line.ensures.0 c.is_to_do-more.ensures c.bring_line.ensures.1
