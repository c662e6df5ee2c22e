use Rattle.std.proofs.Common.{rules}
use Rattle.find.proofs.Laws.Book.{found_counted}
use Rattle.find.proofs.entries.count_found.Goals as goal

pub returns : goal.returns
returns c = rw found_counted (search rules)
