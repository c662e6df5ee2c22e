use Rattle.std.proofs.Common.{refl, rules}
use Rattle.std.proofs.lemmas.List.Recursion.{or_is}
use Rattle.board.specs.Lists.{on, somewhere}
use Rattle.find.proofs.entries.has_mark.Goals as goal

pub returns : goal.returns
returns c = or_is (somewhere on) on refl (λ _ _. refl) c.args.marks.now 0 _ (λ e. search rules) (λ e. search rules)
