-- The word is not empty, so what is left is the test of each byte.
use Rattle.std.proofs.Common.{sym, ◌∙◌}
use Rattle.std.proofs.lemmas.Iterator.{YieldsList-from_slice}
use Rattle.std.proofs.lemmas.Iterator.Search.{all_from_yields_List}
use Rattle.words.proofs.bytes.is_all.Goals as goal

pub returns-then-not-is_empty : goal.returns-then-not-is_empty
returns-then-not-is_empty g c = λ p tests.
    rw (sym c.is_empty.ensures ∙ c.if-not-is_empty.true)
    (all_from_yields_List p _ _ _ c.all.ensures.ran (YieldsList-from_slice c.args.word.now cc) tests)
