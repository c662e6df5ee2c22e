use Rattle.std.proofs.Common.{◌≡◌, List, ℕ, ◌+◌, ◌<◌, length, get_or, drop}
use Rattle.lanes.specs.Words.{joined_all, unjoined}
use Rattle.lanes.proofs.gate.gate_words.Given as goal

abbrev pub invariant-loop-j : goal.invariant-loop-j
invariant-loop-j l =
    (w : ℕ) (ws : List ℕ) → w < 8 → length ws ≡ l.gate.count → ((i : ℕ) → i < l.gate.count → get_or ws i 0 ≡ get_or l.rows (get_or l.places i 0 + w) 0)
    → joined_all l.gate.kind (get_or l.a w 0) (drop l.j ws) ≡ joined_all l.gate.kind (unjoined l.gate.kind) ws
