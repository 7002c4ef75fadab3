use Rattle.std.proofs.Common.{◌≡◌, ℕ, ◌<◌, List, get_or}
use Rattle.alog_config.proofs.lists.are_apart.Given as goal

abbrev pub invariant-loop-j : goal.invariant-loop-j
invariant-loop-j l = (k : ℕ) (d : List ℕ) → k < l.j → ¬ (get_or l.names k d ≡ get_or l.names l.i d)

abbrev pub invariant-loop-i : goal.invariant-loop-i
invariant-loop-i l = (j k : ℕ) (d : List ℕ) → j < k → k < l.i → ¬ (get_or l.names j d ≡ get_or l.names k d)
