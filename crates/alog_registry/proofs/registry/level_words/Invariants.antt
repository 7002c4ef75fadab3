use Rattle.std.proofs.Common.{◌≡◌, length, vec_len, vec_capacity}
use Rattle.alog_registry.proofs.registry.level_words.Given as goal

abbrev pub invariant-loop-level : goal.invariant-loop-level
invariant-loop-level l = record { count : vec_len l.words ≡ l.level-index; room : vec_capacity l.words ≡ length l.levels }
