use Rattle.std.proofs.Common.{◌≡◌, ◌<◌, ℕ, slice_index_or}
use Rattle.alog_config.specs.declared.parts.Part.{Part}
use Rattle.alog_config.proofs.parts.place_of.Given as goal

abbrev pub invariant-loop-i : goal.invariant-loop-i
invariant-loop-i g l = (k : ℕ) (d : Part g.row.S.Denot) → k < l.i → ¬ ((slice_index_or l.parts k d).config.now.name ≡ l.name)
