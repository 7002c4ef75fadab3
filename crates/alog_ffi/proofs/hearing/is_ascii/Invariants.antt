-- All bytes before the index are at most the greatest.
use Rattle.std.proofs.Common.{◌≤◌, ◌<◌, ℕ, slice_index}
use Rattle.alog_ffi.proofs.hearing.is_ascii.Given as goal

abbrev pub invariant-loop-byte : goal.invariant-loop-byte
invariant-loop-byte l = (i : ℕ) → i < l.byte-index → slice_index l.bytes i ≤ l.greatest
