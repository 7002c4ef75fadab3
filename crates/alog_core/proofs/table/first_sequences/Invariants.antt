use Rattle.std.proofs.Common.{◌≡◌, ℕ, ◌%◌, ◌<◌, ◌≤◌, length}
use Rattle.std.specs.Prelude.{slice_index}
use Rattle.alog_core.proofs.table.first_sequences.Given as goal

abbrev pub invariant-loop-ticket : goal.invariant-loop-ticket
invariant-loop-ticket l = record {
  count : length l.sequences.items ≡ l.fn.places;
  tickets : (t : ℕ) → l.fn.first ≤ t → t < l.ticket → slice_index l.sequences.items (t % l.fn.places) ≡ t;
}
