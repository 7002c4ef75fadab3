use Rattle.std.proofs.Common.{◌≡◌, ◌≤◌, length, take, vec_len, vec_capacity}
use Rattle.alog_config.specs.Parts.{TakesOut}
use Rattle.alog_config.proofs.parts.taken.Given as goal

abbrev pub invariant-loop-name : goal.invariant-loop-name
invariant-loop-name g l = record {
  count : vec_len l.sinks ≡ l.name-index;
  room : length l.names ≤ vec_capacity l.sinks;
  taken : TakesOut l.initial.parts.items (take l.name-index l.names) l.sinks.items l.parts.items;
}
