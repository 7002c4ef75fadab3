use Rattle.std.proofs.Common.{◌≡◌, ◌≤◌, length, take, vec_len, vec_capacity}
use Rattle.alog_config.specs.Built.{EachIs, IsPlace}
use Rattle.alog_config.proofs.parts.places_of.Given as goal

abbrev pub invariant-loop-name : goal.invariant-loop-name
invariant-loop-name g l = record {
  count : vec_len l.places ≡ l.name-index;
  room : length l.names ≤ vec_capacity l.places;
  each : EachIs (IsPlace l.parts) (take l.name-index l.names) l.places.items;
}
