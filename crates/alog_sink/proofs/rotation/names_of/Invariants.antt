use Rattle.std.proofs.Common.{◌≡◌, length, map, string_bytes}
use Rattle.alog_sink.specs.RotationDeeds.{AreNumbersOf}
use Rattle.alog_sink.proofs.rotation.names_of.Given as goal

abbrev pub invariant-loop-i : goal.invariant-loop-i
invariant-loop-i l = record {
  count : length l.names.items ≡ l.i;
  numbered : AreNumbersOf l.file (map string_bytes l.names.items);
}
