use Rattle.std.proofs.Common.{◌≤◌, ◌-◌, length}
use Rattle.std.specs.String.{string_bytes, string_capacity}
use Rattle.alog_lines.specs.Building.{piece_built}
use Rattle.alog_lines.proofs.BuildLemmas.{Walks}
use Rattle.alog_lines.proofs.build.build.Given as goal

-- the text so far is of the bytes that were taken
abbrev pub invariant-loop-built : goal.invariant-loop-built
invariant-loop-built l = record {
  walks : Walks l.fn.limit l.bytes l.built.taken (piece_built (string_bytes l.text) l.built);
  room : string_capacity l.fn.text ≤ string_capacity l.text;
}

abbrev pub decreases-loop-built : goal.decreases-loop-built
decreases-loop-built l = length l.bytes - l.built.taken
