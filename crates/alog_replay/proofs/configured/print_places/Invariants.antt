use Rattle.std.proofs.Common.{◌≡◌, ◌++◌, take}
use Rattle.std.specs.List.{flat_map}
use Rattle.alog_replay.specs.Configured.{place_text}
use Rattle.alog_replay.specs.Rows.{row_of}
use Rattle.alog_replay.proofs.configured.print_places.Given as goal

abbrev pub invariant-loop-place : goal.invariant-loop-place
invariant-loop-place l = l.out.items ≡ l.fn.out.items ++ flat_map (place_text row_of l.system) (take l.place-index l.places)
