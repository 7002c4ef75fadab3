use Rattle.std.specs.Prelude.{◌≡◌, take}
use Rattle.alog_pattern.specs.declared.patterns.TheConstants.{LINE_MAX}
use Rattle.alog_pool.specs.SinkSeat.{places_of}
use Rattle.alog_pool.specs.Deeds.{HaveMade, dues_by}
use Rattle.alog_registry.specs.Listed.{spec_at}
use Rattle.alog_pool.proofs.worker.make_turns.Given as goal

abbrev pub invariant-loop-place : goal.invariant-loop-place
invariant-loop-place g l = record {
  places : places_of l.sink_seats.items ≡ places_of l.initial.sink_seats.items;
  line : l.line.capacity ≡ LINE_MAX;
  turns : HaveMade 0 l.initial.sink_seats.items l.sink_seats.items
      (take l.place (dues_by (spec_at l.loggers l.logger) l.logger l.ticket l.item));
}
