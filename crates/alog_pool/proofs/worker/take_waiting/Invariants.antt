use Rattle.std.specs.Prelude.{◌≡◌, []}
use Rattle.alog_pattern.specs.declared.patterns.TheConstants.{LINE_MAX}
use Rattle.alog_pool.specs.Accounts.{Moved}
use Rattle.alog_pool.specs.Deeds.{HaveMade}
use Rattle.alog_pool.specs.SinkSeat.{places_of}
use Rattle.alog_registry.specs.Limit.{HoldsTo}
use Rattle.alog_ring.specs.Known.{IsPassOf}
use Rattle.alog_pool.proofs.worker.take_waiting.Given as goal

abbrev pub invariant-loop : goal.invariant-loop
invariant-loop g l = record {
  ring : IsPassOf l.shared.ring.ring l.pass;
  block : HoldsTo l.shared.ring.ring.limit l.block;
  moved : Moved l.initial.pass.known l.pass.known [] [];
  turns : HaveMade 0 l.initial.sink_seats.items l.sink_seats.items [];
  places : places_of l.sink_seats.items ≡ places_of l.initial.sink_seats.items;
  line : l.line.capacity ≡ LINE_MAX;
}
