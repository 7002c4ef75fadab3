use Rattle.std.specs.Prelude.{◌≡◌, [], take, length}
use Rattle.alog_pattern.specs.declared.patterns.TheConstants.{LINE_MAX}
use Rattle.alog_pool.specs.Deeds.{HaveMade}
use Rattle.alog_pool.specs.SinkSeat.{AreFlushed, places_of}
use Rattle.alog_pool.proofs.worker.flush_all.Given as goal

abbrev pub invariant-loop-number : goal.invariant-loop-number
invariant-loop-number g l = record {
  turns : HaveMade 0 l.fn.sink_seats.items l.sink_seats.items [];
  flushed : AreFlushed (take l.number l.sink_seats.items);
  once : AreFlushed l.fn.sink_seats.items → l.sink_seats.items ≡ l.fn.sink_seats.items;
  places : places_of l.sink_seats.items ≡ places_of l.fn.sink_seats.items;
  line : l.line.capacity ≡ LINE_MAX;
  end : l.number-end ≡ length l.fn.sink_seats.items;
}
