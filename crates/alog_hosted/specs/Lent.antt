-- What a hosted pool lends to each call, and who belongs to it.
use Rattle.std.specs.Prelude.{◌≡◌, List}
use Rattle.alog_lane.specs.Calls.{LaneId}
use Rattle.alog_pool.specs.Pool.{backtrace_seat_lanes}
use Rattle.alog_pool.specs.Producer.{ProducerView}
use Rattle.alog_pool.specs.declared.shared.Shared.{Shared}
use Rattle.alog_registry.specs.Backtrace.{Room}
use Rattle.alog_sink.specs.declared.sink.Sink.{Sink}

-- What is lent to each call: what all share, the lanes of the sinks, and those of the loggers' backtraces, each by number.
pub record HostedView (S : Type 0) : Type 0 where
  pub shared : Shared
  pub lanes : List (LaneId (Sink S))
  pub backtraces : List (LaneId Room)

-- the producer is one of this pool
pub record IsProducerOf {S : Type 0} (hosted : HostedView S) (p : ProducerView) : Type 0 where
  pub shared : p.shared ≡ hosted.shared
  pub backtraces : backtrace_seat_lanes p.backtrace_seats ≡ hosted.backtraces
