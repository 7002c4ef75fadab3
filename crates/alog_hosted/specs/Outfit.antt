-- What a pool is opened with, beside its queue.
use Rattle.std.specs.Prelude.{◌≡◌, ℕ, List, length}
use Rattle.alog_hosted.specs.Host.{HasRoom}
use Rattle.alog_hosted.specs.declared.outfit.Outfit.{Outfit}
use Rattle.alog_lane.specs.Seats as lane
use Rattle.alog_pattern.specs.declared.patterns.TheConstants.{LINE_MAX}
use Rattle.alog_policy.specs.BookCalls as book
use Rattle.alog_pool.specs.Places.{Each2, IsBacktraceSeatOf, IsFirst}
use Rattle.alog_pool.specs.Pool.{backtrace_seat_lanes, lanes_of}
use Rattle.alog_registry.specs.declared.logger.Logger.{Logger}
use Rattle.alog_sink.specs.declared.sink.Sink.{Sink}

-- A new loss book with its seat, a new lane for each of these sinks and for the backtrace of each of these loggers, with the first place at it, a
-- line, and room for an end with so many workers.
pub record IsOutfit {S : Type 0} (loggers : List Logger) (sinks : List (Sink S)) (limit workers : ℕ) (o : Outfit S) : Type 0 where
  pub seat : book.IsSeatOf o.book o.losses
  pub seat_known : o.losses.known ≡ lane.first_known
  pub places_are : Each2 (IsFirst limit) sinks o.places.items
  pub lanes_are : lanes_of o.places.items ≡ o.lanes.items
  pub rooms : Each2 (IsBacktraceSeatOf limit) loggers o.backtraces.items
  pub backtrace_lanes_are : backtrace_seat_lanes o.backtraces.items ≡ o.backtrace_lanes.items
  pub line_fits : o.line.capacity ≡ LINE_MAX
  pub room : HasRoom workers (length o.places.items) o.blank
