-- What a pool has when its workers have come back.
use Rattle.std.specs.Prelude.{◌≡◌, ℕ, ◌+◌, ◌-◌, ◌%◌, ◌^◌, Bool, List, [], ◌∷◌, map, min, Vec}
use Rattle.std.specs.List.{sum_by}
use Rattle.std.specs.declared.alloc.Global.{Global}
use Rattle.alog_lane.specs.Calls.{Closes}
use Rattle.alog_lane.specs.Seats.{IsJoined}
use Rattle.alog_msg.specs.declared.item.Item.{Item}
use Rattle.alog_pool.specs.Back.{HasBack, HasSeatsBack, worker_member, seat_member}
use Rattle.alog_pool.specs.SinkSeat.{SinkSeatView}
use Rattle.alog_pool.specs.Places.{Each2}
use Rattle.alog_pool.specs.Rows.{heads, tails}
use Rattle.alog_pool.specs.Working.{HasWorked}
use Rattle.alog_pool.specs.declared.worker.Worker.{Worker}
use Rattle.alog_registry.specs.BlockPort.{block_note}
use Rattle.alog_ring.specs.Known.{Known}
use Rattle.alog_sink.specs.Files.{Files}
use Rattle.alog_sink.specs.Sinks.{Turns}
use Rattle.alog_sink.specs.declared.sink.Sink.{Sink}

-- A place took another at the same sink back.
pub record TakesBack {S : Type 0} (old new place : SinkSeatView S) : Type 0 where
  pub lane : new.lane ≡ old.lane
  pub limit : new.limit ≡ old.limit
  pub joined : IsJoined old.seat.known place.seat.known new.seat.known
  pub faults : new.faults ≡ min (old.faults + place.faults) (2 ^ 64 - 1)

-- A place that had counted no fault took all these back.
pub record HasPlacesBack {S : Type 0} (old new : SinkSeatView S) (places : List (SinkSeatView S)) : Type 0 where
  pub lane : new.lane ≡ old.lane
  pub seats : HasSeatsBack old.seat.known new.seat.known (map (λ (b : SinkSeatView S). seat_member b) places)
  pub faults : new.faults ≡ min (sum_by (λ (b : SinkSeatView S). b.faults) places) (2 ^ 64 - 1)

-- each place took back what stands at its place in these rows
abbrev pub HaveBack : {S : Type 0} → List (SinkSeatView S) → List (SinkSeatView S) → List (List (SinkSeatView S)) → Type 0
HaveBack [] [] rows = Unit {0}
HaveBack (b ∷ bs) (c ∷ cs) rows = HasPlacesBack b c (heads rows) × HaveBack bs cs (tails rows)
HaveBack _ _ rows = ⊥

-- The workers that began with these workers came back: the pass has their passes, the places have theirs, their tickets are listed, and
-- what they handled is summed.
pub record Collects {S : Type 0} (starts : List (Worker S)) (old new : Known Item block_note) (sink_seats back : List (SinkSeatView S))
    (tickets : List (Vec ℕ Global)) (handled : ℕ) : Type 0 where
  pub crew : List (Worker S)
  pub worked : Each2 HasWorked starts crew
  pub passes : HasBack old new (map (λ (h : Worker S). worker_member h) crew)
  pub places : HaveBack sink_seats back (map (λ (h : Worker S). h.sink_seats.items) crew)
  pub tickets_are : map (λ (v : Vec ℕ Global). v.items) tickets ≡ map (λ (h : Worker S). h.tickets.items) crew
  pub handled_is : handled ≡ sum_by (λ (h : Worker S). h.handled) crew % 2 ^ 64

-- The place was closed: all turns on its sink led to this one, and its faults are these.
pub record IsClosing {S : Type 0} (tells : Bool) (files : S → Files) (failures : S → ℕ) (b : SinkSeatView S) (sink : Sink S) (faults : ℕ)
    : Type 0 where
  pub closes : Closes (Turns tells files failures) b.lane.first b.seat.known sink
  pub faults_are : faults ≡ b.faults
