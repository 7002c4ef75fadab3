-- Faults, as they are told: those of a worker so far, and those of a report.
use Rattle.std.specs.Prelude.{◌-◌, ◌^◌, ℕ, List, min}
use Rattle.std.specs.List.{sum_by}
use Rattle.alog_hosted.specs.Workers.{WorkerView}
use Rattle.alog_pool.specs.Deeds.{faults_in}
use Rattle.alog_pool.specs.SinkSeat.{SinkSeatView}

-- the sum over these, at most 2^64 - 1
abbrev pub capped_sum_by : {A : Type 0} → (A → ℕ) → List A → ℕ
capped_sum_by f xs = min (sum_by f xs) (2 ^ 64 - 1)

-- how many of the turns that a worker made at its places were answered by a fault
abbrev pub faults_of : {S : Type 0} → WorkerView S → ℕ
faults_of {S} w = capped_sum_by (λ (b : SinkSeatView S). faults_in b.seat.known.own) w.places
