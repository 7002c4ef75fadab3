-- What the places of a worker counted.
use Rattle.std.proofs.Common.{◌≡◌, ℕ, List}
use Rattle.alog_hosted.specs.Faults.{capped_sum_by}
use Rattle.alog_hosted.specs.Workers.{IsWorker}
use Rattle.alog_msg.specs.Block.{BlockFields}
use Rattle.alog_msg.specs.declared.item.Item.{Item}
use Rattle.alog_pool.specs.Deeds.{Due, faults_in}
use Rattle.alog_pool.specs.SinkSeat.{SinkSeatView}
use Rattle.alog_pool.specs.declared.shared.Shared.{Shared}
use Rattle.alog_pool.proofs.SharedBack.{sum_capped}
use Rattle.alog_pool.proofs.SharedServed.{made_counted}
use Rattle.alog_registry.specs.BlockPort.{block_note}
use Rattle.alog_ring.specs.Known.{PassView}

-- it is how many of its turns were answered by a fault
pub counted_turns : {S : Type 0} {shared : Shared} {pass : PassView Item block_note} {block : BlockFields} {places : List (SinkSeatView S)}
    {tickets : List ℕ} {handled most : ℕ} {owed : List Due} → IsWorker shared pass block places tickets handled most owed
    → capped_sum_by (λ (b : SinkSeatView S). b.faults) places ≡ capped_sum_by (λ (b : SinkSeatView S). faults_in b.seat.known.own) places
counted_turns {S} {places} is =
    sum_capped (λ (b : SinkSeatView S). b.faults) (λ (b : SinkSeatView S). faults_in b.seat.known.own) places
    (made_counted 0 is.start places is.made is.turns is.began)
