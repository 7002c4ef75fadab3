-- The tickets of what the producers of a pool put in, whose stops come behind them.
use Rattle.std.proofs.Common.{◌≡◌, List, [], ◌++◌, map}
use Rattle.std.specs.List.{AllByRecursion}
use Rattle.alog_core.specs.Accounts.{claims}
use Rattle.alog_msg.specs.declared.item.Item.{Item}
use Rattle.alog_pool.specs.Back.{pass_member, worker_member}
use Rattle.alog_pool.specs.Ending.{IsEnd}
use Rattle.alog_pool.specs.Posted.{AreInARow}
use Rattle.alog_pool.specs.Producer.{ProducerView}
use Rattle.alog_pool.specs.Stops.{AreStops}
use Rattle.alog_pool.specs.declared.worker.Worker.{Worker}
use Rattle.alog_pool.proofs.Posted.{all_idle, back_of}
use Rattle.alog_pool.proofs.SharedInARow as any
use Rattle.alog_registry.specs.BlockPort.{block_note}
use Rattle.alog_ring.specs.Known.{Known}

pub in_a_row : {S : Type 0} (producers : List ProducerView) (crew : List (Worker S)) (end : Known Item block_note) (moment : IsEnd end)
    (members : end.joined ≡ map pass_member producers ++ map (λ (h : Worker S). worker_member h) crew) (stops : AreStops (claims end.own))
    (idle : AllByRecursion (λ (h : Worker S). claims h.pass.known.own ≡ []) crew) → AreInARow end.first producers
in_a_row producers crew end moment members stops idle =
    any.in_a_row producers (back_of crew) end moment.whole members stops (all_idle crew idle) moment.before moment.later moment.seen
    moment.no_stop moment.only_stops
