use denote.Param.Send.{IsSync, sendable, param_send}
use Rattle.std.proofs.Crossing.{crosses}
use Rattle.alog_pool.proofs.SharedCrosses.{producer_send}
use Rattle.test_pool.specs.contracts.gates.Flags as Flags
use Rattle.test_pool.proofs.shutdown_tests.asks_beside.Lts.{arg-0-1}
use Rattle.test_pool.proofs.shutdown_tests.asks_beside.Goals as goal

flags_sync : IsSync Flags.the_row
flags_sync = search (sendable, crosses) depth 9

pub join_mut-requires-send-F : goal.join_mut-requires-send-F
join_mut-requires-send-F g c κs within =
    param_send 1 (arg-0-1 g.row.R g.R.laws g.R.Abort-dict g.R.Threads-dict g.R.Wait-dict g.R.Clock-dict κs)
    (search (sendable, producer_send, flags_sync) depth 12)
