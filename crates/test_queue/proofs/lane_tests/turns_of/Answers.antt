use denote.Builtin.{u64, unit}
use denote.Param.Send.{IsSend, IsSync, sendable, param_send}
use Rattle.test_queue.specs.contracts.lane_tests.Sum as Sum
use Rattle.test_queue.specs.contracts.lane_tests.SumTurn.TheImpl.{ghosts}
use Rattle.alog_lane.specs.contracts.seat.LaneSeat as LaneSeat
use Rattle.alog_lane.specs.contracts.lane.Lane as Lane
use Rattle.alog_lane.proofs.SharedCrosses.{seat_send, lane_sync}
use Rattle.test_queue.proofs.lane_tests.turns_of.Lts.{arg-4-1}
use Rattle.test_queue.proofs.lane_tests.turns_of.Goals as goal

its_seat : IsSend (LaneSeat.the_row Sum.the_row u64 u64 unit ghosts)
its_seat = seat_send Sum.the_row u64 u64 unit ghosts (search sendable)

its_lane : IsSync (Lane.the_row Sum.the_row u64 u64 unit ghosts)
its_lane = lane_sync Sum.the_row u64 u64 unit ghosts (search sendable)

pub map_vec-requires-send-J : goal.map_vec-requires-send-J
map_vec-requires-send-J g c κs within =
    param_send 1 (arg-4-1 g.row.rt g.rt.laws g.rt.Abort-dict g.rt.Threads-dict κs) (search (sendable, its_seat, its_lane) depth 12)
