use denote.Builtin.{bool, unit}
use denote.Param.Send.{IsSend, IsSync, sendable, param_send}
use Rattle.std.proofs.Crossing.{crosses, Arc-send}
use Rattle.test_queue.specs.contracts.lane_tests.Flags as Flags
use Rattle.test_queue.specs.contracts.lane_tests.Slow as Slow
use Rattle.test_queue.specs.contracts.lane_tests.SlowTurn.TheImpl.{ghosts}
use Rattle.alog_lane.specs.contracts.seat.LaneSeat as LaneSeat
use Rattle.alog_lane.specs.contracts.lane.Lane as Lane
use Rattle.alog_lane.proofs.SharedCrosses.{seat_send, lane_sync}
use Rattle.test_queue.proofs.lane_tests.a_held_lock_is_told.Lts.{arg-5-1}
use Rattle.test_queue.proofs.lane_tests.a_held_lock_is_told.Goals as goal

flags_send : IsSend Flags.the_row
flags_send = search (sendable, crosses) depth 9

flags_sync : IsSync Flags.the_row
flags_sync = search (sendable, crosses) depth 9

slow_send : IsSend Slow.the_row
slow_send = search (sendable, Arc-send, flags_send, flags_sync)

its_seat : IsSend (LaneSeat.the_row Slow.the_row unit bool unit ghosts)
its_seat = seat_send Slow.the_row unit bool unit ghosts slow_send

its_lane : IsSync (Lane.the_row Slow.the_row unit bool unit ghosts)
its_lane = lane_sync Slow.the_row unit bool unit ghosts slow_send

pub join-was_met-requires-send-F : goal.join-was_met-requires-send-F
join-was_met-requires-send-F g c κs within =
    param_send 1 (arg-5-1 g.bound-1-dict g.bound-2-dict g.bound-3-dict κs) (search (sendable, its_seat, its_lane, flags_sync) depth 12)
