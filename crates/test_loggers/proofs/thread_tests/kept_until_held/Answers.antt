use denote.Param.Send.{IsSend, IsSync, sendable, recorded_send, struct_send, param_send}
use denote.Struct.Declared.{shape}
use Rattle.std.proofs.Crossing.{crosses}
use Rattle.alog_lane.proofs.SharedCrosses.{seat_send, lane_sync}
use Rattle.alog_lane.specs.contracts.lane.Lane as Lane
use Rattle.alog_lane.specs.contracts.seat.LaneSeat as LaneSeat
use Rattle.alog_registry.proofs.SharedCrosses.{backtrace_send}
use Rattle.alog_registry.specs.contracts.backtrace.Backtrace as Backtrace
use Rattle.alog_registry.specs.contracts.turn.BacktraceItem as Item
use Rattle.alog_registry.specs.contracts.turn.BacktraceReply as Reply
use Rattle.alog_registry.specs.contracts.turn.BacktraceScratch as Scratch
use Rattle.alog_registry.specs.contracts.turn.BacktraceTurn.TheImpl as Turn
use Rattle.test_loggers.specs.contracts.thread_tests.Meeting as Meeting
use Rattle.test_loggers.proofs.thread_tests.kept_until_held.Lts.{arg-1-1}
use Rattle.test_loggers.proofs.thread_tests.kept_until_held.Goals as goal

its_seat : IsSend (LaneSeat.the_row Backtrace.the_row Item.the_row Reply.the_row Scratch.the_row Turn.ghosts)
its_seat = seat_send Backtrace.the_row Item.the_row Reply.the_row Scratch.the_row Turn.ghosts backtrace_send

its_lane : IsSync (Lane.the_row Backtrace.the_row Item.the_row Reply.the_row Scratch.the_row Turn.ghosts)
its_lane = lane_sync Backtrace.the_row Item.the_row Reply.the_row Scratch.the_row Turn.ghosts backtrace_send

its_meeting : IsSend Meeting.the_row
its_meeting = recorded_send (Meeting.the_field).row _ _ (Meeting.the_type).to_one (struct_send (shape Meeting.the_type)
    (search (sendable, crosses), (its_seat, (search sendable, (search sendable, tt)))))

pub join-requires-send-F : goal.join-requires-send-F
join-requires-send-F g c κs within =
    param_send 1 (arg-1-1 g.row.rt g.rt.laws g.rt.Threads-dict κs) (search (sendable, its_meeting, its_lane, crosses) depth 12)

pub join-requires-send-A : goal.join-requires-send-A
join-requires-send-A g c κs = search (sendable, its_meeting) depth 7
