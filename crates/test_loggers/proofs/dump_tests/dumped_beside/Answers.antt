use denote.Param.Send.{IsSend, IsSync, sendable, recorded_send, struct_send, param_send}
use denote.Struct.Declared.{shape}
use Rattle.std.proofs.Crossing.{crosses}
use Rattle.alog_lane.proofs.SharedCrosses.{seat_send, lane_sync}
use Rattle.alog_lane.specs.contracts.lane.Lane as Lane
use Rattle.alog_lane.specs.contracts.seat.LaneSeat as LaneSeat
use Rattle.alog_registry.proofs.SharedCrosses.{backtrace_send}
use Rattle.alog_registry.specs.contracts.backtrace.Backtrace as Backtrace
use Rattle.alog_registry.specs.contracts.turn.BacktraceItem as Item
use Rattle.alog_registry.specs.contracts.turn.BacktraceReply as Reply
use Rattle.alog_registry.specs.contracts.turn.BacktraceScratch as Scratch
use Rattle.alog_registry.specs.contracts.turn.BacktraceTurn.TheImpl as Turn
use Rattle.test_loggers.specs.contracts.dump_tests.Talker as Talker
use Rattle.test_loggers.proofs.dump_tests.dumped_beside.Lts.{arg-1-1}
use Rattle.test_loggers.proofs.dump_tests.dumped_beside.Goals as goal

its_seat : IsSend (LaneSeat.the_row Backtrace.the_row Item.the_row Reply.the_row Scratch.the_row Turn.ghosts)
its_seat = seat_send Backtrace.the_row Item.the_row Reply.the_row Scratch.the_row Turn.ghosts backtrace_send

its_lane : IsSync (Lane.the_row Backtrace.the_row Item.the_row Reply.the_row Scratch.the_row Turn.ghosts)
its_lane = lane_sync Backtrace.the_row Item.the_row Reply.the_row Scratch.the_row Turn.ghosts backtrace_send

its_talker : IsSend Talker.the_row
its_talker = recorded_send (Talker.the_field).row _ _ (Talker.the_type).to_one (struct_send (shape Talker.the_type)
    (search (sendable, crosses), (its_seat, (search sendable, tt))))

pub join-requires-send-F : goal.join-requires-send-F
join-requires-send-F g c κs within =
    param_send 1 (arg-1-1 g.row.R g.R.laws g.R.Abort-dict g.R.Threads-dict κs) (search (sendable, its_talker, its_lane, crosses) depth 12)

pub join-requires-send-A : goal.join-requires-send-A
join-requires-send-A g c κs = search (sendable, its_talker) depth 7
