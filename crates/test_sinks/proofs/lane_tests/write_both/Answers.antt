use denote.RattleType.{RattleType}
use denote.Param.Send.{IsSend, IsSync, sendable, recorded_send, struct_send, param_send}
use denote.Struct.Declared.{shape}
use Rattle.std.proofs.Crossing.{crosses, Vec-send}
use Rattle.std.specs.contracts.result.Result as Result
use Rattle.alog_format.specs.contracts.line_buf.LineBuf as LineBuf
use Rattle.alog_lane.proofs.SharedCrosses.{seat_send, lane_sync}
use Rattle.alog_lane.specs.contracts.lane.Lane as Lane
use Rattle.alog_lane.specs.contracts.seat.LaneSeat as LaneSeat
use Rattle.alog_msg.specs.contracts.item.Item as Item
use Rattle.alog_msg.proofs.SharedCrosses.{source_send, text_send}
use Rattle.alog_msg.specs.contracts.message.Message as Message
use Rattle.alog_sink.proofs.SharedCrosses.{sink_send, store_send, line_send}
use Rattle.alog_sink.specs.contracts.leaf.SinkError as SinkError
use Rattle.alog_sink.specs.contracts.sink.Sink as Sink
use Rattle.alog_sink.specs.contracts.turn.Served as Served
use Rattle.alog_sink.specs.contracts.turn.SinkTurn.TheImpl as Turn
use Rattle.test_sinks.specs.contracts.lane_tests.Writer as Writer
use Rattle.test_sinks.specs.contracts.stores.Yielding as Yielding
use Rattle.test_sinks.specs.contracts.stores.YieldingStore.TheImpl as Store
use Rattle.test_sinks.proofs.lane_tests.write_both.Lts.{arg-0-1}
use Rattle.test_sinks.proofs.lane_tests.write_both.Goals as goal

own_store : IsSend Yielding.the_row
own_store = search (sendable, store_send) depth 9

its_sink : IsSend (Sink.the_row Yielding.the_row)
its_sink = sink_send Yielding.the_row own_store

abbrev Answer : RattleType
Answer = Result.the_row Served.the_row SinkError.the_row

its_seat : IsSend (LaneSeat.the_row (Sink.the_row Yielding.the_row) Item.the_row Answer LineBuf.the_row
    (Turn.ghosts Yielding.the_row Store.ghosts Turn.no_dict))
its_seat = seat_send (Sink.the_row Yielding.the_row) Item.the_row Answer LineBuf.the_row
    (Turn.ghosts Yielding.the_row Store.ghosts Turn.no_dict) its_sink

its_lane : IsSync (Lane.the_row (Sink.the_row Yielding.the_row) Item.the_row Answer LineBuf.the_row
    (Turn.ghosts Yielding.the_row Store.ghosts Turn.no_dict))
its_lane = lane_sync (Sink.the_row Yielding.the_row) Item.the_row Answer LineBuf.the_row
    (Turn.ghosts Yielding.the_row Store.ghosts Turn.no_dict) its_sink

message_field_send : IsSend (Message.the_field).row
message_field_send = search (sendable, crosses, text_send, source_send) depth 60 fits 50000

item_field_send : IsSend (Item.the_field).row
item_field_send = search (sendable, message_field_send) depth 20

its_writer : IsSend Writer.the_row
its_writer = recorded_send (Writer.the_field).row _ _ (Writer.the_type).to_one (struct_send (shape Writer.the_type)
    (its_seat, (item_field_send, (line_send, (search (sendable, Vec-send), tt)))))

pub join-requires-send-F : goal.join-requires-send-F
join-requires-send-F g c κs l = param_send 1 (arg-0-1 g.row.rt g.rt.laws g.rt.Threads-dict κs) (search (sendable, its_writer, its_lane) depth 8)

pub join-requires-send-A : goal.join-requires-send-A
join-requires-send-A g c κs = search (sendable, its_writer) depth 7
