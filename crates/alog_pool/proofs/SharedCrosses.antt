-- What the threads of a pool share may be shared; a producer may go to another thread, and so may a worker where its store may.
use denote.RattleType.{RattleType}
use denote.Builtin.{u64}
use denote.Param.Send.{IsSend, IsSync, sendable, view_send, struct_send, struct_sync, recorded_send, recorded_sync}
use denote.Struct.Declared.{shape}
use Rattle.std.proofs.Crossing.{Vec-send, Arc-send}
use Rattle.std.specs.contracts.alloc.Global as Global
use Rattle.std.specs.contracts.impls.GlobalAllocator.TheImpl.{ghosts as alloc_ghosts}
use Rattle.std.specs.contracts.option.Option as Option
use Rattle.std.specs.contracts.result.Result as Result
use Rattle.std.specs.contracts.sync.Arc as Arc
use Rattle.alog_format.specs.contracts.line_buf.LineBuf as LineBuf
use Rattle.alog_lane.proofs.SharedCrosses.{seat_send, lane_send, lane_sync}
use Rattle.alog_lane.specs.contracts.lane.Lane as Lane
use Rattle.alog_lane.specs.contracts.seat.LaneSeat as LaneSeat
use Rattle.alog_msg.proofs.SharedCrosses.{block_send, block_sync}
use Rattle.alog_msg.specs.contracts.block.Block as Block
use Rattle.alog_msg.specs.contracts.item.Item as Item
use Rattle.alog_policy.proofs.SharedCrosses.{book_seat_send, book_send, book_sync}
use Rattle.alog_policy.specs.contracts.room_wait.Pace as Pace
use Rattle.alog_registry.proofs.SharedCrosses.{backtrace_send, loggers_send, loggers_sync, scratch_send}
use Rattle.alog_registry.specs.contracts.backtrace.Backtrace as Backtrace
use Rattle.alog_registry.specs.contracts.limit.TextLimit as TextLimit
use Rattle.alog_registry.specs.contracts.limit.TextLimitLimitBlock.TheImpl.{ghosts as limit_ghosts}
use Rattle.alog_registry.specs.contracts.block_port.Contents as Contents
use Rattle.alog_registry.specs.contracts.block_port.ContentsShowsBlockItem.TheImpl.{ghosts as shows_ghosts}
use Rattle.alog_registry.specs.contracts.turn.BacktraceItem as KeepItem
use Rattle.alog_registry.specs.contracts.turn.BacktraceReply as KeepReply
use Rattle.alog_registry.specs.contracts.turn.BacktraceScratch as Scratch
use Rattle.alog_registry.specs.contracts.turn.BacktraceTurn.TheImpl.{ghosts as keep_ghosts}
use Rattle.alog_ring.proofs.SharedCrosses.{swap_pass_send, swap_ring_send, swap_ring_sync}
use Rattle.alog_sink.proofs.SharedCrosses.{line_send, sink_send}
use Rattle.alog_sink.specs.contracts.leaf.SinkError as SinkError
use Rattle.alog_sink.specs.contracts.sink.Sink as Sink
use Rattle.alog_sink.specs.contracts.turn.Served as Served
use Rattle.alog_sink.specs.contracts.turn.SinkTurn.TheImpl as Turn
use Rattle.alog_sink.specs.declared.store.Store.{Ghosts}
use Rattle.alog_pool.specs.contracts.gaps.Gaps as Gaps
use Rattle.alog_pool.specs.contracts.item_wait.RestPace as RestPace
use Rattle.alog_pool.specs.contracts.sink_seat.SinkSeat as SinkSeat
use Rattle.alog_pool.specs.contracts.sink_seat.SinkSeat.TheInside as SinkSeatInside
use Rattle.alog_pool.specs.contracts.worker.Worker as Worker
use Rattle.alog_pool.specs.contracts.backtrace_seat.BacktraceSeat as BacktraceSeat
use Rattle.alog_pool.specs.contracts.backtrace_seat.BacktraceSeat.TheInside as BacktraceSeatInside
use Rattle.alog_pool.specs.contracts.producer.Producer as Producer
use Rattle.alog_pool.specs.contracts.producer.Producer.TheInside as ProducerInside
use Rattle.alog_pool.specs.contracts.shared.Shared as Shared

ticket_send : IsSend (Option.the_field u64).row
ticket_send = search sendable depth 9

ticket_sync : IsSync (Option.the_field u64).row
ticket_sync = search sendable depth 9

pub shared_send : IsSend Shared.the_row
shared_send = recorded_send (Shared.the_field).row _ _ (Shared.the_type).to_one (struct_send (shape Shared.the_type) (
  swap_ring_send Block.the_row Item.the_row Contents.the_row TextLimit.the_row shows_ghosts limit_ghosts block_send,
  (book_send, (loggers_send, (ticket_send, tt))),
))

pub shared_sync : IsSync Shared.the_row
shared_sync = recorded_sync (Shared.the_field).row _ _ (Shared.the_type).to_one (struct_sync (shape Shared.the_type) (
  swap_ring_sync Block.the_row Item.the_row Contents.the_row TextLimit.the_row shows_ghosts limit_ghosts block_send block_sync,
  (book_sync, (loggers_sync, (ticket_sync, tt))),
))

pub arc_shared_send : IsSend (Arc.the_row Shared.the_row Global.the_row alloc_ghosts)
arc_shared_send = Arc-send Shared.the_row shared_send shared_sync

keep_seat_send : IsSend (LaneSeat.the_row Backtrace.the_row KeepItem.the_row KeepReply.the_row Scratch.the_row keep_ghosts)
keep_seat_send = seat_send Backtrace.the_row KeepItem.the_row KeepReply.the_row Scratch.the_row keep_ghosts backtrace_send

abbrev KeepLane : RattleType
KeepLane = Lane.the_row Backtrace.the_row KeepItem.the_row KeepReply.the_row Scratch.the_row keep_ghosts

keep_lane_send : IsSend (Arc.the_row KeepLane Global.the_row alloc_ghosts)
keep_lane_send = Arc-send KeepLane
    (lane_send Backtrace.the_row KeepItem.the_row KeepReply.the_row Scratch.the_row keep_ghosts backtrace_send)
    (lane_sync Backtrace.the_row KeepItem.the_row KeepReply.the_row Scratch.the_row keep_ghosts backtrace_send)

backtrace_seat_inside_send : IsSend BacktraceSeatInside.the_row
backtrace_seat_inside_send = recorded_send (BacktraceSeatInside.the_field).row _ _ (BacktraceSeatInside.the_type).to_one (struct_send
    (shape BacktraceSeatInside.the_type) (keep_lane_send, (keep_seat_send, (scratch_send, (search sendable, (search sendable, tt))))))

pub backtrace_seat_send : IsSend BacktraceSeat.the_row
backtrace_seat_send = view_send _ _ _ _ _ backtrace_seat_inside_send

option_block_send : IsSend (Option.the_field Block.the_row).row
option_block_send = search (sendable, block_send) depth 9

pace_send : IsSend (Pace.the_field).row
pace_send = struct_send (shape Pace.the_type)
    (search sendable, (search sendable, (search sendable, (search sendable, (ticket_send, tt)))))

rest_pace_send : IsSend (RestPace.the_field).row
rest_pace_send = struct_send (shape RestPace.the_type)
    (search sendable, (search sendable, (search sendable, (search sendable, tt))))

producer_inside_send : IsSend ProducerInside.the_row
producer_inside_send = recorded_send (ProducerInside.the_field).row _ _ (ProducerInside.the_type).to_one (struct_send
    (shape ProducerInside.the_type) (
      arc_shared_send,
      (
        swap_pass_send Block.the_row Item.the_row block_send,
        (
          option_block_send,
          (
            option_block_send,
            (pace_send, (book_seat_send, (Vec-send BacktraceSeat.the_row backtrace_seat_send, (search sendable, (search sendable, tt))))),
          ),
        ),
      ),
    ))

pub producer_send : IsSend Producer.the_row
producer_send = view_send _ _ _ _ _ producer_inside_send

gaps_send : IsSend Gaps.the_row
gaps_send = recorded_send (Gaps.the_field).row _ _ (Gaps.the_type).to_one (struct_send (shape Gaps.the_type) (search sendable, (block_send, tt)))

option_gaps_send : IsSend (Option.the_field Gaps.the_row).row
option_gaps_send = search (sendable, gaps_send) depth 9

abbrev Answer : RattleType
Answer = Result.the_row Served.the_row SinkError.the_row

module _ (S : RattleType) (g : Ghosts S.Denot) where
  abbrev SinkLane : RattleType
  SinkLane = Lane.the_row (Sink.the_row S) Item.the_row Answer LineBuf.the_row (Turn.ghosts S g Turn.no_dict)

  pub sink_lane_seat_send : IsSend S → IsSend (LaneSeat.the_row (Sink.the_row S) Item.the_row Answer LineBuf.the_row (Turn.ghosts S g Turn.no_dict))
  sink_lane_seat_send s = seat_send (Sink.the_row S) Item.the_row Answer LineBuf.the_row (Turn.ghosts S g Turn.no_dict) (sink_send S s)

  pub sink_lane_send : IsSend S → IsSend (Arc.the_row SinkLane Global.the_row alloc_ghosts)
  sink_lane_send s = Arc-send SinkLane
      (lane_send (Sink.the_row S) Item.the_row Answer LineBuf.the_row (Turn.ghosts S g Turn.no_dict) (sink_send S s))
      (lane_sync (Sink.the_row S) Item.the_row Answer LineBuf.the_row (Turn.ghosts S g Turn.no_dict) (sink_send S s))

  sink_seat_inside_send : IsSend S → IsSend (SinkSeatInside.the_row S g)
  sink_seat_inside_send s = recorded_send (SinkSeatInside.the_field S g).row _ _ (SinkSeatInside.the_type S g).to_one (struct_send
      (shape (SinkSeatInside.the_type S g)) (sink_lane_send s, (sink_lane_seat_send s, (search sendable, (search sendable, (search sendable, (search sendable, tt)))))))

  pub sink_seat_send : IsSend S → IsSend (SinkSeat.the_row S g)
  sink_seat_send s = view_send _ _ _ _ _ (sink_seat_inside_send s)

  pub worker_send : IsSend S → IsSend (Worker.the_row S g)
  worker_send s = recorded_send (Worker.the_field S g).row _ _ (Worker.the_type S g).to_one (struct_send
      (shape (Worker.the_type S g)) (
        arc_shared_send,
        (
          swap_pass_send Block.the_row Item.the_row block_send,
          (
            block_send,
            (
              Vec-send (SinkSeat.the_row S g) (sink_seat_send s),
              (
                line_send,
                (
                  search sendable,
                  (
                    rest_pace_send,
                    (
                      Vec-send u64 (search sendable),
                      (search sendable, (search sendable, (option_gaps_send, tt))),
                    ),
                  ),
                ),
              ),
            ),
          ),
        ),
      ))
