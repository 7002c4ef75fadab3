-- A hosted pool may be shared where its stores may go to other threads; its producers may go there, and so may its workers and its host.
use denote.RattleType.{RattleType}
use denote.Builtin.{u64}
use denote.Param.Send.{IsSend, IsSync, sendable, view_send, view_sync, struct_send, struct_sync, recorded_send, recorded_sync}
use denote.Struct.Declared.{shape}
use Rattle.std.proofs.Crossing.{crosses, Vec-send, Vec-sync}
use Rattle.std.specs.contracts.option.Option as Option
use Rattle.std.specs.contracts.result.Result as Result
use Rattle.alog_format.specs.contracts.line_buf.LineBuf as LineBuf
use Rattle.alog_lane.proofs.SharedCrosses.{seat_send, lane_sync}
use Rattle.alog_lane.specs.contracts.lane.Lane as Lane
use Rattle.alog_lane.specs.contracts.seat.LaneSeat as LaneSeat
use Rattle.alog_msg.proofs.SharedCrosses.{block_send, block_sync}
use Rattle.alog_msg.specs.contracts.block.Block as Block
use Rattle.alog_msg.specs.contracts.item.Item as Item
use Rattle.alog_policy.proofs.SharedCrosses.{book_seat_send, book_sync}
use Rattle.alog_policy.specs.contracts.room_wait.Pace as Pace
use Rattle.alog_pool.proofs.SharedCrosses.{sink_lane_seat_send}
use Rattle.alog_pool.specs.contracts.shared.Shared as Shared
use Rattle.alog_registry.proofs.SharedCrosses.{backtrace_send, loggers_sync, scratch_send}
use Rattle.alog_registry.specs.contracts.backtrace.Backtrace as Backtrace
use Rattle.alog_registry.specs.contracts.block_port.Contents as Contents
use Rattle.alog_registry.specs.contracts.block_port.ContentsShowsBlockItem.TheImpl.{ghosts as shows_ghosts}
use Rattle.alog_registry.specs.contracts.limit.TextLimit as TextLimit
use Rattle.alog_registry.specs.contracts.limit.TextLimitLimitBlock.TheImpl.{ghosts as limit_ghosts}
use Rattle.alog_registry.specs.contracts.turn.BacktraceItem as KeepItem
use Rattle.alog_registry.specs.contracts.turn.BacktraceReply as KeepReply
use Rattle.alog_registry.specs.contracts.turn.BacktraceScratch as Scratch
use Rattle.alog_registry.specs.contracts.turn.BacktraceTurn.TheImpl.{ghosts as keep_ghosts}
use Rattle.alog_ring.proofs.SharedCrosses.{swap_pass_send, swap_ring_sync}
use Rattle.alog_sink.proofs.SharedCrosses.{line_send, sink_send}
use Rattle.alog_sink.specs.contracts.leaf.SinkError as SinkError
use Rattle.alog_sink.specs.contracts.sink.Sink as Sink
use Rattle.alog_sink.specs.contracts.turn.Served as Served
use Rattle.alog_sink.specs.contracts.turn.SinkTurn.TheImpl as Turn
use Rattle.alog_sink.specs.declared.store.Store.{Ghosts}
use Rattle.alog_hosted.specs.contracts.backtrace_place.BacktracePlace as BacktracePlace
use Rattle.alog_hosted.specs.contracts.backtrace_place.BacktracePlace.TheInside as BacktracePlaceInside
use Rattle.alog_hosted.specs.contracts.blank.Blank as Blank
use Rattle.alog_hosted.specs.contracts.blank.Half as Half
use Rattle.alog_hosted.specs.contracts.host.Host as Host
use Rattle.alog_hosted.specs.contracts.host.Host.TheInside as HostInside
use Rattle.alog_hosted.specs.contracts.hosted.Hosted as Hosted
use Rattle.alog_hosted.specs.contracts.hosted.Hosted.TheInside as HostedInside
use Rattle.alog_hosted.specs.contracts.owed.Owed as Owed
use Rattle.alog_hosted.specs.contracts.producer.HostedProducer as HostedProducer
use Rattle.alog_hosted.specs.contracts.producer.HostedProducer.TheInside as ProducerInside
use Rattle.alog_hosted.specs.contracts.sink_place.SinkPlace as SinkPlace
use Rattle.alog_hosted.specs.contracts.sink_place.SinkPlace.TheInside as SinkPlaceInside
use Rattle.alog_hosted.specs.contracts.worker.HostedWorker as HostedWorker
use Rattle.alog_hosted.specs.contracts.worker.HostedWorker.TheInside as WorkerInside

abbrev KeepLane : RattleType
KeepLane = Lane.the_row Backtrace.the_row KeepItem.the_row KeepReply.the_row Scratch.the_row keep_ghosts

keep_lane_sync : IsSync KeepLane
keep_lane_sync = lane_sync Backtrace.the_row KeepItem.the_row KeepReply.the_row Scratch.the_row keep_ghosts backtrace_send

keep_seat_send : IsSend (LaneSeat.the_row Backtrace.the_row KeepItem.the_row KeepReply.the_row Scratch.the_row keep_ghosts)
keep_seat_send = seat_send Backtrace.the_row KeepItem.the_row KeepReply.the_row Scratch.the_row keep_ghosts backtrace_send

backtrace_place_inside_send : IsSend BacktracePlaceInside.the_row
backtrace_place_inside_send = recorded_send (BacktracePlaceInside.the_field).row _ _ (BacktracePlaceInside.the_type).to_one (struct_send
    (shape BacktracePlaceInside.the_type) (search (sendable, crosses) depth 9, (keep_seat_send, (scratch_send, (search sendable, (search sendable, tt))))))

pub backtrace_place_send : IsSend BacktracePlace.the_row
backtrace_place_send = view_send _ _ _ _ _ backtrace_place_inside_send

ticket_send : IsSend (Option.the_field u64).row
ticket_send = search sendable depth 9

ticket_sync : IsSync (Option.the_field u64).row
ticket_sync = search sendable depth 9

shared_sync : IsSync (Shared.the_field).row
shared_sync = struct_sync (shape Shared.the_type) (
  swap_ring_sync Block.the_row Item.the_row Contents.the_row TextLimit.the_row shows_ghosts limit_ghosts block_send block_sync,
  (book_sync, (loggers_sync, (ticket_sync, tt))),
)

option_block_send : IsSend (Option.the_field Block.the_row).row
option_block_send = search (sendable, block_send) depth 9

pace_send : IsSend (Pace.the_field).row
pace_send = struct_send (shape Pace.the_type)
    (search sendable, (search sendable, (search sendable, (search sendable, (ticket_send, tt)))))

producer_inside_send : IsSend ProducerInside.the_row
producer_inside_send = recorded_send (ProducerInside.the_field).row _ _ (ProducerInside.the_type).to_one (struct_send
    (shape ProducerInside.the_type) (
      search (sendable, crosses) depth 9,
      (
        swap_pass_send Block.the_row Item.the_row block_send,
        (
          option_block_send,
          (
            option_block_send,
            (pace_send, (book_seat_send, (Vec-send BacktracePlace.the_row backtrace_place_send, (search sendable, (search sendable, tt))))),
          ),
        ),
      ),
    ))

pub producer_send : IsSend HostedProducer.the_row
producer_send = view_send _ _ _ _ _ producer_inside_send

option_owed_send : IsSend (Option.the_field Owed.the_row).row
option_owed_send = search sendable depth 12

half_send : IsSend Half.the_row
half_send = recorded_send (Half.the_field).row _ _ (Half.the_type).to_one
    (struct_send (shape Half.the_type) (block_send, (search sendable depth 12, tt)))

abbrev Answer : RattleType
Answer = Result.the_row Served.the_row SinkError.the_row

module _ (S : RattleType) (g : Ghosts S.Denot) where
  abbrev SinkLane : RattleType
  SinkLane = Lane.the_row (Sink.the_row S) Item.the_row Answer LineBuf.the_row (Turn.ghosts S g Turn.no_dict)

  sink_lane_sync : IsSend S → IsSync SinkLane
  sink_lane_sync s = lane_sync (Sink.the_row S) Item.the_row Answer LineBuf.the_row (Turn.ghosts S g Turn.no_dict) (sink_send S s)

  sink_place_inside_send : IsSend S → IsSend (SinkPlaceInside.the_row S g)
  sink_place_inside_send s = recorded_send (SinkPlaceInside.the_field S g).row _ _ (SinkPlaceInside.the_type S g).to_one (struct_send
      (shape (SinkPlaceInside.the_type S g)) (
        search (sendable, crosses) depth 9,
        (sink_lane_seat_send S g s, (search sendable, (search sendable, (search sendable, (search sendable, tt))))),
      ))

  pub sink_place_send : IsSend S → IsSend (SinkPlace.the_row S g)
  sink_place_send s = view_send _ _ _ _ _ (sink_place_inside_send s)

  worker_inside_send : IsSend S → IsSend (WorkerInside.the_row S g)
  worker_inside_send s = recorded_send (WorkerInside.the_field S g).row _ _ (WorkerInside.the_type S g).to_one (struct_send
      (shape (WorkerInside.the_type S g)) (
        search (sendable, crosses) depth 9,
        (
          swap_pass_send Block.the_row Item.the_row block_send,
          (
            block_send,
            (
              Vec-send (SinkPlace.the_row S g) (sink_place_send s),
              (
                line_send,
                (Vec-send u64 (search sendable), (search sendable, (search sendable, (search sendable, (option_owed_send, tt))))),
              ),
            ),
          ),
        ),
      ))

  pub worker_send : IsSend S → IsSend (HostedWorker.the_row S g)
  worker_send s = view_send _ _ _ _ _ (worker_inside_send s)

  hosted_inside_sync : IsSend S → IsSync (HostedInside.the_row S g)
  hosted_inside_sync s = recorded_sync (HostedInside.the_field S g).row _ _ (HostedInside.the_type S g).to_one (struct_sync
      (shape (HostedInside.the_type S g)) (
        shared_sync,
        (Vec-sync SinkLane (sink_lane_sync s), (Vec-sync KeepLane keep_lane_sync, tt)),
      ))

  pub hosted_sync : IsSend S → IsSync (Hosted.the_row S g)
  hosted_sync s = view_sync _ _ _ _ _ (hosted_inside_sync s)

  blank_field_send : IsSend S → IsSend (Blank.the_field S).row
  blank_field_send s = struct_send (shape (Blank.the_type S)) (
    Vec-send _ (Vec-send u64 (search sendable)),
    (Vec-send Half.the_row half_send, (Vec-send u64 (search sendable), (Vec-send (Sink.the_row S) (sink_send S s), tt))),
  )

  host_inside_send : IsSend S → IsSend (HostInside.the_row S g)
  host_inside_send s = recorded_send (HostInside.the_field S g).row _ _ (HostInside.the_type S g).to_one (struct_send
      (shape (HostInside.the_type S g)) (
        search (sendable, crosses) depth 9,
        (
          search (sendable, crosses) depth 9,
          (
            swap_pass_send Block.the_row Item.the_row block_send,
            (
              book_seat_send,
              (
                Vec-send (SinkPlace.the_row S g) (sink_place_send s),
                (
                  Vec-send BacktracePlace.the_row backtrace_place_send,
                  (
                    line_send,
                    (search sendable, (search sendable, (search sendable, (search sendable, (search sendable, (blank_field_send s, tt)))))),
                  ),
                ),
              ),
            ),
          ),
        ),
      ))

  pub host_send : IsSend S → IsSend (Host.the_row S g)
  host_send s = view_send _ _ _ _ _ (host_inside_send s)
