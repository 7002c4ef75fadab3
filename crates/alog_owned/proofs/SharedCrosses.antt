-- Pools, producers, workers and what they share may go to other threads where the stores may.
use denote.RattleType.{RattleType}
use denote.Param.Send.{IsSend, IsSync, sendable, view_send, struct_send, struct_sync, recorded_send, recorded_sync, enum_send}
use denote.Struct.Declared.{shape}
use denote.Enum.Declared as Enum
use Rattle.std.proofs.Crossing.{crosses, Arc-send, Vec-send, frees, send as heap_send, sync as heap_sync}
use Rattle.atomic_table.proofs.shared.Seat.TheSendSync.{the_send as table_seat_send}
use Rattle.atomic_table.proofs.owned.Table.TheSendSync.{the_field_send as table_field_send, the_field_sync as table_field_sync}
use Rattle.crossbeam_queue.specs.contracts.array_queue.Doing as Doing
use Rattle.crossbeam_queue.specs.contracts.array_queue.Slotted as Slotted
use Rattle.crossbeam_queue.specs.contracts.array_queue.Turns as Turns
use Rattle.crossbeam_queue.specs.contracts.array_queue.TurnsTableRuleOptionDoingUnit.TheImpl as TurnsRule
use Rattle.std.specs.contracts.impls.GlobalAllocator.TheImpl.{ghosts as alloc_ghosts}
use Rattle.std.specs.contracts.snapshot.Snapshot as Snapshot
use Rattle.alog_owned.specs.contracts.desk.OneHost as OneHost
use Rattle.alog_owned.specs.contracts.desk.OneHostProtocolItemWhose.TheImpl as OneHostRule
use Rattle.std.specs.contracts.alloc.Global as Global
use Rattle.std.specs.contracts.mem.ManuallyDrop as ManuallyDrop
use Rattle.std.specs.contracts.result.Result as Result
use Rattle.alog_format.specs.contracts.line_buf.LineBuf as LineBuf
use Rattle.alog_hosted.proofs.SharedCrosses.{host_send, hosted_sync, producer_send, worker_send}
use Rattle.alog_hosted.specs.contracts.producer.HostedProducer as HostedProducer
use Rattle.alog_hosted.specs.contracts.worker.HostedWorker as HostedWorker
use Rattle.alog_hosted.specs.contracts.hosted.Hosted as Hosted
use Rattle.alog_hosted.specs.contracts.hosted.Hosted.TheInside as HostedInside
use Rattle.alog_lane.proofs.SharedCrosses.{lane_send}
use Rattle.alog_msg.specs.contracts.item.Item as Item
use Rattle.alog_lane.specs.contracts.lane.Lane as Lane
use Rattle.alog_msg.proofs.SharedCrosses.{block_send}
use Rattle.alog_msg.specs.contracts.block.Block as Block
use Rattle.alog_policy.proofs.SharedCrosses.{book_send}
use Rattle.alog_pool.specs.contracts.shared.Shared as Shared
use Rattle.alog_registry.specs.contracts.backtrace.Backtrace as Backtrace
use Rattle.alog_registry.specs.contracts.block_port.Contents as Contents
use Rattle.alog_registry.specs.contracts.block_port.ContentsShowsBlockItem.TheImpl.{ghosts as shows_ghosts}
use Rattle.alog_registry.specs.contracts.limit.TextLimit as TextLimit
use Rattle.alog_registry.specs.contracts.limit.TextLimitLimitBlock.TheImpl.{ghosts as limit_ghosts}
use Rattle.alog_registry.specs.contracts.turn.BacktraceItem as KeepItem
use Rattle.alog_registry.specs.contracts.turn.BacktraceReply as KeepReply
use Rattle.alog_registry.specs.contracts.turn.BacktraceScratch as Scratch
use Rattle.alog_registry.specs.contracts.turn.BacktraceTurn.TheImpl.{ghosts as keep_ghosts}
use Rattle.alog_ring.proofs.SharedCrosses.{swap_ring_send}
use Rattle.alog_sink.specs.contracts.leaf.SinkError as SinkError
use Rattle.alog_sink.specs.contracts.sink.Sink as Sink
use Rattle.alog_sink.specs.contracts.turn.Served as Served
use Rattle.alog_sink.specs.contracts.turn.SinkTurn.TheImpl as Turn
use Rattle.std.specs.contracts.option.Option as Option
use denote.Builtin.{u64, unit}
use Rattle.alog_registry.proofs.SharedCrosses.{backtrace_send, loggers_send}
use Rattle.alog_sink.proofs.SharedCrosses.{sink_send}
use Rattle.alog_sink.specs.declared.store.Store.{Ghosts}
use Rattle.alog_owned.specs.contracts.back.Back as Back
use Rattle.alog_owned.specs.contracts.back.Back.TheInside as BackInside
use Rattle.alog_owned.specs.contracts.back.Piece as Piece
use Rattle.alog_owned.specs.contracts.common.Common as Common
use Rattle.alog_owned.specs.contracts.pool.OwnedPool as OwnedPool
use Rattle.alog_owned.specs.contracts.pool.OwnedPool.TheInside as PoolInside
use Rattle.alog_owned.specs.contracts.producer.OwnedProducer as OwnedProducer
use Rattle.alog_owned.specs.contracts.producer.OwnedProducer.TheInside as ProducerInside
use Rattle.alog_owned.specs.contracts.worker.OwnedWorker as OwnedWorker
use Rattle.alog_owned.specs.contracts.worker.OwnedWorker.TheInside as WorkerInside

option_send : (T : RattleType) → IsSend T → IsSend (Option.the_row T)
option_send T t = search sendable depth 9

ticket_send : IsSend (Option.the_field u64).row
ticket_send = search sendable depth 9

shared_send : IsSend (Shared.the_field).row
shared_send = struct_send (shape Shared.the_type) (
  swap_ring_send Block.the_row Item.the_row Contents.the_row TextLimit.the_row shows_ghosts limit_ghosts block_send,
  (book_send, (loggers_send, (ticket_send, tt))),
)

abbrev KeepLane : RattleType
KeepLane = Lane.the_row Backtrace.the_row KeepItem.the_row KeepReply.the_row Scratch.the_row keep_ghosts

keep_lane_send : IsSend KeepLane
keep_lane_send = lane_send Backtrace.the_row KeepItem.the_row KeepReply.the_row Scratch.the_row keep_ghosts backtrace_send

abbrev Answer : RattleType
Answer = Result.the_row Served.the_row SinkError.the_row

module _ (S : RattleType) (g : Ghosts S.Denot) where
  abbrev SinkLane : RattleType
  SinkLane = Lane.the_row (Sink.the_row S) Item.the_row Answer LineBuf.the_row (Turn.ghosts S g Turn.no_dict)

  sink_lane_send : IsSend S → IsSend SinkLane
  sink_lane_send s = lane_send (Sink.the_row S) Item.the_row Answer LineBuf.the_row (Turn.ghosts S g Turn.no_dict) (sink_send S s)

  hosted_inside_send : IsSend S → IsSend (HostedInside.the_row S g)
  hosted_inside_send s = recorded_send (HostedInside.the_field S g).row _ _ (HostedInside.the_type S g).to_one (struct_send
      (shape (HostedInside.the_type S g)) (
        shared_send,
        (Vec-send SinkLane (sink_lane_send s), (Vec-send KeepLane keep_lane_send, tt)),
      ))

  pub hosted_send : IsSend S → IsSend (Hosted.the_row S g)
  hosted_send s = view_send _ _ _ _ _ (hosted_inside_send s)

  piece_send : IsSend S → IsSend (Piece.the_field S g).row
  piece_send s = enum_send (Enum.shape (Piece.the_type S g)) (tt, ((producer_send, tt), ((worker_send S g s, tt), tt)))

  back_inside_send : IsSend S → IsSend (BackInside.the_row S g)
  back_inside_send s = recorded_send (BackInside.the_field S g).row _ _ (BackInside.the_type S g).to_one (struct_send
      (shape (BackInside.the_type S g)) (search (sendable, crosses) depth 9, (piece_send s, tt)))

  back_send : IsSend S → IsSend (Back.the_row S g)
  back_send s = view_send _ _ _ _ _ (back_inside_send s)

  item_send : IsSend S → IsSend (ManuallyDrop.the_row (Back.the_row S g))
  item_send s = recorded_send (ManuallyDrop.the_field (Back.the_row S g)).row _ _ (ManuallyDrop.the_type (Back.the_row S g)).to_one
      (struct_send (shape (ManuallyDrop.the_type (Back.the_row S g))) (back_send s, tt))

  abbrev Laid : RattleType
  Laid = ManuallyDrop.the_row (Back.the_row S g)

  abbrev Whose : RattleType
  Whose = Option.the_row (Snapshot.the_row (Hosted.the_row S g))

  abbrev Place : RattleType
  Place = Option.the_row Laid

  abbrev Hand : RattleType
  Hand = Doing.the_row Laid Whose

  abbrev Rule : RattleType
  Rule = Turns.the_row (OneHost.the_row S)

  place_send : IsSend S → IsSend Place
  place_send s = option_send Laid (item_send s)

  common_send : IsSend S → IsSend (Common.the_row S g)
  common_send s = recorded_send (Common.the_field S g).row _ _ (Common.the_type S g).to_one (struct_send
      (shape (Common.the_type S g)) (
        hosted_send s,
        (
          struct_send (shape (Slotted.the_type Place Hand Rule Global.the_row (TurnsRule.ghosts Laid Whose (OneHost.the_row S) (OneHostRule.ghosts S g OneHostRule.no_dict) TurnsRule.no_dict) alloc_ghosts)) (
            table_field_send Place Hand unit Rule Global.the_row (TurnsRule.ghosts Laid Whose (OneHost.the_row S) (OneHostRule.ghosts S g OneHostRule.no_dict) TurnsRule.no_dict) alloc_ghosts (place_send s) heap_send frees,
            (search sendable, (search sendable, tt)),
          ),
          tt,
        ),
      ))

  common_sync : IsSend S → IsSync (Common.the_row S g)
  common_sync s = recorded_sync (Common.the_field S g).row _ _ (Common.the_type S g).to_one (struct_sync
      (shape (Common.the_type S g)) (
        hosted_sync S g s,
        (
          struct_sync (shape (Slotted.the_type Place Hand Rule Global.the_row (TurnsRule.ghosts Laid Whose (OneHost.the_row S) (OneHostRule.ghosts S g OneHostRule.no_dict) TurnsRule.no_dict) alloc_ghosts)) (
            table_field_sync Place Hand unit Rule Global.the_row (TurnsRule.ghosts Laid Whose (OneHost.the_row S) (OneHostRule.ghosts S g OneHostRule.no_dict) TurnsRule.no_dict) alloc_ghosts (place_send s) heap_send heap_sync frees,
            (search sendable, (search sendable, tt)),
          ),
          tt,
        ),
      ))

  owned_producer_inside_send : IsSend S → IsSend (ProducerInside.the_row S g)
  owned_producer_inside_send s = recorded_send (ProducerInside.the_field S g).row _ _ (ProducerInside.the_type S g).to_one (struct_send
      (shape (ProducerInside.the_type S g)) (
        Arc-send (Common.the_row S g) (common_send s) (common_sync s),
        (table_seat_send Place Hand (place_send s), (producer_send, tt)),
      ))

  pub owned_producer_send : IsSend S → IsSend (OwnedProducer.the_row S g)
  owned_producer_send s = view_send _ _ _ _ _ (owned_producer_inside_send s)

  owned_worker_inside_send : IsSend S → IsSend (WorkerInside.the_row S g)
  owned_worker_inside_send s = recorded_send (WorkerInside.the_field S g).row _ _ (WorkerInside.the_type S g).to_one (struct_send
      (shape (WorkerInside.the_type S g)) (
        Arc-send (Common.the_row S g) (common_send s) (common_sync s),
        (table_seat_send Place Hand (place_send s), (worker_send S g s, tt)),
      ))

  pub owned_worker_send : IsSend S → IsSend (OwnedWorker.the_row S g)
  owned_worker_send s = view_send _ _ _ _ _ (owned_worker_inside_send s)

  owned_pool_inside_send : IsSend S → IsSend (PoolInside.the_row S g)
  owned_pool_inside_send s = recorded_send (PoolInside.the_field S g).row _ _ (PoolInside.the_type S g).to_one (struct_send
      (shape (PoolInside.the_type S g)) (
        Arc-send (Common.the_row S g) (common_send s) (common_sync s),
        (
          table_seat_send Place Hand (place_send s),
          (
            host_send S g s,
            (
              Vec-send HostedProducer.the_row producer_send,
              (
                Vec-send (HostedWorker.the_row S g) (worker_send S g s),
                (search sendable, (search sendable, (search sendable, (search sendable, tt)))),
              ),
            ),
          ),
        ),
      ))

  pub owned_pool_send : IsSend S → IsSend (OwnedPool.the_row S g)
  owned_pool_send s = view_send _ _ _ _ _ (owned_pool_inside_send s)
