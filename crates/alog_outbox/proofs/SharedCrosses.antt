-- A store may go to another thread, and so may its drain.
use denote.RattleType.{RattleType}
use denote.Builtin.{unit}
use denote.Param.Send.{IsSend, IsSync, sendable, view_send, enum_send, struct_send, struct_sync, recorded_send, recorded_sync}
use denote.Struct.Declared.{shape}
use denote.Enum.Declared as Enum
use Rattle.std.proofs.Crossing.{Arc-send, Vec-send, Vec-sync, frees, send as heap_send, sync as heap_sync}
use Rattle.std.specs.contracts.alloc.Global as Global
use Rattle.std.specs.contracts.impls.GlobalAllocator.TheImpl.{ghosts as alloc_ghosts}
use Rattle.std.specs.contracts.option.Option as Option
use Rattle.atomic_table.proofs.shared.Seat.TheSendSync.{the_send as table_seat_send}
use Rattle.atomic_table.proofs.owned.Table.TheSendSync.{the_field_send as table_field_send, the_field_sync as table_field_sync}
use Rattle.crossbeam_queue.specs.contracts.array_queue.Doing as Doing
use Rattle.crossbeam_queue.specs.contracts.array_queue.Slotted as Slotted
use Rattle.crossbeam_queue.specs.contracts.array_queue.Turns as Turns
use Rattle.crossbeam_queue.specs.contracts.array_queue.TurnsTableRuleOptionDoingUnit.TheImpl as TurnsRule
use Rattle.crossbeam_queue.specs.contracts.protocol.Free as Free
use Rattle.crossbeam_queue.specs.contracts.protocol.FreeProtocolUnit.TheImpl as FreeRule
use Rattle.alog_outbox.specs.contracts.area.Area as Area
use Rattle.alog_outbox.specs.contracts.area.Area.TheInside as AreaInside
use Rattle.alog_outbox.specs.contracts.drain.Drain as Drain
use Rattle.alog_outbox.specs.contracts.drain.Drain.TheInside as DrainInside
use Rattle.alog_outbox.specs.contracts.found.FoundFile as FoundFile
use Rattle.alog_outbox.specs.contracts.letter.Letter as Letter
use Rattle.alog_outbox.specs.contracts.line.Common as Common
use Rattle.alog_outbox.specs.contracts.line.InOrder as InOrder
use Rattle.alog_outbox.specs.contracts.line.InOrderProtocolLetterLog.TheImpl as InOrderRule
use Rattle.alog_outbox.specs.contracts.line.Log as Log
use Rattle.alog_outbox.specs.contracts.store.Outbox as Outbox
use Rattle.alog_outbox.specs.contracts.store.Outbox.TheInside as OutboxInside

area_inside_send : IsSend AreaInside.the_row
area_inside_send = search (sendable, Vec-send) depth 20

area_send : IsSend Area.the_row
area_send = view_send _ _ _ _ _ area_inside_send

abbrev Place : RattleType
Place = Option.the_row Area.the_row

place_send : IsSend Place
place_send = search (sendable, area_send) depth 9

letter_field_send : IsSend (Letter.the_field).row
letter_field_send = enum_send (Enum.shape Letter.the_type) ((area_send, tt), (tt, tt))

letter_send : IsSend Letter.the_row
letter_send = search (sendable, letter_field_send) depth 9

abbrev LinePlace : RattleType
LinePlace = Option.the_row Letter.the_row

line_place_send : IsSend LinePlace
line_place_send = search (sendable, letter_send) depth 9

hand_send : IsSend (Option.the_field Area.the_row).row
hand_send = search (sendable, area_send) depth 9

abbrev LineHand : RattleType
LineHand = Doing.the_row Letter.the_row Log.the_row

abbrev LineTurns : RattleType
LineTurns = Turns.the_row InOrder.the_row

abbrev SparesHand : RattleType
SparesHand = Doing.the_row Area.the_row unit

abbrev SparesTurns : RattleType
SparesTurns = Turns.the_row Free.the_row

common_send : IsSend Common.the_row
common_send = recorded_send (Common.the_field).row _ _ (Common.the_type).to_one (struct_send
    (shape Common.the_type) (
      struct_send (shape (Slotted.the_type LinePlace LineHand LineTurns Global.the_row (TurnsRule.ghosts Letter.the_row Log.the_row InOrder.the_row InOrderRule.ghosts TurnsRule.no_dict) alloc_ghosts)) (
        table_field_send LinePlace LineHand unit LineTurns Global.the_row (TurnsRule.ghosts Letter.the_row Log.the_row InOrder.the_row InOrderRule.ghosts TurnsRule.no_dict) alloc_ghosts line_place_send heap_send frees,
        (search sendable, (search sendable, tt)),
      ),
      (
        struct_send (shape (Slotted.the_type Place SparesHand SparesTurns Global.the_row (TurnsRule.ghosts Area.the_row unit Free.the_row (FreeRule.ghosts Area.the_row) TurnsRule.no_dict) alloc_ghosts)) (
          table_field_send Place SparesHand unit SparesTurns Global.the_row (TurnsRule.ghosts Area.the_row unit Free.the_row (FreeRule.ghosts Area.the_row) TurnsRule.no_dict) alloc_ghosts place_send heap_send frees,
          (search sendable, (search sendable, tt)),
        ),
        tt,
      ),
    ))

common_sync : IsSync Common.the_row
common_sync = recorded_sync (Common.the_field).row _ _ (Common.the_type).to_one (struct_sync
    (shape Common.the_type) (
      struct_sync (shape (Slotted.the_type LinePlace LineHand LineTurns Global.the_row (TurnsRule.ghosts Letter.the_row Log.the_row InOrder.the_row InOrderRule.ghosts TurnsRule.no_dict) alloc_ghosts)) (
        table_field_sync LinePlace LineHand unit LineTurns Global.the_row (TurnsRule.ghosts Letter.the_row Log.the_row InOrder.the_row InOrderRule.ghosts TurnsRule.no_dict) alloc_ghosts line_place_send heap_send heap_sync frees,
        (search sendable, (search sendable, tt)),
      ),
      (
        struct_sync (shape (Slotted.the_type Place SparesHand SparesTurns Global.the_row (TurnsRule.ghosts Area.the_row unit Free.the_row (FreeRule.ghosts Area.the_row) TurnsRule.no_dict) alloc_ghosts)) (
          table_field_sync Place SparesHand unit SparesTurns Global.the_row (TurnsRule.ghosts Area.the_row unit Free.the_row (FreeRule.ghosts Area.the_row) TurnsRule.no_dict) alloc_ghosts place_send heap_send heap_sync frees,
          (search sendable, (search sendable, tt)),
        ),
        tt,
      ),
    ))

file_field_send : IsSend (FoundFile.the_field).row
file_field_send = search (sendable, Vec-send) depth 20

pub file_send : IsSend FoundFile.the_row
file_send = search (sendable, file_field_send) depth 9

file_field_sync : IsSync (FoundFile.the_field).row
file_field_sync = search (sendable, Vec-sync) depth 20

pub file_sync : IsSync FoundFile.the_row
file_sync = search (sendable, file_field_sync) depth 9

outbox_inside_send : IsSend OutboxInside.the_row
outbox_inside_send = recorded_send (OutboxInside.the_field).row _ _ (OutboxInside.the_type).to_one (struct_send
    (shape OutboxInside.the_type) (
      Arc-send Common.the_row common_send common_sync,
      (
        table_seat_send LinePlace LineHand line_place_send,
        (hand_send, (Arc-send _ (Vec-send FoundFile.the_row file_send) (Vec-sync FoundFile.the_row file_sync), (search sendable, (search sendable, tt)))),
      ),
    ))

pub outbox_send : IsSend Outbox.the_row
outbox_send = view_send _ _ _ _ _ outbox_inside_send

drain_inside_send : IsSend DrainInside.the_row
drain_inside_send = recorded_send (DrainInside.the_field).row _ _ (DrainInside.the_type).to_one (struct_send
    (shape DrainInside.the_type) (
      Arc-send Common.the_row common_send common_sync,
      (table_seat_send LinePlace LineHand line_place_send, (hand_send, (search sendable, tt))),
    ))

pub drain_send : IsSend Drain.the_row
drain_send = view_send _ _ _ _ _ drain_inside_send
