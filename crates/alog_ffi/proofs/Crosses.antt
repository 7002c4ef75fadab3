-- A slot may go to another thread, as the box that it owns may, and so may what lies there.
use Rattle.alog_ffi.proofs.Steps.{RattleType, Ptr, full_share, bare, layout}
use base.Shift.{Keyless}
use denote.Enum.Declared as Enum
use denote.Param.Send.{IsSend, sendable, enum_send, part_keyless, owning_send, recorded_send, struct_send, view_send}
use denote.RawPtr.{lies_at, block_ptr, null_ptr}
use denote.Struct.Declared.{shape}
use Rattle.std.proofs.Crossing.{Arc-send, Vec-send, Vec-sync, frees}
use Rattle.std.specs.Prelude.{Option, Some, None}
use Rattle.alog_outbox.proofs.SharedCrosses.{drain_send, file_send, file_sync, outbox_send}
use Rattle.alog_outbox.specs.contracts.drain.Drain as Drain
use Rattle.alog_outbox.specs.contracts.found.FoundFile as FoundFile
use Rattle.alog_outbox.specs.contracts.store.Outbox as Outbox
use Rattle.alog_outbox.specs.contracts.store.OutboxStore.TheImpl.{ghosts as outbox_ghosts}
use Rattle.alog_owned.proofs.SharedCrosses.{owned_pool_send, owned_producer_send, owned_worker_send}
use Rattle.alog_ffi.proofs.Boxed.{P, R}
use Rattle.alog_ffi.specs.Slots.{held_at, the_heap}
use Rattle.alog_ffi.specs.contracts.found_list.Files as Files
use Rattle.alog_ffi.specs.contracts.found_list.FoundList as FoundList
use Rattle.alog_ffi.specs.contracts.found_list.FoundList.TheInside as FoundInside
use Rattle.alog_ffi.specs.contracts.part.Part as Part
use Rattle.alog_ffi.specs.contracts.slot.Slot.{the_row, the_type}

files_field_send : IsSend (Files.the_field).row
files_field_send = enum_send (Enum.shape Files.the_type)
    ((Vec-send FoundFile.the_row file_send, tt), ((Arc-send _ (Vec-send FoundFile.the_row file_send) (Vec-sync FoundFile.the_row file_sync), tt), tt))

found_inside_send : IsSend FoundInside.the_row
found_inside_send = recorded_send (FoundInside.the_field).row _ _ (FoundInside.the_type).to_one
    (struct_send (shape FoundInside.the_type) (files_field_send, tt))

found_send : IsSend FoundList.the_row
found_send = view_send _ _ _ _ _ found_inside_send

part_field_send : IsSend (Part.the_field).row
part_field_send = enum_send (Enum.shape Part.the_type) (
  tt,
  (
    (owned_pool_send Outbox.the_row outbox_ghosts outbox_send, tt),
    (
      (owned_producer_send Outbox.the_row outbox_ghosts outbox_send, tt),
      (
        (owned_worker_send Outbox.the_row outbox_ghosts outbox_send, tt),
        ((found_send, tt), ((Vec-send Drain.the_row drain_send, tt), tt)),
      ),
    ),
  ),
)

part_send : IsSend P
part_send = search (sendable, part_field_send) depth 9

boxed_send : IsSend R
boxed_send = search (sendable, part_send) depth 20

lies : (X : RattleType) → IsSend X → (p : Ptr) (x : X.Denot) → Keyless (lies_at X full_share p x)
lies X s (block_ptr b o) x = part_keyless X s full_share x b o
lies X s null_ptr x = tt

held_keyless : (p : Ptr) (o : Option P.Denot) → Keyless (held_at P p o)
held_keyless p None = tt
held_keyless p (Some x) = (lies R boxed_send p (record { value = x }), frees.frees the_heap (bare (layout R)) p)

pub slot_send : IsSend the_row
slot_send = owning_send the_type (search sendable, tt) (λ d. held_keyless d.at d.part) (λ k x w. tt)
