-- Texts, sources, messages, items and blocks may be shared, and may go to other threads.
use denote.Param.Send.{IsSend, IsSync, sendable, view_send, view_sync, struct_send, struct_sync, recorded_send, recorded_sync}
use denote.Struct.Declared.{shape}
use Rattle.std.proofs.Crossing.{crosses, Box-send, Box-sync, Vec-send, Vec-sync}
use Rattle.alog_msg.specs.contracts.block.Block as Block
use Rattle.alog_msg.specs.contracts.block.Block.TheInside as BlockInside
use Rattle.alog_msg.specs.contracts.item.Item as Item
use Rattle.alog_msg.specs.contracts.message.Message as Message
use Rattle.alog_msg.specs.contracts.source.Place as Place
use Rattle.alog_msg.specs.contracts.source.Source as Source
use Rattle.alog_msg.specs.contracts.source.Source.TheInside as SourceInside
use Rattle.alog_msg.specs.contracts.spare.Spare as Spare
use Rattle.alog_msg.specs.contracts.text.Text as Text
use Rattle.alog_msg.specs.contracts.text.Text.TheInside as TextInside

text_inside_send : IsSend TextInside.the_row
text_inside_send = search (sendable, Vec-send) depth 20

pub text_send : IsSend Text.the_row
text_send = view_send _ _ _ _ _ text_inside_send

text_inside_sync : IsSync TextInside.the_row
text_inside_sync = search (sendable, Vec-sync) depth 20

pub text_sync : IsSync Text.the_row
text_sync = view_sync _ _ _ _ _ text_inside_sync

place_field_send : IsSend (Place.the_field).row
place_field_send = struct_send (shape Place.the_type) (search sendable depth 20, (search sendable depth 20, (search sendable depth 20, tt)))

source_inside_send : IsSend SourceInside.the_row
source_inside_send = search (sendable, Box-send, place_field_send) depth 20

pub source_send : IsSend Source.the_row
source_send = view_send _ _ _ _ _ source_inside_send

place_field_sync : IsSync (Place.the_field).row
place_field_sync = struct_sync (shape Place.the_type) (search sendable depth 20, (search sendable depth 20, (search sendable depth 20, tt)))

source_inside_sync : IsSync SourceInside.the_row
source_inside_sync = search (sendable, Box-sync, place_field_sync) depth 20

pub source_sync : IsSync Source.the_row
source_sync = view_sync _ _ _ _ _ source_inside_sync

message_field_send : IsSend (Message.the_field).row
message_field_send = search (sendable, crosses, text_send, source_send) depth 60 fits 50000

message_field_sync : IsSync (Message.the_field).row
message_field_sync = search (sendable, crosses, text_sync, source_sync) depth 60 fits 50000

pub message_send : IsSend Message.the_row
message_send = search (sendable, message_field_send) depth 9

pub message_sync : IsSync Message.the_row
message_sync = search (sendable, message_field_sync) depth 9

pub item_send : IsSend Item.the_row
item_send = search (sendable, message_field_send) depth 20

pub item_sync : IsSync Item.the_row
item_sync = search (sendable, message_field_sync) depth 20

spare_field_send : IsSend (Spare.the_field).row
spare_field_send = struct_send (shape Spare.the_type) (
  search sendable depth 9,
  (
    search (sendable, Vec-send) depth 20,
    (
      search (sendable, Vec-send) depth 20,
      (
        search (sendable, Vec-send) depth 20,
        (search (sendable, source_send) depth 20, (search sendable depth 9, tt)),
      ),
    ),
  ),
)

spare_field_sync : IsSync (Spare.the_field).row
spare_field_sync = struct_sync (shape Spare.the_type) (
  search sendable depth 9,
  (
    search (sendable, Vec-sync) depth 20,
    (
      search (sendable, Vec-sync) depth 20,
      (
        search (sendable, Vec-sync) depth 20,
        (search (sendable, source_sync) depth 20, (search sendable depth 9, tt)),
      ),
    ),
  ),
)

block_inside_send : IsSend BlockInside.the_row
block_inside_send = recorded_send (BlockInside.the_field).row _ _ (BlockInside.the_type).to_one (struct_send
    (shape BlockInside.the_type) (
      search (sendable, message_field_send) depth 20,
      (search (sendable, Box-send, spare_field_send) depth 20, tt),
    ))

pub block_send : IsSend Block.the_row
block_send = view_send _ _ _ _ _ block_inside_send

block_inside_sync : IsSync BlockInside.the_row
block_inside_sync = recorded_sync (BlockInside.the_field).row _ _ (BlockInside.the_type).to_one (struct_sync
    (shape BlockInside.the_type) (
      search (sendable, message_field_sync) depth 20,
      (search (sendable, Box-sync, spare_field_sync) depth 20, tt),
    ))

pub block_sync : IsSync Block.the_row
block_sync = view_sync _ _ _ _ _ block_inside_sync
