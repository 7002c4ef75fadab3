-- A sink may go to another thread where its store may, and so may files in memory and buffers.
use denote.RattleType.{RattleType}
use denote.Param.Send.{IsSend, sendable, view_send, struct_send, recorded_send}
use denote.Struct.Declared.{shape}
use Rattle.std.proofs.Crossing.{crosses, frees, Vec-send, send as heap_send}
use Rattle.std.proofs.MapsCrossing.{String-send}
use Rattle.std.specs.contracts.alloc.Global as Global
use Rattle.std.specs.contracts.impls.GlobalAllocator.TheImpl.{ghosts as alloc_ghosts}
use Rattle.std.specs.declared.cmp.PartialEq as eq
use Rattle.std.specs.declared.hash.BuildHasher as builder
use Rattle.std.specs.declared.hash.Hash as hash
use Rattle.std.specs.declared.hash.Hasher as hasher
use Rattle.indexmap.specs.contracts.columns.Columns as Columns
use Rattle.indexmap.specs.contracts.columns.Columns.TheInside as ColumnsInside
use Rattle.indexmap.specs.contracts.index_table.Bucket as Bucket
use Rattle.indexmap.specs.contracts.index_table.IndexTable as IndexTable
use Rattle.indexmap.specs.contracts.index_table.IndexTable.TheInside as TableInside
use Rattle.indexmap.specs.contracts.index_table.group.Group as Group
use Rattle.indexmap.specs.contracts.map.IndexMap as IndexMap
use Rattle.indexmap.specs.contracts.map.IndexMap.TheInside as MapInside
use Rattle.circular_buffer.proofs.Crosses.{Cells-send, Deed-send}
use Rattle.circular_buffer.specs.contracts.heap.HeapCircularBuffer as Dates
use Rattle.circular_buffer.specs.contracts.heap.HeapCircularBuffer.TheInside as DatesInside
use Rattle.alog_format.proofs.SharedCrosses.{bytes-send, deed-send, context_field_send}
use Rattle.alog_format.specs.contracts.formatter.Formatter as Formatter
use Rattle.alog_format.specs.contracts.formatter.Formatter.TheInside as FormatterInside
use Rattle.alog_format.specs.contracts.line_buf.LineBuf as LineBuf
use Rattle.alog_format.specs.contracts.line_buf.LineBuf.TheInside as LineInside
use Rattle.alog_msg.proofs.SharedCrosses.{text_send}
use Rattle.alog_pattern.specs.contracts.items.Item as Item
use Rattle.alog_pattern.specs.contracts.items.Padding as Padding
use Rattle.alog_pattern.specs.contracts.patterns.Pattern as Pattern
use Rattle.alog_pattern.specs.contracts.patterns.Pattern.TheInside as PatternInside
use Rattle.alog_sink.specs.contracts.daily_files.DailyFiles as DailyFiles
use Rattle.alog_sink.specs.contracts.daily_files.DailyFiles.TheInside as DailyFilesInside
use Rattle.alog_sink.specs.contracts.face.Names as Names
use Rattle.alog_sink.specs.contracts.face.Names.TheInside as NamesInside
use Rattle.alog_sink.specs.contracts.face.Scribe as Scribe
use Rattle.alog_sink.specs.contracts.face.Scribe.TheInside as ScribeInside
use Rattle.alog_sink.specs.contracts.fan.Fan as Fan
use Rattle.alog_sink.specs.contracts.fan.Fan.TheInside as FanInside
use Rattle.alog_sink.specs.contracts.leaf.Leaf as Leaf
use Rattle.alog_sink.specs.contracts.leaf.Leaf.TheInside as LeafInside
use Rattle.alog_sink.specs.contracts.mem_store.MemStore as MemStore
use Rattle.alog_sink.specs.contracts.names.Date as Date
use Rattle.alog_sink.specs.contracts.rotation.Rotation as Rotation
use Rattle.alog_sink.specs.contracts.rotation.Rotation.TheInside as RotationInside
use Rattle.alog_sink.specs.contracts.sink.Sink as Sink
use Rattle.alog_sink.specs.contracts.sorted_files.SortedFiles as SortedFiles
use Rattle.alog_sink.specs.contracts.sorted_files.SortedFiles.TheInside as FilesInside
use Rattle.alog_sink.specs.contracts.target.Target as Target

line_inside_send : IsSend LineInside.the_row
line_inside_send = search (sendable, crosses, bytes-send, deed-send) depth 20

pub line_send : IsSend LineBuf.the_row
line_send = view_send _ _ _ _ _ line_inside_send

bucket_send : IsSend Bucket.the_row
bucket_send = search sendable depth 20

group_send : IsSend Group.the_row
group_send = search sendable depth 20

table_inside_send : IsSend (TableInside.the_row Global.the_row alloc_ghosts)
table_inside_send = search (sendable, Vec-send, bucket_send, group_send) depth 20

table_send : IsSend (IndexTable.the_row Global.the_row alloc_ghosts)
table_send = view_send _ _ _ _ _ table_inside_send

columns_inside_send : (K V : RattleType) → IsSend K → IsSend V → IsSend (ColumnsInside.the_row K V Global.the_row alloc_ghosts)
columns_inside_send K V k v = search (sendable, Vec-send) depth 20

columns_send : (K V : RattleType) → IsSend K → IsSend V → IsSend (Columns.the_row K V Global.the_row alloc_ghosts)
columns_send K V k v = view_send _ _ _ _ _ (columns_inside_send K V k v)

module _ (K V S T : RattleType) (e : eq.Ghosts K.Denot) (h : hash.Ghosts K.Denot) (b : builder.Ghosts S.Denot T.Denot) (w : hasher.Ghosts T.Denot) where
  map_inside_send : IsSend K → IsSend V → IsSend S → IsSend (MapInside.the_row K V S Global.the_row T e h b w alloc_ghosts)
  map_inside_send k v s = search (sendable, columns_send, table_send) depth 20

  map_send : IsSend K → IsSend V → IsSend S → IsSend (IndexMap.the_row K V S Global.the_row T e h b w alloc_ghosts)
  map_send k v s = view_send _ _ _ _ _ (map_inside_send k v s)

files_inside_send : IsSend FilesInside.the_row
files_inside_send = search (sendable, crosses, String-send, Vec-send, map_send) depth 30 fits 50000

files_send : IsSend SortedFiles.the_row
files_send = view_send _ _ _ _ _ files_inside_send

pub store_send : IsSend (MemStore.the_field).row
store_send = search (sendable, files_send) depth 20

padding_send : IsSend Padding.the_row
padding_send = search sendable depth 20

item_send : IsSend Item.the_row
item_send = search (sendable, crosses, padding_send) depth 60 fits 50000

pattern_inside_send : IsSend PatternInside.the_row
pattern_inside_send = search (sendable, Vec-send, item_send) depth 9

pattern_send : IsSend Pattern.the_row
pattern_send = view_send _ _ _ _ _ pattern_inside_send

names_inside_send : IsSend NamesInside.the_row
names_inside_send = search (sendable, crosses, Vec-send, text_send) depth 20

names_send : IsSend Names.the_row
names_send = view_send _ _ _ _ _ names_inside_send

formatter_inside_send : IsSend FormatterInside.the_row
formatter_inside_send = search (sendable, crosses, pattern_send) depth 30 fits 50000

formatter_send : IsSend Formatter.the_row
formatter_send = view_send _ _ _ _ _ formatter_inside_send

scribe_inside_send : IsSend ScribeInside.the_row
scribe_inside_send = search (sendable, crosses, formatter_send, names_send, context_field_send) depth 30 fits 50000

scribe_send : IsSend Scribe.the_row
scribe_send = view_send _ _ _ _ _ scribe_inside_send

rotation_inside_send : IsSend RotationInside.the_row
rotation_inside_send = search (sendable, crosses, Vec-send, String-send) depth 20

rotation_send : IsSend Rotation.the_row
rotation_send = view_send _ _ _ _ _ rotation_inside_send

dates_inside_send : IsSend (DatesInside.the_row Date.the_row Global.the_row alloc_ghosts)
dates_inside_send = search (sendable, crosses, heap_send, frees, Cells-send, Deed-send) depth 30

dates_send : IsSend (Dates.the_row Date.the_row Global.the_row alloc_ghosts)
dates_send = view_send _ _ _ _ _ dates_inside_send

daily_files_inside_send : IsSend DailyFilesInside.the_row
daily_files_inside_send = search (sendable, crosses, String-send, text_send, dates_send) depth 20

daily_files_send : IsSend DailyFiles.the_row
daily_files_send = view_send _ _ _ _ _ daily_files_inside_send

target_send : IsSend (Target.the_field).row
target_send = search (sendable, crosses, text_send, rotation_send, daily_files_send) depth 20

leaf_inside_send : (S : RattleType) → IsSend S → IsSend (LeafInside.the_row S)
leaf_inside_send S s = recorded_send (LeafInside.the_field S).row _ _ (LeafInside.the_type S).to_one (struct_send
    (shape (LeafInside.the_type S)) (scribe_send, (target_send, (s, (search sendable, (search sendable, tt))))))

leaf_send : (S : RattleType) → IsSend S → IsSend (Leaf.the_row S)
leaf_send S s = view_send _ _ _ _ _ (leaf_inside_send S s)

fan_inside_send : (S : RattleType) → IsSend S → IsSend (FanInside.the_row S)
fan_inside_send S s = search (sendable, Vec-send, leaf_send) depth 20

fan_send : (S : RattleType) → IsSend S → IsSend (Fan.the_row S)
fan_send S s = view_send _ _ _ _ _ (fan_inside_send S s)

pub sink_send : (S : RattleType) → IsSend S → IsSend (Sink.the_row S)
sink_send S s = search (sendable, leaf_send, fan_send) depth 20
