-- A folder of files may go to another thread where what opens its files may, and the files that it opens; and so may a sink over it.
use denote.RattleType.{RattleType}
use denote.Param.Send.{IsSend, sendable, struct_send, recorded_send}
use denote.Struct.Declared.{shape}
use Rattle.std.proofs.Crossing.{crosses, Vec-send}
use Rattle.std.specs.contracts.io.Error as Error
use Rattle.std.specs.contracts.option.Option as Option
use Rattle.alog_sink.proofs.SharedCrosses.{sink_send}
use Rattle.alog_sink.specs.contracts.folder_store.FolderStore as FolderStore
use Rattle.alog_sink.specs.contracts.folder_store.Folder as Folder
use Rattle.alog_sink.specs.contracts.folder_store.Kept as Kept
use Rattle.alog_sink.specs.contracts.sink.Sink as Sink

kept_send : (F : RattleType) → IsSend F → IsSend (Kept.the_row F)
kept_send F f = search (sendable, crosses, Vec-send) depth 20

folder_send : (R F D : RattleType) → IsSend R → IsSend F → IsSend (Folder.the_field R F D).row
folder_send R F D r f = search (sendable, crosses, Vec-send, kept_send) depth 20

pub error_send : IsSend Error.the_row
error_send = recorded_send Error.the_field.row _ _ Error.the_type.to_one (struct_send (shape Error.the_type)
    (search sendable, (search sendable, (search sendable, (search sendable, (search sendable depth 60, tt))))))

pub reason_send : IsSend (Option.the_field Error.the_row).row
reason_send = search (sendable, error_send) depth 20

pub folder_store_send : (R F D : RattleType) → IsSend R → IsSend F → IsSend (FolderStore.the_row R F D)
folder_store_send R F D r f = recorded_send (FolderStore.the_field R F D).row _ _ (FolderStore.the_type R F D).to_one (struct_send
    (shape (FolderStore.the_type R F D)) (folder_send R F D r f, (search sendable, (reason_send, tt))))

pub folder_sink_send : (R F D : RattleType) → IsSend R → IsSend F → IsSend (Sink.the_row (FolderStore.the_row R F D))
folder_sink_send R F D r f = sink_send (FolderStore.the_row R F D) (folder_store_send R F D r f)
