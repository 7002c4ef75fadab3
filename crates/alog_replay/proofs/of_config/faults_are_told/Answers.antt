use Rattle.std.proofs.Common.{true}
use Rattle.alog_sink.specs.contracts.mem_store.MemStoreStore.TheImpl.{files-value, failures-value}
use Rattle.alog_replay.specs.Rows.{row_of}
use Rattle.alog_replay.proofs.Faultless.{faults_are_told}
use Rattle.alog_replay.proofs.of_config.faults_are_told.Goals as goal

pub returns : goal.returns
returns c = faults_are_told true (files-value).it (failures-value).it row_of
