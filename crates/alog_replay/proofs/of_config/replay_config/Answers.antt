use Rattle.std.proofs.Common.{true}
use Rattle.alog_sink.specs.contracts.mem_store.MemStoreStore.TheImpl.{files-value, failures-value}
use Rattle.alog_replay.specs.Configured.{configured}
use Rattle.alog_replay.specs.Script.{RefusedAt, WritesText}
use Rattle.alog_replay.specs.Rows.{row_of}
use Rattle.alog_replay.proofs.Staging.{refused_on}
use Rattle.alog_replay.proofs.of_config.replay_config.Goals as goal

pub returns-clause-refused : goal.returns-clause-refused
returns-clause-refused g c =
    refused_on c.in_ok-stage.ensures
    (g.R.Read.remaining c.args.reader.now) c.play.result
    (λ line script s. WritesText (configured true (files-value).it (failures-value).it row_of) s script (RefusedAt line)
    (g.W.Write.contents c.args.writer.now) (g.W.Write.contents c.play.new.writer))
    c.play.ensures.refused
