use Rattle.std.proofs.Common.{true, refl}
use Rattle.alog_sink.specs.contracts.mem_store.MemStoreStore.TheImpl.{files-value, failures-value}
use Rattle.alog_replay.specs.Faultless.{faultless}
use Rattle.alog_replay.specs.Rows.{row_of}
use Rattle.alog_replay.proofs.Agreeing.{agree_on}
use Rattle.alog_replay.proofs.AlikeLoggers.{AgreeingStages, loggers_agree}
use Rattle.alog_replay.proofs.AlikeStages.{stages_agree}
use Rattle.alog_replay.proofs.Rows.{same_row}
use Rattle.alog_replay.proofs.TwoStages.{begins_agree}
use Rattle.alog_replay.proofs.of_config.one_text_of_config.Goals as goal

pub returns : goal.returns
returns c config s r script t u is other =
    agree_on (faultless true (files-value).it (failures-value).it row_of) (AgreeingStages (files-value).it)
    (loggers_agree true (files-value).it (failures-value).it row_of
    (stages_agree (files-value).it true refl (failures-value).it row_of (λ x y h. same_row x.files y.files h) c.one_line.ensures
    c.pieces_have_one_cut.ensures))
    script s r t u (begins_agree c.one_reading.ensures refl is other)
