use Rattle.std.proofs.Common.{Bor, true, ap, sym, subst, ◌∙◌}
use Rattle.std.specs.Prelude.{map}
use Rattle.alog_config.specs.declared.config.SinkConfig.{SinkConfig}
use Rattle.alog_sink.specs.contracts.mem_store.MemStoreStore.TheImpl.{files-value, failures-value}
use Rattle.alog_replay.specs.OfConfig.{IsStageOf, tops_of}
use Rattle.alog_replay.proofs.Staging.{names_from}
use Rattle.alog_replay.proofs.of_config.staged.Goals as goal

pub returns : goal.returns
returns c =
    let tops = ap (map (λ (s : Bor SinkConfig). s.now)) c.as_slice.ensures.value ∙ c.in_ok-tops.ensures in
    let names = names_from c.as_slice.result.now (tops_of c.args.config.now) c.in_ok-names.names.items tops c.in_ok-names.ensures in
    subst (IsStageOf true (files-value).it (failures-value).it c.args.config.now) (sym c.of.ensures)
    (record { system = c.in_ok-system.ensures; names = names; places = c.in_ok-places.ensures })
