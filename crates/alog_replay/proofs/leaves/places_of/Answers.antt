use Rattle.std.proofs.Common.{◌≡◌, IfOk, List, rules, tests, subst}
use Rattle.std.specs.List.{filter_map}
use Rattle.std.proofs.lemmas.Iterator.{YieldsList-from_slice, items_from_collect}
use Rattle.std.proofs.lemmas.Iterator.Consumers.{YieldsList-from_filter_map}
use Rattle.alog_replay.specs.OfConfig.{place_of}
use Rattle.alog_config.specs.declared.config.SinkConfig.{SinkConfig}
use Rattle.alog_replay.proofs.leaves.places_of.Goals as goal

pub returns : goal.returns
returns c =
    subst (λ (ts : List SinkConfig). IfOk c.collect.result (λ v. v.items ≡ filter_map (place_of ts) c.args.config.now.sinks.items)) c.requires
    (items_from_collect _ c.collect.ensures.ran (YieldsList-from_filter_map _ _ (YieldsList-from_slice c.args.config.now.sinks.items (cc)) c.filter_map.ensures.closure (λ x r q k. search (rules, tests))))
