use Rattle.std.proofs.Common.{◌<◌, length, ap, subst, ◌∙◌}
use Rattle.std.specs.Prelude.{IfSome}
use Rattle.alog_sink.specs.declared.mem_store.MemStore.{MemStore}
use Rattle.alog_replay.specs.Configured.{Stage, number_in}
use Rattle.alog_replay.proofs.Numbers.{number_found, number_within}
use Rattle.alog_replay.proofs.configured.Configured+MemStore.number.Goals as goal

pub returns-clause-number : goal.returns-clause-number
returns-clause-number c =
    number_found c.self.inside.system.roster.loggers c.args.name.now c.find.result c.find.ensures
    ∙ ap (λ (s : Stage MemStore). number_in s c.args.name.now) c.self.view_is

pub returns-clause-known : goal.returns-clause-known
returns-clause-known c =
    subst (λ (s : Stage MemStore). IfSome c.find.result (λ n. n < length s.system.roster.loggers)) c.self.view_is
    (number_within c.self.inside.system.roster.loggers c.args.name.now c.find.result c.find.ensures)
