use Rattle.std.proofs.Common.{List, sym, subst}
use Rattle.alog_config.specs.Built.{EachIs, IsLoggerOf}
use Rattle.alog_config.specs.Parts.{MayLog}
use Rattle.alog_config.specs.declared.config.LoggerConfig.{LoggerConfig}
use Rattle.alog_config.specs.declared.parts.Part.{Part}
use Rattle.alog_config.proofs.Fitting.{each_fits, each_suits}
use Rattle.alog_config.proofs.Handing.{all_built, may_log}
use Rattle.alog_config.proofs.building.build.Goals as goal

pub loggers_of-requires : goal.loggers_of-requires
loggers_of-requires g c =
    let config = c.args.config.now in
    let may = may_log g.S.Store.tells g.S.Store.files g.S.Store.failures config c.args.stores.items c.in_ok-parts.parts.items config.sound
    c.in_ok-parts.ensures.built in
    subst (λ (ps : List (Part g.row.S.Denot)). MayLog ps c.deref.result.now) (sym c.as_slice.ensures.value)
    (subst (λ (ls : List LoggerConfig). MayLog c.in_ok-parts.parts.items ls) (sym c.deref.ensures.value) may)

pub returns-clause-built : goal.returns-clause-built
returns-clause-built g c =
    let config = c.args.config.now in
    let parts = c.in_ok-parts.parts.items in
    let loggers = c.in_ok-loggers.loggers in
    let each = subst (λ (ps : List (Part g.row.S.Denot)). EachIs (IsLoggerOf ps) c.deref.result.now loggers) c.as_slice.ensures.value
    c.in_ok-loggers.ensures in
    all_built g.S.Store.tells g.S.Store.files g.S.Store.failures config c.args.stores.items parts loggers c.in_ok-sinks.sinks.items
    c.in_ok-parts.ensures.built c.in_ok-sinks.ensures
    (subst (λ (ls : List LoggerConfig). EachIs (IsLoggerOf parts) ls loggers) c.deref.ensures.value each)

pub returns-clause-fits : goal.returns-clause-fits
returns-clause-fits g c =
    let config = c.args.config.now in
    each_fits g.S.Store.tells g.S.Store.files g.S.Store.failures config config.zone c.args.stores.items c.in_ok-loggers.loggers
    c.in_ok-sinks.sinks.items config.sound (returns-clause-built g c)

pub returns-clause-suits : goal.returns-clause-suits
returns-clause-suits g c =
    let config = c.args.config.now in
    each_suits g.S.Store.tells g.S.Store.files g.S.Store.failures config config.zone c.args.stores.items c.in_ok-loggers.loggers
    c.in_ok-sinks.sinks.items config.sound (returns-clause-built g c)
