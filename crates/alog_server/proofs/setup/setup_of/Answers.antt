use Rattle.std.proofs.Common.{refl}
use Rattle.std.proofs.lemmas.List.Elements.{recursion_from_All}
use Rattle.alog_pattern.specs.declared.patterns.TheConstants.{LINE_MAX}
use Rattle.alog_sink.specs.Sinks.{Suits}
use Rattle.alog_sink.specs.declared.sink.Sink.{Sink}
use Rattle.alog_server.proofs.setup.setup_of.Goals as goal

pub returns-clause-given : goal.returns-clause-given
returns-clause-given g c = record {
  built = c.in_ok-loggers.ensures.built;
  queue = refl;
  first = refl;
  workers = refl;
  limit = refl;
  most_is = refl;
  no_gaps = refl;
}

pub returns-clause-fits : goal.returns-clause-fits
returns-clause-fits g c = record {
  limits = c.args.config.now.sound.limited;
  sinks = recursion_from_All (λ (s : Sink g.row.S.Denot). Suits c.args.config.now.text LINE_MAX s) c.in_ok-loggers.sinks.items c.in_ok-loggers.ensures.suits;
}
