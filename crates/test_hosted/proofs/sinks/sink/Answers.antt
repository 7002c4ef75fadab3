use Rattle.std.proofs.Common.{subst}
use Rattle.alog_pattern.specs.declared.patterns.TheConstants.{LINE_MAX}
use Rattle.alog_sink.specs.Sinks.{Suits}
use Rattle.test_hosted.proofs.sinks.sink.Goals as goal

pub returns : goal.returns
returns g c = subst (λ n. Suits n LINE_MAX c.in-Ok.sink) c.requires c.in-Ok.ensures.suits
