use Rattle.std.proofs.Common.{◌≡◌, false}
use Rattle.alog_pipe.proofs.Pumping.{HasPumped}
use Rattle.alog_pipe.proofs.pump.Pump.run.Given as goal
use Rattle.alog_pool.specs.Producer.{IsSame}

-- what was done so far
abbrev pub invariant-loop : goal.invariant-loop
invariant-loop g l = record {
  pumped : HasPumped l.fn.self.lines.limit (g.I.Read.remaining l.fn.input) (g.I.Read.remaining l.input) l.fn.self l.self;
  reading : l.self.lines.ended ≡ false;
  logger : l.self.log.logger ≡ l.fn.self.log.logger;
  same : IsSame l.fn.self.log.producer l.self.log.producer;
}
