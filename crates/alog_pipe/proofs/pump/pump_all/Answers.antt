use Rattle.std.proofs.Common.{refl}
use Rattle.alog_pipe.proofs.Logging.{ready_on, same_on}
use Rattle.alog_pipe.proofs.Pumping.{all_logger}
use Rattle.alog_pipe.proofs.pump.pump_all.Goals as goal

pub finish-requires : goal.finish-requires
finish-requires g c =
    let new = c.run-fault.new.self.log in
    let ready = ready_on c.args.log new c.requires.ready (all_logger c.run-fault.ensures.pumps.logged) c.run-fault.ensures.same in
    ready.0

pub returns : goal.returns
returns g c = record {
  start = record { lines = c.args.lines; log = c.args.log; time = _; counts = c.new.result; wait = _ };
  last = c.run-fault.new.self;
  log_is = refl;
  counts_are = c.new.ensures;
  pumps = c.run-fault.ensures.pumps;
  counted_are = refl;
  time = _;
  finished = c.finish.ensures.finished;
  same = same_on c.run-fault.ensures.same c.finish.ensures.same;
}
