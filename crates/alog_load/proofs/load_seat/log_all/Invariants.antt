use Rattle.std.proofs.Common.{◌≡◌, ◌≤◌}
use Rattle.alog_load.specs.Load.{HasLogged}
use Rattle.alog_load.proofs.load_seat.log_all.Given as goal
use Rattle.alog_pool.specs.Producer.{IsSame}

abbrev pub invariant-loop-i : goal.invariant-loop-i
invariant-loop-i g l = record {
  same : IsSame l.fn.producer l.producer;
  logged : HasLogged l.task.logger l.i l.fn.producer l.producer;
  within : l.i ≤ l.i-end;
  end : l.i-end ≡ l.fn.task.messages;
}
