use Rattle.std.proofs.Common.{append-nil, [], refl, sym}
use Rattle.alog_core.specs.Accounts.{takes}
use Rattle.alog_pool.proofs.SharedDeeds.{have_none}
use Rattle.alog_pool.proofs.worker.Worker.work.Goals as goal

pub loop-init : goal.loop-init
loop-init g c = record {
  at_work = c.requires;
  turns = record {
    gots = [];
    next = refl;
    took = sym (append-nil (takes c.args.self.pass.known.own));
    turns = have_none 0 c.args.self.sink_seats.items;
  };
}

pub goes_on-requires : goal.goes_on-requires
goes_on-requires g c = (c.args.self, c.loop.invariant.at_work)

pub returns-then-not-goes_on : goal.returns-then-not-goes_on
returns-then-not-goes_on g c = c.if-not-goes_on.ensures c.args.self c.loop.invariant.at_work c.loop.invariant.turns

pub loop-preserved : goal.loop-preserved
loop-preserved g c =
    let on = c.if-not-goes_on.ensures c.args.self c.loop.invariant.at_work c.loop.invariant.turns in
    record { at_work = on.0; turns = on.1 }
