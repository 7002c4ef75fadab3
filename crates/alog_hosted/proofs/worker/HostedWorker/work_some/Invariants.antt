use Rattle.std.specs.Prelude.{◌≡◌, ◌⊎◌}
use Rattle.alog_hosted.specs.Workers.{HasEnded, IsSameWorker}
use Rattle.alog_hosted.proofs.worker.HostedWorker.work_some.Given as goal

abbrev pub invariant-loop-items : goal.invariant-loop-items
invariant-loop-items g l = record {
  same : IsSameWorker l.initial.self l.self;
  ended : HasEnded l.initial.self l.self l.items;
  whole : (l.self ≡ l.initial.self) ⊎ (l.self.half ≡ 0);
}
