-- Pools, producers and workers that own their share of a pool.
use Rattle.std.specs.Prelude.{◌≡◌, ◌≤◌, ℕ, Bool, List, min, Option}
use Rattle.std.specs.List.{AllByRecursion}
use Rattle.alog_hosted.specs.Ends.{Disbands}
use Rattle.alog_hosted.specs.Host.{HostView, Hires, Makes, Opens}
use Rattle.alog_hosted.specs.Lent.{HostedView, IsProducerOf}
use Rattle.alog_hosted.specs.Workers.{HasEnded, IsPause, IsSameWorker, IsWorkerOf, WorkerView}
use Rattle.alog_hosted.specs.declared.worker.Work.{Work}
use Rattle.alog_msg.specs.declared.source.SourceRef.{SourceRef}
use Rattle.alog_owned.specs.declared.error.LogError.{LogError}
use Rattle.alog_owned.specs.declared.error.LogError.TheVariants.{NoLogger, Refused}
use Rattle.alog_pool.specs.Producer.{ProducerView}
use Rattle.alog_pool.specs.declared.pool.TheConstants.{PRODUCERS_MAX}
use Rattle.alog_pool.specs.declared.report.Report.{Report}
use Rattle.alog_pool.specs.declared.setup.Setup.{Setup}
use Rattle.alog_registry.specs.Given.{IsReason}
use Rattle.alog_sink.specs.Files.{Files}

-- What is seen of a producer, of a worker, and of a pool: of which pool it is, and what is lent to it; of a pool its host, and how many producers it may
-- make.
pub record OwnedProducerView (S : Type 0) : Type 0 where
  pub hosted : HostedView S
  pub producer : ProducerView

pub record OwnedWorkerView (S : Type 0) : Type 0 where
  pub hosted : HostedView S
  pub worker : WorkerView S

pub record OwnedPoolView (S : Type 0) : Type 0 where
  pub host : HostView S
  pub most : ℕ

-- why a message was refused, where its logger is known
abbrev pub IsRefusedFor : ℕ → List ℕ → Option SourceRef → LogError → Type 0
IsRefusedFor limit text source NoLogger = Unit {0}
IsRefusedFor limit text source (Refused e) = IsReason limit text source e

module _ {S : Type 0} where
  -- A pool of this setup was opened, which may make up to so many producers.
  pub record OpensBy (setup : Setup S) (producers : ℕ) (p : OwnedPoolView S) : Type 0 where
    pub opens : Opens setup p.host.hosted p.host
    pub most_is : p.most ≡ min producers PRODUCERS_MAX

  -- A producer was made, or a worker, and it is of this pool.
  pub record MakesBy (old new : OwnedPoolView S) (p : OwnedProducerView S) : Type 0 where
    pub of : p.hosted ≡ old.host.hosted
    pub makes : Makes old.host new.host p.producer
    pub most : new.most ≡ old.most

  pub record HiresBy (old new : OwnedPoolView S) (w : OwnedWorkerView S) : Type 0 where
    pub of : w.hosted ≡ old.host.hosted
    pub hires : Hires old.host new.host w.worker
    pub most : new.most ≡ old.most

  -- A worker worked on up to so many items.
  pub record WorksBy (most : ℕ) (old : OwnedWorkerView S) (work : Work) (new : OwnedWorkerView S) : Type 0 where
    pub hosted : new.hosted ≡ old.hosted
    pub same : IsSameWorker old.worker new.worker
    pub ended : HasEnded old.worker new.worker work.items
    pub few : work.items ≤ most
    pub pause : IsPause most old.worker new.worker work.items work.pause

  -- A pool was ended, all of whose producers and workers, which are these, were given back.
  pub record EndsSo (tells : Bool) (files : S → Files) (failures : S → ℕ) (host : HostView S) (r : Report S) : Type 0 where
    pub producers : List ProducerView
    pub workers : List (WorkerView S)
    pub of : AllByRecursion (IsProducerOf host.hosted) producers × AllByRecursion (IsWorkerOf host.hosted) workers
    pub ends : Disbands tells files failures host producers workers r
