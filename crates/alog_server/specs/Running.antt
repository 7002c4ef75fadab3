-- A run of a server's threads.
use Rattle.std.specs.Prelude.{◌≡◌, ◌<◌, ◌⊎◌, ℕ, Bool, List, length}
use Rattle.alog_pool.specs.Pool.{PoolView}
use Rattle.alog_pool.specs.Producer.{ProducerView}
use Rattle.alog_pool.specs.Report.{Ends}
use Rattle.alog_pool.specs.declared.report.Report.{Report}
use Rattle.alog_sink.specs.Files.{Files}
use Rattle.alog_server.specs.Making.{AreOf, MakesAll}
use Rattle.alog_server.specs.declared.TheConstants.{THREADS_MAX}
use Rattle.alog_server.specs.declared.seats.Ended.{Ended}
use Rattle.alog_server.specs.declared.seats.Ended.TheVariants as ended

-- this number of threads is out of bounds
abbrev pub AreBad : ℕ → Type 0
AreBad threads = (threads < 1) ⊎ (THREADS_MAX < threads)

-- the threads did their work, to its end or not
abbrev pub HasThreads : {E : Type 0} → Ended E → Type 0
HasThreads ended.Done = Unit {0}
HasThreads (ended.Early e) = Unit {0}
HasThreads ended.OutOfMemory = ⊥

-- The pool made producers, and as many of its own are back: one for each thread, where the threads did their work.
pub record Works {S E : Type 0} (old new : PoolView S) (threads : ℕ) (back : List ProducerView) (how : Ended E) : Type 0 where
  pub begun : List ProducerView
  pub makes : MakesAll old begun new
  pub many : length back ≡ length begun
  pub own : AreOf old.shared back
  pub each : HasThreads how → length begun ≡ threads

-- The report of a run: the pool made a producer for each thread, and was ended with as many of its own.
pub record Runs {S : Type 0} (tells : Bool) (files : S → Files) (failures : S → ℕ) (start : PoolView S) (threads : ℕ) (r : Report S)
    : Type 0 where
  pub begun : List ProducerView
  pub many : length begun ≡ threads
  pub pool : PoolView S
  pub makes : MakesAll start begun pool
  pub back : List ProducerView
  pub all : length back ≡ threads
  pub own : AreOf start.shared back
  pub ends : Ends tells files failures pool back r
