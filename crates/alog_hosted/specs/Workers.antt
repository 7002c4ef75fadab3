-- A worker that is lent its pool, and what it did.
use Rattle.std.specs.Prelude.{◌≡◌, ◌⊎◌, ℕ, ◌+◌, List, [], ◌++◌, length, None}
use Rattle.std.specs.List.{AllByRecursion}
use Rattle.alog_core.specs.Accounts.{takes}
use Rattle.alog_hosted.specs.Lent.{HostedView}
use Rattle.alog_hosted.specs.declared.worker.Pause.{Pause}
use Rattle.alog_hosted.specs.declared.worker.Pause.TheVariants as pause
use Rattle.alog_msg.specs.Block.{BlockFields}
use Rattle.alog_msg.specs.declared.item.Item.{Item}
use Rattle.alog_pool.specs.Accounts.{Moved}
use Rattle.alog_pool.specs.Deeds.{Due, HaveMade, all_dues}
use Rattle.alog_pool.specs.Pool.{IsNew, lanes_of}
use Rattle.alog_pool.specs.SinkSeat.{AreFlushed, SinkSeatView, places_of}
use Rattle.alog_pool.specs.Working.{AreLimited, IsWorkOf}
use Rattle.alog_pool.specs.declared.shared.Shared.{Shared}
use Rattle.alog_registry.specs.BlockPort.{block_note}
use Rattle.alog_registry.specs.Limit.{HoldsTo}
use Rattle.alog_ring.specs.Known.{IsPassOf, Known, PassView}
use Rattle.alog_ring.specs.Refused.{PopRefusedAs}
use Rattle.alog_ring.specs.declared.pop.PopError.{PopError}
use Rattle.alog_ring.specs.declared.pop.PopError.TheVariants as pop

-- What is seen of a worker: what it shares with its pool, its pass of the ring, its place at each sink, the tickets that it noted, how many
-- texts and flushes it took, modulo 2^64, its number, how many tickets it notes at most, whether the item that it took last is half done, one
-- where it is, and which turns it owes for it.
pub record WorkerView (S : Type 0) : Type 0 where
  pub shared : Shared
  pub pass : PassView Item block_note
  pub places : List (SinkSeatView S)
  pub tickets : List ℕ
  pub handled : ℕ
  pub number : ℕ
  pub most : ℕ
  pub half : ℕ
  pub owed : List Due

-- the worker is one of this pool
pub record IsWorkerOf {S : Type 0} (hosted : HostedView S) (w : WorkerView S) : Type 0 where
  pub shared : w.shared ≡ hosted.shared
  pub lanes : lanes_of w.places ≡ hosted.lanes

-- A worker's account of its pass is one, and the turns that it made, since it began with places that were new, and behind them those that
-- it owes, are those that are due for what it took.
pub record IsWorker {S : Type 0} (shared : Shared) (pass : PassView Item block_note) (block : BlockFields) (places : List (SinkSeatView S))
    (tickets : List ℕ) (handled most : ℕ) (owed : List Due) : Type 0 where
  pub ring : IsPassOf shared.ring.ring pass
  pub work : IsWorkOf most pass.known tickets handled
  pub block_fits : HoldsTo shared.ring.ring.limit block
  pub limits : AreLimited shared.ring.ring.limit.most (places_of places)
  pub start : List (SinkSeatView S)
  pub began : AllByRecursion IsNew start
  pub same : places_of places ≡ places_of start
  pub made : List Due
  pub all : all_dues shared.loggers (takes pass.known.own) ≡ made ++ owed
  pub turns : HaveMade 0 start places made

-- it is the same worker of the same pool
pub record IsSameWorker {S : Type 0} (old new : WorkerView S) : Type 0 where
  pub shared : new.shared ≡ old.shared
  pub lanes : lanes_of new.places ≡ lanes_of old.places
  pub number : new.number ≡ old.number
  pub most : new.most ≡ old.most

-- The worker ended so many items: those that it took, and the one that was half done, but not the one that is half done now.
pub record HasEnded {S : Type 0} (old new : WorkerView S) (items : ℕ) : Type 0 where
  pub gots : List (ℕ × Item)
  pub took : Moved old.pass.known new.pass.known [] gots
  pub count : items + new.half ≡ old.half + length gots

-- Between these the worker took what it took, and then a pop of its pass was refused, for this reason.
pub record WasRefused (old new : Known Item block_note) (why : PopError) : Type 0 where
  pub gots : List (ℕ × Item)
  pub before : Known Item block_note
  pub took : Moved old before [] gots
  pub last : PopRefusedAs None before new why

-- Its last pop found nothing there, and nothing on its way; found something on its way, or another pop was faster.
abbrev pub SawIdle : Known Item block_note → Known Item block_note → Type 0
SawIdle old new = (next : ℕ) × WasRefused old new (pop.Idle next)

abbrev pub SawSome : Known Item block_note → Known Item block_note → Type 0
SawSome old new = ((next : ℕ) × WasRefused old new (pop.Empty next)) ⊎ ((seen : ℕ) × WasRefused old new (pop.Busy seen))

-- Why it stopped. Where it ended as many items as it was to, no item is half done, unless that was none and nothing happened. Where nothing was there
-- it owes no turn, and has flushed what it wrote; where a lock was held an item is half done, or nothing was there and a line is not flushed.
abbrev pub IsPause : {S : Type 0} → ℕ → WorkerView S → WorkerView S → ℕ → Pause → Type 0
IsPause most old new items pause.Done = (items ≡ most) × ((new ≡ old) ⊎ (new.half ≡ 0))
IsPause most old new items pause.Idle = SawIdle old.pass.known new.pass.known × (new.half ≡ 0) × (new.owed ≡ []) × AreFlushed new.places
IsPause most old new items pause.Soon = SawSome old.pass.known new.pass.known × (new.half ≡ 0) × (new.owed ≡ [])
IsPause most old new items pause.Held = (new.half ≡ 1) ⊎ (SawIdle old.pass.known new.pass.known × ¬ AreFlushed new.places)
