-- What the sinks of a hosted pool hold at its end.
use Rattle.std.specs.Prelude.{◌≡◌, ℕ, Bool, List, ◌∷◌, ◌++◌, map}
use Rattle.alog_core.specs.Accounts.{handed_out, takes}
use Rattle.alog_hosted.specs.Ends.{Disbands, all_owed}
use Rattle.alog_hosted.specs.Host.{HostView}
use Rattle.alog_hosted.specs.Owed.{OwesLast}
use Rattle.alog_hosted.specs.Workers.{WorkerView}
use Rattle.alog_msg.specs.declared.item.Item.{Item}
use Rattle.alog_pool.specs.Deeds.{Due, all_dues}
use Rattle.alog_pool.specs.Places.{Each2}
use Rattle.alog_pool.specs.Posted.{AreInARow, ArePosted, works_in}
use Rattle.alog_pool.specs.Producer.{ProducerView}
use Rattle.alog_pool.specs.Report.{IsRising}
use Rattle.alog_pool.specs.Workers.{AreAllWritten, together}
use Rattle.alog_pool.specs.declared.report.Report.{Report}
use Rattle.alog_registry.specs.declared.logger.Logger.{Logger}
use Rattle.alog_sink.specs.Files.{Files}

-- the worker made these turns: what it took under rising tickets made them due, but for those that it owes of the item that it took last
abbrev pub HasMadeOf : {S : Type 0} → List Logger → WorkerView S → List Due → Type 0
HasMadeOf loggers w made = IsRising (handed_out w.pass.known.own) × (all_dues loggers (takes w.pass.known.own) ≡ made ++ w.owed)
    × OwesLast loggers (takes w.pass.known.own) w.owed

-- the texts and flushes that the worker took
abbrev pub works_of : {S : Type 0} → WorkerView S → List (ℕ × Item)
works_of w = works_in (takes w.pass.known.own)

module _ {S : Type 0} (tells : Bool) (files : S → Files) (failures : S → ℕ) where
  -- What the workers took and what was left are exactly the texts and flushes that the producers put in, under all tickets in a row, and that none of
  -- them overran, each once.
  -- Each sink was given exactly the turns that the workers made, each worker's in the order of its tickets, and those that the pool made at its
  -- end, which the workers owed or which are due for what was left, in the order of the tickets of that; merged in the order in which the sink's
  -- lock was got. Where none of them met a fault, and the store tells its files, it holds their lines.
  pub record AllIsWritten (host : HostView S) (producers : List ProducerView) (workers : List (WorkerView S)) (r : Report S) : Type 0 where
    pub ends : Disbands tells files failures host producers workers r
    pub posted : ArePosted producers (together (works_in ends.left ∷ map (λ (w : WorkerView S). works_of w) workers))
    pub row : AreInARow host.hosted.shared.ring.ring.first producers
    pub made : List (List Due)
    pub each : Each2 (HasMadeOf host.hosted.shared.loggers) workers made
    pub written : AreAllWritten tells files failures 0 host.hosted.lanes r.sinks.items r.faults.items
        ((all_owed workers ++ all_dues host.hosted.shared.loggers ends.left) ∷ made)

  abbrev pub HostedPoolsWriteAll : Type 0
  HostedPoolsWriteAll = (host : HostView S) (producers : List ProducerView) (workers : List (WorkerView S)) (r : Report S)
      → Disbands tells files failures host producers workers r → AllIsWritten host producers workers r
