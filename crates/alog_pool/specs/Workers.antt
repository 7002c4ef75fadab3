-- A pool of any number of workers: each sink was given the turns of all workers, each worker's in the order of its tickets, and holds
-- their lines in the order in which its lock was got.
use Rattle.std.specs.Prelude.{◌≡◌, ◌⊎◌, ℕ, ◌+◌, Bool, List, [], ◌∷◌, ◌++◌, length, map, take, Vec}
use Rattle.std.specs.List.{AllByRecursion}
use Rattle.std.specs.declared.alloc.Global.{Global}
use Rattle.alog_lane.specs.Calls.{LaneId}
use Rattle.alog_msg.specs.declared.item.Item.{Item}
use Rattle.alog_pool.specs.Deeds.{Due, all_dues, dues_on}
use Rattle.alog_pool.specs.OneWorker.{IsWritten}
use Rattle.alog_pool.specs.Gaps.{with_gaps}
use Rattle.alog_pool.specs.Pool.{PoolView, lanes_of}
use Rattle.alog_pool.specs.Posted.{AreInARow, ArePosted, tickets_of}
use Rattle.alog_pool.specs.Producer.{ProducerView}
use Rattle.alog_pool.specs.Report.{Ends, IsRising}
use Rattle.alog_pool.specs.declared.report.Report.{Report}
use Rattle.alog_sink.specs.Files.{Files}
use Rattle.alog_sink.specs.declared.sink.Sink.{Sink}

-- what all of these lists hold
abbrev pub together : {A : Type 0} → List (List A) → List A
together [] = []
together (row ∷ rows) = row ++ together rows

-- x is the first of one of these lists, and without it they are those
abbrev pub IsNext : {A : Type 0} → A → List (List A) → List (List A) → Type 0
IsNext x (row ∷ rows) (rest ∷ rests) = ((row ≡ x ∷ rest) × (rows ≡ rests)) ⊎ ((row ≡ rest) × IsNext x rows rests)
IsNext x _ _ = ⊥

-- The list is these lists merged: it has all that they have, each once and nothing else, and what is of one list in that list's order.
abbrev pub IsMerged : {A : Type 0} → List A → List (List A) → Type 0
IsMerged {A} [] rows = AllByRecursion (λ (row : List A). row ≡ []) rows
IsMerged {A} (x ∷ xs) rows = (rests : List (List A)) × IsNext x rows rests × IsMerged xs rests

module _ {S : Type 0} (tells : Bool) (files : S → Files) (failures : S → ℕ) where
  -- At each sink, of which the first has this number: of each worker, of which these are the dues, the turns that are due there, merged in
  -- the order in which the sink's lock was got, led to this sink, which holds their lines.
  abbrev pub AreAllWritten : ℕ → List (LaneId (Sink S)) → List (Sink S) → List ℕ → List (List Due) → Type 0
  AreAllWritten s [] [] [] dues = Unit {0}
  AreAllWritten s (l ∷ ls) (k ∷ ks) (f ∷ fs) dues = ((turns : List (ℕ × Item)) × IsMerged turns (map (λ (ds : List Due). dues_on s ds) dues)
      × IsWritten tells files failures l.first k f turns) × AreAllWritten (s + 1) ls ks fs dues
  AreAllWritten s _ _ _ dues = ⊥

  -- Each worker, in the order of their numbers, handled some of the texts and flushes that were posted and not overrun, under rising tickets,
  -- of which the report lists the first ones; all workers together handled each of them once. Each sink was given exactly the turns that are
  -- due for them, and for what one worker told of gaps, each worker's in the order of its tickets, and holds their lines.
  -- Beside these turns a sink may have been given workers' own flushes, which write no line and are due for no item.
  pub record AllWrite (pool : PoolView S) (producers : List ProducerView) (r : Report S) : Type 0 where
    pub works : List (List (ℕ × Item))
    pub count : length works ≡ length pool.crew
    pub rise : AllByRecursion (λ (work : List (ℕ × Item)). IsRising (tickets_of work)) works
    pub listed : map (λ (v : Vec ℕ Global). v.items) r.tickets.items ≡ map (λ (work : List (ℕ × Item)). take pool.most (tickets_of work)) works
    pub posted : ArePosted producers (together works)
    pub row : AreInARow pool.shared.ring.ring.first producers
    pub written : AreAllWritten 0 (lanes_of pool.sink_seats) r.sinks.items r.faults.items
        (map (λ (work : List (ℕ × Item)). all_dues pool.shared.loggers (with_gaps pool.shared.gaps work)) works)

  abbrev pub WorkersWriteWhatWasPosted : Type 0
  WorkersWriteWhatWasPosted = (pool : PoolView S) (producers : List ProducerView) (r : Report S)
      → Ends tells files failures pool producers r → AllWrite pool producers r
