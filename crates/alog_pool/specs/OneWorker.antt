-- A pool of one worker: each sink was given its turns in the order of their tickets, and holds their lines.
use Rattle.std.specs.Prelude.{◌≡◌, ℕ, ◌+◌, ◌-◌, ◌^◌, Bool, true, List, [], ◌∷◌, ◌++◌, length, map, min}
use Rattle.std.specs.List.{sum_by}
use Rattle.alog_core.specs.Accounts.{claimed, taken, weigh}
use Rattle.alog_format.specs.Buffer.{Buffer}
use Rattle.alog_lane.specs.Calls.{LaneId}
use Rattle.alog_lane.specs.Seats.{Entry}
use Rattle.alog_lane.specs.Turns.{Turned, Leads}
use Rattle.alog_msg.specs.declared.item.Item.{Item}
use Rattle.alog_msg.specs.declared.item.Item.TheVariants.{Stop}
use Rattle.alog_msg.specs.declared.message.Message.{Message}
use Rattle.alog_pool.specs.SinkSeat.{Answer}
use Rattle.alog_pool.specs.Deeds.{Due, HasDone, all_dues, dues_on, faults_in}
use Rattle.alog_pool.specs.Gaps.{with_gaps}
use Rattle.alog_pool.specs.Pool.{PoolView, lanes_of}
use Rattle.alog_pool.specs.Posted.{AreInARow, ArePosted, tickets_of}
use Rattle.alog_pool.specs.Producer.{ProducerView}
use Rattle.alog_pool.specs.Report.{Ends, IsRising}
use Rattle.alog_pool.specs.declared.report.Report.{Report}
use Rattle.alog_sink.specs.Files.{Files}
use Rattle.alog_sink.specs.LaneRuns.{AllStand, Stood, with_text}
use Rattle.alog_sink.specs.Lines.{admitted}
use Rattle.alog_sink.specs.Sinks.{Turns}
use Rattle.alog_sink.specs.Turn.{StandsFor}
use Rattle.alog_sink.specs.declared.sink.Sink.{Sink}
use Rattle.alog_sink.specs.declared.sink.Sink.TheVariants.{Fan, Leaf}

-- the messages of the texts among these turns, in order
abbrev pub texts_in : List (ℕ × Item) → List Message
texts_in [] = []
texts_in (t ∷ turns) = with_text t.1 (texts_in turns)

module _ {S : Type 0} (files : S → Files) where
  -- Whatever files and messages the first sink stood for, the last one stands for these and then for those messages: so its files hold
  -- exactly their lines, in this order. Of a fan so each member, for those that pass the fan's level.
  abbrev pub HoldsMore : Sink S → Sink S → List Message → Type 0
  HoldsMore (Leaf old) (Leaf new) ms = (opening : Files) (before : List Message) → StandsFor files old opening before
      → StandsFor files new opening (before ++ ms)
  HoldsMore (Fan old) (Fan new) ms = (stood : List Stood) → AllStand files old.members stood
      → AllStand files new.members (map (λ (s : Stood). (s.0, s.1 ++ admitted old.level ms)) stood)
  HoldsMore _ _ ms = ⊥

module _ {S : Type 0} (tells : Bool) (files : S → Files) (failures : S → ℕ) where
  -- Turns of exactly these tags and items, in this order, and beside them workers' own flushes and nothing else, led from one sink to the
  -- other, and so many were answered by a fault, or at least 2^64 - 1. Where none was, over a store that tells its bytes, the sink holds
  -- the lines of their texts.
  pub record IsWritten (first last : Sink S) (faults : ℕ) (turns : List (ℕ × Item)) : Type 0 where
    pub history : List (Entry (Turned Item Buffer Answer))
    pub done : HasDone history turns
    pub leads : Leads (Turns tells files failures) first history last
    pub faults_are : faults ≡ min (faults_in history) (2 ^ 64 - 1)
    pub holds : tells ≡ true → faults ≡ 0 → HoldsMore files first last (texts_in turns)

  -- at each sink, of which the first has this number, the turns that are due there
  abbrev pub AreWritten : ℕ → List (LaneId (Sink S)) → List (Sink S) → List ℕ → List Due → Type 0
  AreWritten s [] [] [] dues = Unit {0}
  AreWritten s (l ∷ ls) (k ∷ ks) (f ∷ fs) dues = IsWritten l.first k f (dues_on s dues) × AreWritten (s + 1) ls ks fs dues
  AreWritten s _ _ _ dues = ⊥

  -- There are items with rising tickets, which are exactly the texts and flushes that the producers put in, under all tickets in a row,
  -- and did not take out themselves, and by whatever weight they weigh as much; and each sink was given exactly the turns that are due
  -- for them, in their order, and, where the pool tells gaps, for the texts that say how many are missing where, and holds their lines.
  -- Beside these turns a sink may have been given the worker's own flushes, which write no line and are due for no item.
  pub record WritesInOrder (pool : PoolView S) (producers : List ProducerView) (r : Report S) : Type 0 where
    pub items : List (ℕ × Item)
    pub rise : IsRising (tickets_of items)
    pub are : ArePosted producers items
    pub row : AreInARow pool.shared.ring.ring.first producers
    pub posted : (w : ℕ → Item → ℕ) → ((t : ℕ) → w t Stop ≡ 0)
        → sum_by (λ (p : ProducerView). claimed w p.pass.known.own) producers
        ≡ sum_by (λ (p : ProducerView). taken w p.pass.known.own) producers + weigh w items
    pub written : AreWritten 0 (lanes_of pool.sink_seats) r.sinks.items r.faults.items
        (all_dues pool.shared.loggers (with_gaps pool.shared.gaps items))

  abbrev pub OneWorkerWritesInOrder : Type 0
  OneWorkerWritesInOrder = (pool : PoolView S) (producers : List ProducerView) (r : Report S)
      → Ends tells files failures pool producers r → length pool.crew ≡ 1 → WritesInOrder pool producers r
