-- A sink that suits the text limit does so after each turn, too.
use Rattle.std.proofs.Common.{◌≡◌, ◌<◌, ℕ, Bool, Some, List, [], ◌∷◌, length, Result, sym, subst, get_or, set}
use Rattle.std.proofs.Common.{zero, suc, cond, Option, None}
use Rattle.std.specs.Prelude.{slice_get, IfSome}
use Rattle.std.specs.Option.{option_map}
use Rattle.std.specs.List.{All}
use Rattle.std.proofs.lemmas.List.Elements.{All-nil, All-head, All-tail, All-set, All-get_or, All-map, All-append}
use Rattle.std.proofs.lemmas.Option.{get_or_from_slice_get, slice_get_within}
use Rattle.alog_msg.specs.declared.item.Item.{Item}
use Rattle.alog_msg.specs.declared.item.Item.TheVariants as item
use Rattle.alog_registry.specs.Work.{turns_of, turns_on, is_flush_due}
use Rattle.alog_registry.specs.declared.logger.Logger.{Logger}
use Rattle.alog_registry.specs.declared.logger.Spec.{Spec}
use Rattle.alog_registry.specs.declared.work.SinkDeed.{SinkDeed}
use Rattle.alog_registry.specs.declared.work.SinkDeed.TheVariants as deed
use Rattle.alog_registry.specs.declared.work.SinkTurn.{SinkTurn}
use Rattle.alog_sink.specs.Files.{Files}
use Rattle.alog_sink.specs.Lines.{FaceSuits}
use Rattle.alog_sink.specs.Sinks.{SinkFlushes, Suits}
use Rattle.alog_sink.specs.declared.leaf.SinkError.{SinkError}
use Rattle.alog_sink.specs.declared.sink.Sink.{Sink}
use Rattle.alog_sink.proofs.SharedKeeps.{flush_keeps, take_keeps}
use Rattle.alog_system.specs.Outputs.{AllSuit, DoesTurn}
use Rattle.alog_system.specs.Roster.{RosterView, logger_of, turns_by, turns_for}
use Rattle.alog_system.specs.Within.{LoggerFits}
use Rattle.alog_system.specs.declared.stepped.Turn.{Turn}
use Rattle.alog_policy.proofs.SharedStepKinds.{either}

module _ (limit capacity : ℕ) where
  module _ {S : Type 0} (tells : Bool) (files : S → Files) (failures : S → ℕ) where
    flushes : (o : Sink S) (answer : Result Unit SinkError) (n : Sink S) → SinkFlushes tells files failures o answer n
        → Suits limit capacity o → Suits limit capacity n
    flushes o answer n does suits = flush_keeps (FaceSuits limit capacity) tells files failures o n answer does suits

    abbrev IsSuited : Sink S → Type 0
    IsSuited s = Suits limit capacity s

    -- after a turn
    pub suits_after : (t : SinkTurn) (d : SinkDeed) (i : Item) (o : Sink S) (told : Turn) (n : Sink S)
        → DoesTurn tells files failures t d i o told n → Suits limit capacity o → Suits limit capacity n
    suits_after t deed.Take (item.Text m) o told n h s = take_keeps (FaceSuits limit capacity) tells files failures o n m h.0 h.1 s
    suits_after t deed.Take (item.Flush k) o told n h s = flushes o h.0 n h.1 s
    suits_after t deed.Take item.Stop o told n h s = flushes o h.0 n h.1 s
    suits_after t deed.Flush i o told n h s = flushes o h.0 n h.1 s

    -- and of all sinks, where one of them had a turn
    pub all_suit : {all : List (Sink S)} (t : SinkTurn) (i : Item) {o : Sink S} (told : Turn) (n : Sink S)
        → AllSuit limit capacity all → o ≡ get_or all t.sink o → t.sink < length all → DoesTurn tells files failures t t.deed i o told n
        → AllSuit limit capacity (set all t.sink n)
    all_suit {all} t i {o} told n a is lt h =
        let old : Suits limit capacity o = subst IsSuited (sym is) (All-get_or IsSuited all t.sink o lt a.each) in
        let new = suits_after t t.deed i o told n h old in
        record { least = a.least; most = a.most; each = All-set IsSuited all t.sink n new a.each }

-- The turns of a work are on the sinks of its logger.
turns_in : (count : ℕ) (spec : Spec) (ticket : ℕ) (d : SinkDeed) → All (λ s. s < count) spec.sinks.items
    → All (λ (t : SinkTurn). t.sink < count) (turns_on spec.sinks.items ticket d)
turns_in count spec ticket d all = All-map (λ (t : SinkTurn). t.sink < count) _ spec.sinks.items all

turns_known : (count : ℕ) (spec : Spec) (ticket : ℕ) (i : Item) → All (λ s. s < count) spec.sinks.items
    → All (λ (t : SinkTurn). t.sink < count) (turns_of spec ticket i)
turns_known count spec ticket (item.Text m) all =
    let P : SinkTurn → Type 0 = λ t. t.sink < count in
    let flush = turns_on spec.sinks.items ticket deed.Flush in
    All-append P (turns_on spec.sinks.items ticket deed.Take) (cond (is_flush_due spec m.level) flush []) (turns_in count spec ticket deed.Take all)
    (either (All P) (is_flush_due spec m.level) flush [] (turns_in count spec ticket deed.Flush all) (All-nil P))
turns_known count spec ticket (item.Flush n) all = turns_in count spec ticket deed.Flush all
turns_known count spec ticket item.Stop all = All-nil (λ (t : SinkTurn). t.sink < count)

spec_in : (P : Logger → Type 0) (loggers : List Logger) (n : ℕ) → All P loggers → IfSome (slice_get loggers n) P
spec_in P [] n all = tt
spec_in P (l ∷ ls) zero all = All-head P l ls all
spec_in P (l ∷ ls) (suc n) all = spec_in P ls n (All-tail P l ls all)

turn_at : {X : Type 0} (P : X → Type 0) (xs : List X) (n : ℕ) (x : X) → All P xs → slice_get xs n ≡ Some x → P x
turn_at P xs n x all e = subst P (get_or_from_slice_get xs n x x e) (All-get_or P xs n x (slice_get_within xs n x e) all)

turns_by_known : (count : ℕ) (l : Option Logger) (ticket : ℕ) (i : Item) → IfSome l (LoggerFits count)
    → All (λ (t : SinkTurn). t.sink < count) (turns_by (option_map (λ (l : Logger). l.spec) l) ticket i)
turns_by_known count None ticket i h = All-nil (λ (t : SinkTurn). t.sink < count)
turns_by_known count (Some l) ticket i h = turns_known count l.spec ticket i h.sinks

-- the sink of a turn is there
pub sink_there : (count : ℕ) (r : RosterView) (ticket : ℕ) (i : Item) (k : ℕ) (t : SinkTurn) → All (LoggerFits count) r.loggers
    → slice_get (turns_for r ticket i) k ≡ Some t → t.sink < count
sink_there count r ticket i k t all e =
    let n = logger_of i in
    turn_at (λ (t : SinkTurn). t.sink < count) (turns_for r ticket i) k t
    (turns_by_known count (slice_get r.loggers n) ticket i (spec_in (LoggerFits count) r.loggers n all)) e
