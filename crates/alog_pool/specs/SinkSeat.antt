-- A place at a sink under its lock.
use Rattle.std.specs.Prelude.{◌≡◌, ℕ, ◌+◌, ◌-◌, ◌^◌, ◌≤◌, ◌||◌, Bool, true, false, List, [], ◌∷◌, length, map, min, Result, Ok, Err}
use Rattle.std.specs.List.{AllByRecursion}
use Rattle.alog_format.specs.Buffer.{Buffer}
use Rattle.alog_lane.specs.Calls.{LaneId, SeatView, TakesTurn}
use Rattle.alog_lane.specs.Seats.{Entry, Member}
use Rattle.alog_lane.specs.Turns.{Turned}
use Rattle.alog_msg.specs.declared.item.Item.{Item}
use Rattle.alog_msg.specs.declared.item.Item.TheVariants.{Text, Flush, Stop}
use Rattle.alog_sink.specs.Files.{Files}
use Rattle.alog_sink.specs.Sinks.{Turns}
use Rattle.alog_sink.specs.declared.leaf.SinkError.{SinkError}
use Rattle.alog_sink.specs.declared.leaf.Taken.TheVariants.{Below, Written}
use Rattle.alog_sink.specs.declared.sink.Sink.{Sink}
use Rattle.alog_sink.specs.declared.sink.Sink.TheVariants.{Fan, Leaf}
use Rattle.alog_sink.specs.declared.turn.Served.{Served}
use Rattle.alog_sink.specs.declared.turn.Served.TheVariants.{Flushed, Taken as Took}

-- what a turn on a sink answers
abbrev pub Answer : Type 0
Answer = Result Served SinkError

-- What is seen of a place: the lane, the seat, the faults that were answered, and the most bytes of a text.
pub record SinkSeatView (S : Type 0) : Type 0 where
  pub lane : LaneId (Sink S)
  pub seat : SeatView (Sink S) Item Buffer Answer
  pub faults : ℕ
  pub limit : ℕ

-- What stays of a place while turns are made: the lane, the text limit, the seat's parts and what was joined into it.
pub record Place (S : Type 0) : Type 0 where
  pub lane : LaneId (Sink S)
  pub limit : ℕ
  pub parts : ℕ
  pub joined : List (Member (Turned Item Buffer Answer))

abbrev pub place_of : {S : Type 0} → SinkSeatView S → Place S
place_of b = record { lane = b.lane; limit = b.limit; parts = b.seat.known.parts; joined = b.seat.known.joined }

abbrev pub places_of : {S : Type 0} → List (SinkSeatView S) → List (Place S)
places_of {S} bs = map (λ (b : SinkSeatView S). place_of b) bs

-- a turn may be made at this item
abbrev pub IsServable : ℕ → Item → Type 0
IsServable limit (Text m) = length m.text ≤ limit
IsServable limit (Flush n) = Unit {0}
IsServable limit Stop = ⊥

-- at each of these places
abbrev pub AreServable : {S : Type 0} → Item → List (Place S) → Type 0
AreServable {S} item places = AllByRecursion (λ (p : Place S). IsServable p.limit item) places

-- one for a fault
abbrev pub fault_in : Answer → ℕ
fault_in (Ok served) = 0
fault_in (Err e) = 1

abbrev pub is_fan : {S : Type 0} → Sink S → Bool
is_fan (Leaf l) = false
is_fan (Fan f) = true

-- The turn on a fan, or on another sink, wrote a line, or may have: where a fan answers by a fault, others of its members may have written.
abbrev pub may_write : Bool → Answer → Bool
may_write fan (Ok (Took Written)) = true
may_write fan (Ok (Took Below)) = false
may_write fan (Ok Flushed) = false
may_write fan (Err e) = fan

-- whether a line may be unflushed after a turn at this item, which was answered so
abbrev pub unflushed_by : Bool → Bool → Item → Answer → Bool
unflushed_by fan before (Text m) reply = before || may_write fan reply
unflushed_by fan before (Flush n) reply = false
unflushed_by fan before Stop reply = false

-- whether one may be after these turns
abbrev pub unflushed_after : Bool → Bool → List (Entry (Turned Item Buffer Answer)) → Bool
unflushed_after fan before [] = before
unflushed_after fan before (x ∷ h) = unflushed_after fan (unflushed_by fan before x.deed.item x.deed.reply) h

-- The seat wrote a line, or may have, behind which it made no flush.
abbrev pub is_unflushed : {S : Type 0} → SinkSeatView S → Bool
is_unflushed b = unflushed_after (is_fan b.lane.first) false b.seat.known.own

-- each place has flushed what it wrote
abbrev pub AreFlushed : {S : Type 0} → List (SinkSeatView S) → Type 0
AreFlushed {S} bs = AllByRecursion (λ (b : SinkSeatView S). is_unflushed b ≡ false) bs

module _ {S : Type 0} (tells : Bool) (files : S → Files) (failures : S → ℕ) where
  -- The seat made one turn, of this tag, at this item. Its fault, if it was one, is counted.
  pub record Serves (old : SinkSeatView S) (tag : ℕ) (item : Item) (new : SinkSeatView S) : Type 0 where
    pub lane : new.lane ≡ old.lane
    pub limit : new.limit ≡ old.limit
    pub deed : Turned Item Buffer Answer
    pub tag_is : deed.tag ≡ tag
    pub item_is : deed.item ≡ item
    pub index : ℕ
    pub turn : TakesTurn (Turns tells files failures) old.lane.first old.seat.known new.seat.known deed index
    pub faults : new.faults ≡ min (old.faults + fault_in deed.reply) (2 ^ 64 - 1)
