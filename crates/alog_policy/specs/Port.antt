-- A port: a pass of a ring and a seat of a loss book, by which posts are made on a running ring. What it did, and what a post
-- on it leaves.
use Rattle.std.specs.Prelude.{◌≡◌, ◌≤◌, ◌⊎◌, ℕ, List, [], ◌∷◌, ◌++◌}
use Rattle.std.specs.List.{AllByRecursion}
use Rattle.alog_core.specs.Queue.{Event, Claim, Write, Grab, Take, Full, Front, Empty, Idle, PushBusy, PopBusy, Spent}
use Rattle.alog_ring.specs.Known.{Known, IsPassOf, PassView}
use Rattle.alog_ring.specs.Kinds.{no_note}
use Rattle.alog_ring.specs.Made.{Made, EndsWith, entry, Adds, next_seen, front_seen}
use Rattle.alog_lane.specs.Seats as lane
use Rattle.alog_policy.specs.BookAdds.{Add, Overran, Discarded, items_in, posts_in}
use Rattle.alog_policy.specs.BookCalls.{IsSeatOf, SeatView}
use Rattle.alog_policy.specs.Rounds.{entries_by}
use Rattle.alog_policy.specs.declared.port.Port.{Port}

-- the pass made an entry of this event and nothing else, and what it has seen ends with it
abbrev pub AnswersOne : {T N : Type 0} → Known T N → Known T N → Event T → Type 0
AnswersOne {T} {N} old new e = (note : N) × Adds note old new e

-- the pass made an entry of each of these two events and nothing else, and what it has seen ends with the second
abbrev pub AnswersBoth : {T N : Type 0} → Known T N → Known T N → Event T → Event T → Type 0
AnswersBoth {T} {N} old new d e = (first second : N)
    × (Made old new (entry first old d ∷ entry second old e ∷ []) × EndsWith new (entry second old e))

-- a refusal tells of a ticket that was read since the pass knew this
abbrev pub IsReadSince : {T N : Type 0} → Known T N → Event T → Type 0
IsReadSince k (Claim t x) = Unit {0}
IsReadSince k (Write t) = Unit {0}
IsReadSince k (Grab t) = Unit {0}
IsReadSince k (Take t x) = Unit {0}
IsReadSince k (Full t) = next_seen k ≤ t
IsReadSince k (Front t) = front_seen k ≤ t
IsReadSince k (Empty t) = front_seen k ≤ t
IsReadSince k (Idle t) = front_seen k ≤ t
IsReadSince k (PushBusy t) = next_seen k ≤ t
IsReadSince k (PopBusy t) = front_seen k ≤ t
IsReadSince k Spent = Unit {0}

-- Rounds of a pass, one after another, that made these events: each made one or two, each refusal is of a ticket that was read since its
-- own round began, and what the pass had seen behind a round ends with the round's last event. Of notes it says nothing.
pub data Rounds {T N : Type 0} (old : Known T N) : List (Event T) → Known T N → Type 0 where
  none : Rounds old [] old
  one : {es : List (Event T)} {mid new : Known T N} (e : Event T) → Rounds old es mid → IsReadSince mid e → AnswersOne mid new e
      → Rounds old (es ++ e ∷ []) new
  two : {es : List (Event T)} {mid new : Known T N} (d e : Event T) → Rounds old es mid → IsReadSince mid d → IsReadSince mid e
      → AnswersBoth mid new d e → Rounds old (es ++ d ∷ e ∷ []) new

-- The pass made exactly these events, in this order, in rounds.
pub record PassMade {T : Type 0} (old : PassView T no_note) (es : List (Event T)) (new : PassView T no_note) : Type 0 where
  pub table : new.table ≡ old.table
  pub made : Made old.known new.known (entries_by old.known.actor es)
  pub rounds : Rounds old.known es new.known

-- an add of one item, or of one post
abbrev pub IsOneLoss : lane.Entry Add → Type 0
IsOneLoss x = (x.deed ≡ Overran 1) ⊎ (x.deed ≡ Discarded 1)

-- The seat counted exactly so many overrun items and so many discarded posts, each by an add of its own.
pub record SeatCounted (old : SeatView) (items posts : ℕ) (new : SeatView) : Type 0 where
  pub table : new.table ≡ old.table
  pub adds : List (lane.Entry Add)
  pub made : lane.Made old.known new.known adds
  pub ones : AllByRecursion IsOneLoss adds
  pub item_sum : items_in adds ≡ items
  pub post_sum : posts_in adds ≡ posts

-- the pass belongs to the ring, and the seat to the book
abbrev pub IsFit : {T L : Type 0} → Port T L → Type 0
IsFit p = IsPassOf p.ring.now p.pass.now × IsSeatOf p.book.now p.seat.now

-- The port made exactly these events, counted so many overrun items and so many discarded posts, and lends the same four parts.
-- A pass without events, and a seat without losses, is as it was.
pub record PortDid {T L : Type 0} (old : Port T L) (es : List (Event T)) (items posts : ℕ) (new : Port T L) : Type 0 where
  pub ring : new.ring ≡ old.ring
  pub book : new.book ≡ old.book
  pub pass_lent : new.pass.ghost_name ≡ old.pass.ghost_name
  pub seat_lent : new.seat.ghost_name ≡ old.seat.ghost_name
  pub pass : ((es ≡ []) × (new.pass.now ≡ old.pass.now)) ⊎ PassMade old.pass.now es new.pass.now
  pub seat : ((items ≡ 0) × (posts ≡ 0) × (new.seat.now ≡ old.seat.now)) ⊎ SeatCounted old.seat.now items posts new.seat.now
