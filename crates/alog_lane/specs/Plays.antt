-- What each step tells the seat that makes it.
use Rattle.std.specs.Prelude.{◌≡◌, ◌≢◌, ℕ, ◌+◌, ◌%◌, ◌^◌, ◌≤◌, Option, None, Some, List, [], ◌∷◌, ◌++◌}
use Rattle.atomic_table.specs.Table.{Me, rest}
use Rattle.alog_lane.specs.declared.seat.TheConstants.{ALL_PARTS}
use Rattle.alog_lane.specs.declared.view.LockedValue.{LockedValue}
use Rattle.alog_lane.specs.declared.view.Done.{Done}
use Rattle.alog_lane.specs.Seats.{Entry, Known, Made, IsFaithful, IsLonger, having_seen}
use Rattle.alog_lane.specs.Roster.{Stage, Idle, Working, Sight}
use Rattle.alog_lane.specs.Turns.{Turned, Turns}
use Rattle.alog_lane.specs.Rule.{LaneSight, Keeps, Reaches, index_after}

-- the view at another stage, with another knowledge
abbrev pub standing : {K D W : Type 0} → Sight K D W → Stage D W → Known D → Sight K D W
standing v stage k = record { key = v.key; stage = stage; known = k }

module _ {S K D W : Type 0} where
  -- a seat that was split off learns its number, by which it has made nothing yet
  abbrev pub was_named : Me S (Sight K D W) → Me S (Sight K D W) → Type 0
  was_named m m' =
      (a : ℕ) × (m'.0 ≡ standing m.0 Idle (record {
        seat = a;
        parts = m.0.known.parts;
        seen = m.0.known.seen;
        own = m.0.known.own;
        joined = m.0.known.joined;
      }))
      × IsFaithful m'.0.known × (m'.1 ≡ m.1)

  -- a seat into which another was joined sees what both had seen
  abbrev pub saw_both : List (Entry D) → Me S (Sight K D W) → Me S (Sight K D W) → Type 0
  saw_both s m m' =
      (h : List (Entry D)) × IsLonger m.0.known.seen s h × (m'.0 ≡ standing m.0 Idle (having_seen m.0.known h))
      × (m.0.known.parts ≤ ALL_PARTS) × IsFaithful m'.0.known × (m'.1 ≡ m.1)

module _ {T I S R : Type 0} (turns : T → S → I → R → T → S → Type 0) (may : T → I → S → Type 0) where
  -- The seat got the lock, and with it the value that the history leads to and the number of turns.
  pub record Got (m m' : Me (LockedValue T I R S) (LaneSight T I S R)) : Type 0 where
    pub first : T
    pub key : m.0.key ≡ Some first
    pub locked : LockedValue T I R S
    pub taken : m'.1 ≡ (0, locked) ∷ m.1
    pub stage : m'.0.stage ≡ Working locked.value
    pub same_key : m'.0.key ≡ m.0.key
    pub looks : Made m.0.known m'.0.known []
    pub reaches : Reaches turns may first m'.0.known.seen locked.value
    pub count : locked.turns ≡ index_after m'.0.known.seen
    pub alone : m.0.known.parts ≡ ALL_PARTS → IsFaithful m.0.known → m'.0.known.seen ≡ m.0.known.seen

  -- the exchange of the lock word: the lock was free, or nothing happened, and the seat is not the only one
  abbrev pub tried : Me (LockedValue T I R S) (LaneSight T I S R) → ℕ → Me (LockedValue T I R S) (LaneSight T I S R) → Type 0
  tried m r m' = (r ≡ 0 → Got m m') × (r ≢ 0 → (m' ≡ m) × (m.0.known.parts ≢ ALL_PARTS))

-- the last turn of what lies behind the lock
abbrev pub deed_of : {T I S R : Type 0} → Done T I R S → Turned I S R
deed_of d = record { tag = d.tag; item = d.item.value; before = d.before.value; reply = d.reply.value; after = d.after.value }

abbrev pub last_is : {T I S R : Type 0} → Option (Done T I R S) → Turned I S R → Type 0
last_is None t = ⊥
last_is (Some d) t = deed_of d ≡ t

module _ {T I S R : Type 0} (turns : T → S → I → R → T → S → Type 0) (may : T → I → S → Type 0) where
  -- The owner of the lock took this turn at the value, which now has one turn more.
  pub record Took (deed : Turned I S R) (index : ℕ) (m m' : Me (LockedValue T I R S) (LaneSight T I S R)) : Type 0 where
    pub view : m'.0 ≡ m.0
    pub old : LockedValue T I R S
    pub was : m.1 ≡ (0, old) ∷ []
    pub index_is : old.turns ≡ index
    pub new : LockedValue T I R S
    pub is : m'.1 ≡ (0, new) ∷ []
    pub count : new.turns ≡ (index + 1) % 2 ^ 64
    pub last : last_is new.last.value deed
    pub turn : Turns turns old.value deed new.value
    pub keeps : Keeps may old.value new.value

-- The seat gave the lock back after its turn, which is the next of the history.
pub record GaveBack {T I S R : Type 0} (deed : Turned I S R) (m m' : Me (LockedValue T I R S) (LaneSight T I S R)) : Type 0 where
  pub made : Made m.0.known m'.0.known (record { seat = m.0.known.seat; deed = deed } ∷ [])
  pub seen : m'.0.known.seen ≡ m.0.known.seen ++ record { seat = m.0.known.seat; deed = deed } ∷ []
  pub stage : m'.0.stage ≡ Idle
  pub same_key : m'.0.key ≡ m.0.key
  pub back : m'.1 ≡ rest m.1

-- the store of the lock word: the last turn of what lies behind the lock is the seat's
abbrev pub gave_back : {T I S R : Type 0} → Me (LockedValue T I R S) (LaneSight T I S R) → Me (LockedValue T I R S) (LaneSight T I S R) → Type 0
gave_back {T} {I} {S} {R} m m' = (c : LockedValue T I R S) (t : Turned I S R) → m.1 ≡ (0, c) ∷ rest m.1 → last_is c.last.value t → GaveBack t m m'
