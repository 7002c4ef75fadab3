-- What holds, between any two steps, of a history and of the views that all seats have of it. It is said of any deeds, and
-- of any work that a seat may be at.
use Rattle.std.specs.Prelude.{◌≡◌, ◌≢◌, ℕ, ◌<◌, Option, Some, None, List, [], ◌∷◌, length}
use Rattle.std.specs.List.{sum_by}
use mathlib.Core.Option as maybe
use mathlib.Core.List.{IsPrefix}
use lib.ListN.{get_elem?}
use Rattle.alog_lane.specs.declared.seat.TheConstants.{ALL_PARTS}
use Rattle.alog_lane.specs.Seats.{Entry, Member, Known, own_of, members_of, IsAmong, AreDistinct, AreExact}
use Rattle.alog_lane.specs.Seats.{with_fewer, apart_from, with_other, first_known}

-- Where a seat stands.
pub data Stage (D W : Type 0) : Type 0 where
  -- in no call
  Idle : Stage D W
  -- just split off: it has not learned its number
  Fresh : Stage D W
  -- another that had seen this was joined into it
  Joined : (seen : List (Entry D)) → Stage D W
  -- at work
  Working : (work : W) → Stage D W
  -- joined into another
  Gone : Stage D W

-- What a seat knows: of the thing itself, where it stands, and of the history.
pub record Sight (K D W : Type 0) : Type 0 where
  pub key : Option K
  pub stage : Stage D W
  pub known : Known D

-- the seat of this number has this view
abbrev pub IsAt : {V : Type 0} → List V → ℕ → V → Type 0
IsAt views a v = get_elem? views a ≡ maybe.some v

module _ {D W : Type 0} where
  -- the members that a seat stands for: those that it knows, one of its own number that has made nothing, or none
  abbrev pub members_by : ℕ → Known D → Stage D W → List (Member D)
  members_by a k Idle = members_of k
  members_by a k Fresh = record { seat = a; own = [] } ∷ []
  members_by a k (Joined s) = members_of k
  members_by a k (Working w) = members_of k
  members_by a k Gone = []

module _ {K D W : Type 0} where
  abbrev pub parts_of : Sight K D W → ℕ
  parts_of v = v.known.parts

  abbrev pub members_at : ℕ → Sight K D W → List (Member D)
  members_at a v = members_by a v.known v.stage

  -- The history against the views: a member is of one seat, has exactly its own entries, and whoever made an entry is one.
  pub record Agrees (key : K) (h : List (Entry D)) (views : List (Sight K D W)) : Type 0 where
    pub keyed : (a : ℕ) (v : Sight K D W) → IsAt views a v → 0 < v.known.parts → v.key ≡ Some key
    pub seen : (a : ℕ) (v : Sight K D W) → IsAt views a v → IsPrefix v.known.seen h
    pub other : (a : ℕ) (v : Sight K D W) → IsAt views a v → (s : List (Entry D)) → v.stage ≡ Joined s → IsPrefix s h
    pub exact : (a : ℕ) (v : Sight K D W) → IsAt views a v → AreExact (members_at a v) h
    pub distinct : (a : ℕ) (v : Sight K D W) → IsAt views a v → AreDistinct (members_at a v)
    pub once : (a : ℕ) (v : Sight K D W) → IsAt views a v → (b : ℕ) (w : Sight K D W) → IsAt views b w
        → (c : ℕ) → IsAmong c (members_at a v) → IsAmong c (members_at b w) → b ≡ a
    pub made : (c : ℕ) → own_of c h ≢ [] → (a : ℕ) × (v : Sight K D W) × (IsAt views a v) × IsAmong c (members_at a v)
    pub numbered : (a : ℕ) (v : Sight K D W) → IsAt views a v → (c : ℕ) → IsAmong c (members_at a v) → c < length views
    pub parted : (a : ℕ) (v : Sight K D W) → IsAt views a v → (c : ℕ) → IsAmong c (members_at a v) → 0 < v.known.parts
    pub whole : sum_by parts_of views ≡ ALL_PARTS

  -- the views of a split, of a join, and of the seat that has nothing any more
  abbrev pub kept_part : ℕ → Sight K D W → Sight K D W
  kept_part parts v = record { key = v.key; stage = Idle; known = with_fewer v.known parts }

  abbrev pub given_part : ℕ → Sight K D W → Sight K D W
  given_part parts v = record { key = v.key; stage = Fresh; known = apart_from v.known 0 parts }

  abbrev pub taking_in : Sight K D W → Sight K D W → Sight K D W
  taking_in v w = record { key = v.key; stage = Joined w.known.seen; known = with_other v.known w.known }

  abbrev pub gone : Sight K D W
  gone = record { key = None; stage = Gone; known = record { seat = 0; parts = 0; seen = []; own = []; joined = [] } }

  abbrev pub first_sight : Option K → Sight K D W
  first_sight key = record { key = key; stage = Idle; known = first_known }
