-- The seats of passes at the table, as they are cut, joined and shown to each other.
use Rattle.std.specs.Prelude.{◌≡◌, ℕ, ◌≤◌, ◌⊎◌, List, []}
use Rattle.std.specs.List.{AllByRecursion}
use Rattle.atomic_table.specs.Table.{Me}
use Rattle.alog_core.specs.History.{Entry, IsLegal, own_of}
use Rattle.alog_ring.specs.declared.TheConstants.{ALL_PARTS}
use Rattle.alog_ring.specs.Known.{Member, Known, members_of, AreDistinct}
use Rattle.alog_ring.specs.Made.{AreExact, IsFaithful, Made}
use Rattle.alog_ring.specs.Share.{with_fewer, apart_from, having_seen, with_other, IsLonger, IsWhole}
use Rattle.alog_ring.specs.Sight.{Idle, Fresh, Joined, Lent, Gone, Sight}

module _ {T N : Type 0} where
  -- what a seat knows that has nothing any more
  abbrev pub nothing_known : Known T N
  nothing_known = record { places = 0; first = 0; actor = 0; parts = 0; seen = []; own = []; joined = [] }

  -- the seats of a split, of a note that is lent, of a join, and of the note's return
  abbrev pub kept_part : ℕ → Sight T N → Sight T N
  kept_part parts v = record { stage = Idle; known = with_fewer v.known parts }

  abbrev pub given_part : ℕ → Sight T N → Sight T N
  given_part parts v = record { stage = Fresh; known = apart_from v.known 0 parts }

  abbrev pub lent_note : Sight T N → Sight T N
  lent_note v = record { stage = Lent; known = apart_from v.known 0 0 }

  abbrev pub taking_in : Sight T N → Sight T N → Sight T N
  taking_in v w = record { stage = Joined w.known.seen; known = with_other v.known w.known }

  abbrev pub reading_note : Sight T N → Sight T N → Sight T N
  reading_note v w = record { stage = Joined w.known.seen; known = v.known }

  abbrev pub gone : Sight T N
  gone = record { stage = Gone; known = nothing_known }

  -- a member is exact in one of two histories
  abbrev pub IsExactIn : List (Entry T N) → List (Entry T N) → Member T N → Type 0
  IsExactIn s h c = (c.own ≡ own_of c.actor s) ⊎ (c.own ≡ own_of c.actor h)

  -- the pass by another number
  abbrev pub renamed : Known T N → ℕ → Known T N
  renamed k a =
      record {
        places = k.places;
        first = k.first;
        actor = a;
        parts = k.parts;
        seen = k.seen;
        own = k.own;
        joined = k.joined;
      }

module _ {S T N : Type 0} where
  -- a pass that was split off learns its number, by which it has made nothing yet
  abbrev pub was_named : Me S (Sight T N) → Me S (Sight T N) → Type 0
  was_named m m' =
      (a : ℕ) × (m'.0 ≡ record { stage = Idle; known = renamed m.0.known a }) × IsFaithful m'.0.known × (m'.1 ≡ m.1)

  -- a pass into which another was joined sees what both had seen
  abbrev pub saw_both : List (Entry T N) → Me S (Sight T N) → Me S (Sight T N) → Type 0
  saw_both s m m' =
      (h : List (Entry T N)) × IsLonger m.0.known.seen s h
      × (m'.0 ≡ record { stage = Idle; known = having_seen m.0.known h })
      × IsLegal m.0.known.places m.0.known.first h
      × (AllByRecursion (IsExactIn m.0.known.seen s) (members_of m.0.known) → AreExact (members_of m.0.known) h)
      × AreDistinct (members_of m.0.known) × (m.0.known.parts ≤ ALL_PARTS) × (m'.1 ≡ m.1)

  -- a look at everything
  abbrev pub saw_all : Me S (Sight T N) → Me S (Sight T N) → Type 0
  saw_all m m' =
      Made m.0.known m'.0.known [] × (m'.0.stage ≡ Idle) × (m'.1 ≡ m.1)
      × (m.0.known.parts ≡ ALL_PARTS → IsWhole m'.0.known)
