-- Seats: what each user of a shared thing knows of its one history. It has seen a beginning of it, and knows which
-- entries in it are its own: exactly those that it made.
use Rattle.std.specs.Prelude.{◌≡◌, ℕ, ◌+◌, ◌-◌, ◌⊎◌, ◌==◌, if◌then◌else◌, List, [], ◌∷◌, ◌++◌}
use Rattle.std.specs.List.{AllByRecursion}
use mathlib.Core.List.{IsPrefix}
use Rattle.alog_lane.specs.declared.seat.TheConstants.{ALL_PARTS}

-- a deed, and the seat that did it
pub record Entry (D : Type 0) : Type 0 where
  pub seat : ℕ
  pub deed : D

-- a seat's own entries of a history
abbrev pub own_of : {D : Type 0} → ℕ → List (Entry D) → List (Entry D)
own_of a [] = []
own_of a (x ∷ h) = if x.seat == a then x ∷ own_of a h else own_of a h

-- a seat by its number, with its entries
pub record Member (D : Type 0) : Type 0 where
  pub seat : ℕ
  pub own : List (Entry D)

-- What a seat knows: its number, its parts of the right to know the whole, the history that it has seen, its own entries
-- in it, and those of the seats that were joined into it.
pub record Known (D : Type 0) : Type 0 where
  pub seat : ℕ
  pub parts : ℕ
  pub seen : List (Entry D)
  pub own : List (Entry D)
  pub joined : List (Member D)

-- what the first seat knows
abbrev pub first_known : {D : Type 0} → Known D
first_known = record { seat = 0; parts = ALL_PARTS; seen = []; own = []; joined = [] }

-- the seat, and those that were joined into it
abbrev pub members_of : {D : Type 0} → Known D → List (Member D)
members_of k = record { seat = k.seat; own = k.own } ∷ k.joined

-- the seat of this number is one of them
abbrev pub IsAmong : {D : Type 0} → ℕ → List (Member D) → Type 0
IsAmong a [] = ⊥
IsAmong a (c ∷ cs) = (a ≡ c.seat) ⊎ IsAmong a cs

-- no seat is one of them twice
abbrev pub AreDistinct : {D : Type 0} → List (Member D) → Type 0
AreDistinct [] = Unit {0}
AreDistinct (c ∷ cs) = ¬ IsAmong c.seat cs × AreDistinct cs

module _ {D : Type 0} where
  -- each has exactly its own entries of the history
  abbrev pub AreExact : List (Member D) → List (Entry D) → Type 0
  AreExact members h = AllByRecursion (λ (c : Member D). c.own ≡ own_of c.seat h) members

  -- The seat's own entries are exactly those that it made in what it has seen, and so are those of each seat that was
  -- joined into it, of which none is counted twice.
  pub record IsFaithful (k : Known D) : Type 0 where
    pub own : k.own ≡ own_of k.seat k.seen
    pub joined : AreExact k.joined k.seen
    pub distinct : AreDistinct (members_of k)

  -- The seat has seen at least what it had seen, and made exactly these entries.
  pub record Made (old new : Known D) (made : List (Entry D)) : Type 0 where
    pub seat : new.seat ≡ old.seat
    pub parts : new.parts ≡ old.parts
    pub joined : new.joined ≡ old.joined
    pub seen : IsPrefix old.seen new.seen
    pub own : new.own ≡ old.own ++ made
    pub faithful : IsFaithful new

  -- what the seat has seen is everything: each entry is its own or one of a seat that was joined into it
  abbrev pub IsWhole : Known D → Type 0
  IsWhole k = AllByRecursion (λ (x : Entry D). IsAmong x.seat (members_of k)) k.seen

  -- the seat without so many of its parts
  abbrev pub with_fewer : Known D → ℕ → Known D
  with_fewer k parts = record { seat = k.seat; parts = k.parts - parts; seen = k.seen; own = k.own; joined = k.joined }

  -- a new seat of so many parts, which has seen the same and made nothing
  abbrev pub apart_from : Known D → ℕ → ℕ → Known D
  apart_from k seat parts = record { seat = seat; parts = parts; seen = k.seen; own = []; joined = [] }

  -- the seat when it has seen this
  abbrev pub having_seen : Known D → List (Entry D) → Known D
  having_seen k h = record { seat = k.seat; parts = k.parts; seen = h; own = k.own; joined = k.joined }

  -- the seat with the parts and the members of another
  abbrev pub with_other : Known D → Known D → Known D
  with_other k l = record { seat = k.seat; parts = k.parts + l.parts; seen = k.seen; own = k.own; joined = k.joined ++ members_of l }

  -- the longer of two histories, which the other begins
  pub record IsLonger (s h longer : List (Entry D)) : Type 0 where
    pub one : (longer ≡ s) ⊎ (longer ≡ h)
    pub first : IsPrefix s longer
    pub second : IsPrefix h longer

  -- A split: the seat keeps its other parts, and the new one has seen the same and made nothing.
  pub record IsSplit (old new given : Known D) (parts : ℕ) : Type 0 where
    pub kept : new ≡ with_fewer old parts
    pub seat : ℕ
    pub new_seat : given ≡ apart_from old seat parts
    pub faithful : IsFaithful given

  -- A join: the seat has the parts and the members of both, and has seen the longer of both histories.
  pub record IsJoined (old other new : Known D) : Type 0 where
    pub seen : List (Entry D)
    pub longer : IsLonger old.seen other.seen seen
    pub known : new ≡ having_seen (with_other old other) seen
    pub faithful : IsFaithful new
