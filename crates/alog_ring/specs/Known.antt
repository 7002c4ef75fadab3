-- What a pass knows of its ring: the history that it has seen, and its own entries in it.
use Rattle.std.specs.Prelude.{◌≡◌, ℕ, ◌⊎◌, List, [], ◌∷◌}
use Rattle.atomic_table.specs.Seated.{TableId}
use Rattle.alog_core.specs.History.{Entry}
use Rattle.alog_ring.specs.declared.TheConstants.{ALL_PARTS}

-- an actor, and its own entries
pub record Member (T N : Type 0) : Type 0 where
  pub actor : ℕ
  pub own : List (Entry T N)

-- A pass: its ring's number of places and first ticket, its actor and its parts, the history that it has seen, its own
-- entries in it, and those of the passes that were joined into it, which are no longer at work.
pub record Known (T N : Type 0) : Type 0 where
  pub places : ℕ
  pub first : ℕ
  pub actor : ℕ
  pub parts : ℕ
  pub seen : List (Entry T N)
  pub own : List (Entry T N)
  pub joined : List (Member T N)

-- the pass itself, and those that were joined into it
abbrev pub members_of : {T N : Type 0} → Known T N → List (Member T N)
members_of k = record { actor = k.actor; own = k.own } ∷ k.joined

-- the actor is one of these members
abbrev pub IsAmong : {T N : Type 0} → ℕ → List (Member T N) → Type 0
IsAmong a [] = ⊥
IsAmong a (c ∷ cs) = (a ≡ c.actor) ⊎ IsAmong a cs

-- no actor is two of these members
abbrev pub AreDistinct : {T N : Type 0} → List (Member T N) → Type 0
AreDistinct [] = Unit {0}
AreDistinct (c ∷ cs) = ¬ IsAmong c.actor cs × AreDistinct cs

-- Which ring it is: its table, its number of places, its first ticket, and what its values keep to.
pub record RingId (L : Type 0) : Type 0 where
  pub table : TableId
  pub places : ℕ
  pub first : ℕ
  pub limit : L

-- what clauses see of a pass
pub record PassView (T N : Type 0) : Type 0 where
  pub table : TableId
  pub known : Known T N

-- the pass belongs to the ring
pub record IsPassOf {T N L : Type 0} (r : RingId L) (p : PassView T N) : Type 0 where
  pub table : p.table ≡ r.table
  pub places : p.known.places ≡ r.places
  pub first : p.known.first ≡ r.first

-- what the first pass of a ring knows: it has all parts, and has seen nothing
abbrev pub first_known : {T N : Type 0} → ℕ → ℕ → Known T N
first_known n f = record { places = n; first = f; actor = 0; parts = ALL_PARTS; seen = []; own = []; joined = [] }
