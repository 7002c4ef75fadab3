-- What a call tells of its pass: how the history that it has seen grew, and which entries the pass made.
use Rattle.std.specs.Prelude.{◌≡◌, ℕ, List, [], ◌∷◌, ◌++◌}
use Rattle.std.specs.List.{AllByRecursion}
use mathlib.Core.List.{IsPrefix}
use Rattle.alog_core.specs.Queue.{Event, start}
use Rattle.alog_core.specs.History.{Entry, IsLegal, left_by, own_of}
use Rattle.alog_ring.specs.Known.{Member, Known, members_of, AreDistinct}

module _ {T N : Type 0} where
  -- each member has exactly its actor's entries of the history
  abbrev pub AreExact : List (Member T N) → List (Entry T N) → Type 0
  AreExact members h = AllByRecursion (λ (c : Member T N). c.own ≡ own_of c.actor h) members

  -- What the pass has seen is a legal history of its ring, and its own entries in it, and those of each pass that was
  -- joined into it, are exactly those that it knows.
  pub record IsFaithful (k : Known T N) : Type 0 where
    pub legal : IsLegal k.places k.first k.seen
    pub own : k.own ≡ own_of k.actor k.seen
    pub joined : AreExact k.joined k.seen
    pub distinct : AreDistinct (members_of k)

  -- The pass has seen at least what it had seen, and made exactly these entries.
  pub record Made (old new : Known T N) (made : List (Entry T N)) : Type 0 where
    pub places : new.places ≡ old.places
    pub first : new.first ≡ old.first
    pub actor : new.actor ≡ old.actor
    pub parts : new.parts ≡ old.parts
    pub joined : new.joined ≡ old.joined
    pub seen : IsPrefix old.seen new.seen
    pub own : new.own ≡ old.own ++ made
    pub faithful : IsFaithful new

  -- what it has seen ends with this entry
  abbrev pub EndsWith : Known T N → Entry T N → Type 0
  EndsWith k x = (before : List (Entry T N)) × (k.seen ≡ before ++ x ∷ [])

  -- an entry of the pass
  abbrev pub entry : N → Known T N → Event T → Entry T N
  entry note k e = record { actor = k.actor; event = e; note = note }

  -- the pass made this entry, with which the history that it has seen ends
  abbrev pub Adds : N → Known T N → Known T N → Event T → Type 0
  Adds note k k' e = Made k k' (entry note k e ∷ []) × EndsWith k' (entry note k e)

  -- the positions in the history that the pass has seen: a round that begins now reads no smaller ones
  abbrev pub next_seen : Known T N → ℕ
  next_seen k = (left_by (start k.first) k.seen).next

  abbrev pub front_seen : Known T N → ℕ
  front_seen k = (left_by (start k.first) k.seen).front
