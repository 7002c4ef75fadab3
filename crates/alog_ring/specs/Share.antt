-- How passes are split, joined and shown to each other, and what it is to have all parts.
use Rattle.std.specs.Prelude.{◌≡◌, ℕ, ◌+◌, ◌-◌, ◌⊎◌, List, [], ◌++◌, map, Some}
use Rattle.std.specs.List.{AllByRecursion}
use mathlib.Core.List.{IsPrefix}
use Rattle.alog_core.specs.declared.mark.Mark.TheVariants.{Written}
use Rattle.alog_core.specs.Queue.{Cell, start, cell_of}
use Rattle.alog_core.specs.History.{Entry, left_by}
use Rattle.alog_ring.specs.Known.{Known, PassView, members_of, IsAmong}
use Rattle.alog_ring.specs.Made.{IsFaithful}

-- a cell as its ticket and its item
abbrev pub ticket_and_item : {T : Type 0} → Cell T → ℕ × T
ticket_and_item c = (c.ticket, c.item)

module _ {T N : Type 0} where
  -- the pass without so many of its parts
  abbrev pub with_fewer : Known T N → ℕ → Known T N
  with_fewer k parts =
      record {
        places = k.places;
        first = k.first;
        actor = k.actor;
        parts = k.parts - parts;
        seen = k.seen;
        own = k.own;
        joined = k.joined;
      }

  -- a new pass of so many parts, which has seen the same and made nothing
  abbrev pub apart_from : Known T N → ℕ → ℕ → Known T N
  apart_from k actor parts =
      record {
        places = k.places;
        first = k.first;
        actor = actor;
        parts = parts;
        seen = k.seen;
        own = [];
        joined = [];
      }

  -- the pass when it has seen this
  abbrev pub having_seen : Known T N → List (Entry T N) → Known T N
  having_seen k h =
      record {
        places = k.places;
        first = k.first;
        actor = k.actor;
        parts = k.parts;
        seen = h;
        own = k.own;
        joined = k.joined;
      }

  -- the pass with the parts and the members of another
  abbrev pub with_other : Known T N → Known T N → Known T N
  with_other k l =
      record {
        places = k.places;
        first = k.first;
        actor = k.actor;
        parts = k.parts + l.parts;
        seen = k.seen;
        own = k.own;
        joined = k.joined ++ members_of l;
      }

  -- the longer of two histories, which the other begins
  pub record IsLonger (s h longer : List (Entry T N)) : Type 0 where
    pub one : (longer ≡ s) ⊎ (longer ≡ h)
    pub first : IsPrefix s longer
    pub second : IsPrefix h longer

  -- A split: the pass keeps its other parts, and the new one has seen the same and made nothing.
  pub record Splits (old new given : PassView T N) (parts : ℕ) : Type 0 where
    pub kept : new ≡ record { table = old.table; known = with_fewer old.known parts }
    pub actor : ℕ
    pub new_pass : given ≡ record { table = old.table; known = apart_from old.known actor parts }
    pub faithful : IsFaithful given.known

  -- A join: the pass has the parts and the members of both, and has seen the longer of both histories.
  pub record Joins (old other new : Known T N) : Type 0 where
    pub seen : List (Entry T N)
    pub longer : IsLonger old.seen other.seen seen
    pub known : new ≡ having_seen (with_other old other) seen
    pub faithful : IsFaithful new

  -- A meeting: the pass has seen the longer of both histories.
  pub record Meets (old other new : Known T N) : Type 0 where
    pub seen : List (Entry T N)
    pub longer : IsLonger old.seen other.seen seen
    pub known : new ≡ having_seen old seen
    pub faithful : IsFaithful new

  -- The history that the pass has seen is the whole one: it is legal, each entry in it is the pass's own or that of one
  -- joined into it, of each of them all entries are there, and each cell that it leaves is written.
  pub record IsWhole (k : Known T N) : Type 0 where
    pub faithful : IsFaithful k
    pub actors : AllByRecursion (λ (x : Entry T N). (x.actor ≡ k.actor) ⊎ IsAmong x.actor k.joined) k.seen
    pub written : (t : ℕ) (c : Cell T) → cell_of t (left_by (start k.first) k.seen).cells ≡ Some c → c.mark ≡ Written

  -- What is left in a ring at its end: all cells that the whole history leaves, in ticket order.
  pub record Closes (k : Known T N) (left : List (ℕ × T)) : Type 0 where
    pub whole : IsWhole k
    pub cells : left ≡ map ticket_and_item (left_by (start k.first) k.seen).cells
