-- What holds of a lane between any two steps: of the history, of what each seat knows, and of the lock word and the value.
use Rattle.std.specs.Prelude.{◌≡◌, ℕ, ◌%◌, ◌^◌, ◌⊎◌, List, length, slice_index}
use mathlib.Core.Option.{some}
use lib.ListN.{get_elem?}
use Rattle.atomic_table.specs.Table.{State}
use Rattle.alog_lane.specs.Seats.{Entry}
use Rattle.alog_lane.specs.Roster.{Working, Sight, Agrees}
use Rattle.alog_lane.specs.Turns.{Turned, Leads}
use Rattle.alog_lane.specs.declared.view.LockedValue.{LockedValue}

-- The view of a seat: it knows the first value, and at work the value that it found.
abbrev pub LaneSight : (T I S R : Type 0) → Type 0
LaneSight T I S R = Sight T (Turned I S R) T

-- the index of the turn after a history
abbrev pub index_after : {D : Type 0} → List (Entry D) → ℕ
index_after h = length h % 2 ^ 64

-- whatever may be asked of the first value may be asked of this one
abbrev pub Keeps : {T I S : Type 0} → (T → I → S → Type 0) → T → T → Type 0
Keeps {T} {I} {S} may first v = (i : I) (s : S) → may first i s → may v i s

module _ {T I S R : Type 0} where
  -- a seat that has the lock is this one
  abbrev pub AloneAtWork : List (LaneSight T I S R) → ℕ → Type 0
  AloneAtWork views a = (b : ℕ) (u : LaneSight T I S R) (x : T) → get_elem? views b ≡ some u → u.stage ≡ Working x → b ≡ a

  abbrev pub NobodyAtWork : List (LaneSight T I S R) → Type 0
  NobodyAtWork views = (b : ℕ) (u : LaneSight T I S R) (x : T) → get_elem? views b ≡ some u → u.stage ≡ Working x → ⊥

  module _ (turns : T → S → I → R → T → S → Type 0) (may : T → I → S → Type 0) (first : T) where
    -- the history leads to this value, which keeps the conditions
    pub record Reaches (h : List (Entry (Turned I S R))) (v : T) : Type 0 where
      pub leads : Leads turns first h v
      pub keeps : Keeps may first v

    -- The lock is free: the value that the history leads to lies behind it, with the number of turns.
    pub record IsFree (h : List (Entry (Turned I S R))) (s : State (LockedValue T I R S) (LaneSight T I S R)) : Type 0 where
      pub word : slice_index s.words 0 ≡ 0
      pub locked : LockedValue T I R S
      pub home : get_elem? s.homes 0 ≡ some (some locked)
      pub reaches : Reaches h locked.value
      pub count : locked.turns ≡ index_after h
      pub nobody : NobodyAtWork s.views

    -- A seat has the lock: it has seen the whole history, and knows the value that it leads to.
    pub record IsHeld (h : List (Entry (Turned I S R))) (s : State (LockedValue T I R S) (LaneSight T I S R)) : Type 0 where
      pub word : slice_index s.words 0 ≡ 1
      pub owner : ℕ
      pub view : LaneSight T I S R
      pub at : get_elem? s.views owner ≡ some view
      pub value : T
      pub stage : view.stage ≡ Working value
      pub reaches : Reaches h value
      pub seen : view.known.seen ≡ h
      pub alone : AloneAtWork s.views owner

    -- The rule of a lane with this first value.
    pub record Ruled (s : State (LockedValue T I R S) (LaneSight T I S R)) : Type 0 where
      pub history : List (Entry (Turned I S R))
      pub agrees : Agrees first history s.views
      pub words : length s.words ≡ 1
      pub homes : length s.homes ≡ 1
      pub lock : IsFree history s ⊎ IsHeld history s
