-- What a push and a pop of a swap ring promise, and what it leaves.
use Rattle.std.specs.Prelude.{◌≡◌, ℕ, suc, ◌+◌, ◌%◌, ◌<◌, ◌≤◌, Option, None, Some, List, [], ◌∷◌, ◌++◌, map}
use Rattle.alog_core.specs.Queue.{start}
use Rattle.alog_core.specs.History.{left_by}
use Rattle.alog_ring.specs.Known.{Known, RingId}
use Rattle.alog_ring.specs.Spares.{IsSpare}
use Rattle.alog_ring.specs.Calls.{PushedAs, PoppedAs}
use Rattle.alog_ring.specs.Refused.{PopRefusedAs}
use Rattle.alog_ring.specs.Share.{IsWhole, ticket_and_item}
use Rattle.alog_ring.specs.declared.pop.PopError.TheVariants as pop
use Rattle.alog_ring.specs.declared.swap_calls.SwapPopError.{SwapPopError}
use Rattle.alog_ring.specs.declared.swap_calls.SwapPopError.TheVariants.{Empty, Idle, Busy}

-- Which swap ring it is, and what lay in its places at first.
pub record SwapId (L B : Type 0) : Type 0 where
  pub ring : RingId L
  pub firsts : List B

module _ {B T : Type 0} (shows : B → T) where
  -- the pass claimed and wrote the ticket with this value's item, and got the spare for the ticket
  abbrev pub PushedFor : List B → Known T (Option B) → Known T (Option B) → ℕ → B → B → Type 0
  PushedFor firsts old new t value spare = PushedAs None old new t (shows value)
      × IsSpare firsts new.places new.seen t spare

  -- the pass grabbed the ticket and took this value's item, and brought this spare
  abbrev pub PoppedFor : Known T (Option B) → Known T (Option B) → ℕ → B → B → Type 0
  PoppedFor old new t spare value = PoppedAs None (Some spare) old new t (shows value)

-- the spare that was brought comes back
abbrev pub SwapPopRefused : {T B : Type 0} → Known T (Option B) → Known T (Option B) → B → SwapPopError B → Type 0
SwapPopRefused old new spare (Empty next back) = (back ≡ spare) × PopRefusedAs None old new (pop.Empty next)
SwapPopRefused old new spare (Idle next back) = (back ≡ spare) × PopRefusedAs None old new (pop.Idle next)
SwapPopRefused old new spare (Busy seen back) = (back ≡ spare) × PopRefusedAs None old new (pop.Busy seen)

-- the ticket, of the n from the front one on, whose place this is
abbrev pub ComesAt : ℕ → ℕ → ℕ → ℕ → Type 0
ComesAt front n place t = (front ≤ t) × (t < front + n) × (t % n ≡ place)

-- What lies in the places below this one that have no cell, in order of places: in each what is for its ticket to come.
pub data AreSpares {B : Type 0} (front next n : ℕ) (IsFor : ℕ → B → Type 0) : ℕ → List B → Type 0 where
  none : AreSpares front next n IsFor 0 []
  cell : {place : ℕ} {ys : List B} (t : ℕ) → ComesAt front n place t → t < next → AreSpares front next n IsFor place ys
      → AreSpares front next n IsFor (suc place) ys
  spare : {place : ℕ} {ys : List B} (t : ℕ) (y : B) → ComesAt front n place t → next ≤ t → IsFor t y
      → AreSpares front next n IsFor place ys → AreSpares front next n IsFor (suc place) (ys ++ y ∷ [])

-- What is left in a swap ring at its end: all cells that the whole history leaves, in ticket order, and the spares of the places
-- without a cell, in order of places.
pub record SwapCloses {B T : Type 0} (shows : B → T) (firsts : List B) (k : Known T (Option B)) (left : List (ℕ × B))
    (back : List B) : Type 0 where
  pub whole : IsWhole k
  pub cells : map (λ (p : ℕ × B). (p.0, shows p.1)) left ≡ map ticket_and_item (left_by (start k.first) k.seen).cells
  pub spares : AreSpares (left_by (start k.first) k.seen).front (left_by (start k.first) k.seen).next k.places
      (IsSpare firsts k.places k.seen) k.places back
