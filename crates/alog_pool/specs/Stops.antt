-- How a pool tells its workers to end.
use Rattle.std.specs.Prelude.{◌≡◌, ◌⊎◌, ◌<◌, ℕ, Bool, true, false, Option, None, Some, List, [], ◌∷◌, length}
use Rattle.std.specs.List.{AllByRecursion}
use Rattle.alog_core.specs.History.{Entry}
use Rattle.alog_core.specs.Queue as queue
use Rattle.alog_msg.specs.declared.item.Item.{Item}
use Rattle.alog_msg.specs.declared.item.Item.TheVariants.{Stop}
use Rattle.alog_pool.specs.Accounts.{Moved}
use Rattle.alog_registry.specs.BlockPort.{block_note}
use Rattle.alog_ring.specs.Known.{Known}
use Rattle.alog_ring.specs.declared.push.PushError.{PushError}
use Rattle.alog_ring.specs.declared.push.PushError.TheVariants.{Full, Busy, Spent}

-- a push found that no ticket is left
abbrev pub IsSpent : PushError (Unit {0}) → Type 0
IsSpent (Full value next) = ⊥
IsSpent (Busy value seen) = ⊥
IsSpent (Spent value) = Unit {0}

-- among these entries is an answer that no ticket is left to claim
abbrev pub SawSpent : List (Entry Item block_note) → Type 0
SawSpent [] = ⊥
SawSpent (x ∷ h) = (x.event ≡ queue.Spent) ⊎ SawSpent h

-- these are stops
abbrev pub AreStops : List (ℕ × Item) → Type 0
AreStops puts = AllByRecursion (λ (p : ℕ × Item). p.1 ≡ Stop) puts

-- so many, or fewer where no ticket was left
abbrev pub AreEnough : ℕ → List (ℕ × Item) → List (Entry Item block_note) → Type 0
AreEnough count puts own = (length puts ≡ count) ⊎ ((length puts < count) × SawSpent own)

-- The pass put in stops, as many as were asked for, or fewer where no ticket was left, and took nothing.
pub record PutsStops (old new : Known Item block_note) (count : ℕ) : Type 0 where
  pub puts : List (ℕ × Item)
  pub moved : Moved old new puts []
  pub stops : AreStops puts
  pub enough : AreEnough count puts new.own

-- It put in one stop, or saw that no ticket was left.
abbrev pub DidPost : Known Item block_note → Known Item block_note → Bool → Type 0
DidPost old new true = (t : ℕ) × Moved old new ((t, Stop) ∷ []) []
DidPost old new false = Moved old new [] [] × SawSpent new.own

-- It did so, or moved nothing.
abbrev pub Tries : Known Item block_note → Known Item block_note → Option Bool → Type 0
Tries old new (Some posted) = DidPost old new posted
Tries old new None = Moved old new [] []
