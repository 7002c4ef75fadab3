-- An actor of a desk as an outlet: what it did.
use Rattle.std.specs.Prelude.{◌≡◌, ◌<◌, ℕ, true, List}
use Rattle.std.specs.List.{AllByRecursion}
use Rattle.std.proofs.Common.{zero, suc}
use Rattle.alog_core.specs.Queue.{Event, Claim, Write, Grab, Take, Full, Front, Empty, Idle, PushBusy, PopBusy, Spent}
use Rattle.alog_core.specs.World.{round_of, is_idle}
use Rattle.alog_core.specs.declared.TheConstants.{ACTORS}
use Rattle.alog_policy.specs.Desk.{DeskView, one_more}
use Rattle.alog_policy.specs.Rounds.{Makes}
use Rattle.alog_policy.specs.declared.counts.Counts.{Counts}

-- so many more, modulo 2^64
abbrev pub more : ℕ → ℕ → ℕ
more n zero = n
more n (suc k) = one_more (more n k)

-- the counts with so many more overrun items and discarded posts
abbrev pub with_losses : Counts → ℕ → ℕ → Counts
with_losses c k l = record { overrun = more c.overrun k; discarded = more c.discarded l }

-- the actor is there, and in no call
abbrev pub IsFree : {T : Type 0} → DeskView T → ℕ → Type 0
IsFree d a = (a < ACTORS) × (is_idle (round_of d.world a) ≡ true)

-- the event does not say that another was faster
abbrev pub IsUnbeaten : {T : Type 0} → Event T → Type 0
IsUnbeaten (Claim t x) = Unit {0}
IsUnbeaten (Write t) = Unit {0}
IsUnbeaten (Grab t) = Unit {0}
IsUnbeaten (Take t x) = Unit {0}
IsUnbeaten (Full t) = Unit {0}
IsUnbeaten (Front t) = Unit {0}
IsUnbeaten (Empty t) = Unit {0}
IsUnbeaten (Idle t) = Unit {0}
IsUnbeaten (PushBusy t) = ⊥
IsUnbeaten (PopBusy t) = ⊥
IsUnbeaten Spent = Unit {0}

-- The actor made exactly these events, and nobody else did anything: the rounds and posts of all actors are as before, and no
-- round of the actor was busy. So many overrun items and discarded posts were counted.
pub record DeskDid {T : Type 0} (a : ℕ) (old : DeskView T) (es : List (Event T)) (k l : ℕ) (new : DeskView T) : Type 0 where
  pub makes : Makes a old.world es new.world
  pub unbeaten : AllByRecursion IsUnbeaten es
  pub posts : new.posts ≡ old.posts
  pub counts : new.counts ≡ with_losses old.counts k l
