-- What a desk keeps, seen as the machine with its posts.
use Rattle.std.specs.Prelude.{◌≡◌, ℕ, ◌<◌, Option, None, Some, length}
use Rattle.alog_core.specs.World.{round_of}
use Rattle.alog_core.specs.declared.TheConstants.{ACTORS}
use Rattle.alog_core.specs.declared.round.Round.{Round}
use Rattle.alog_core.specs.declared.round.Round.TheVariants as round
use Rattle.alog_policy.specs.Progress.{IsKept}
use Rattle.alog_policy.specs.Desk.{DeskView, post_of}
use Rattle.alog_policy.specs.declared.desk.Desk.TheInside.{Inside}
use Rattle.alog_policy.specs.declared.post.Post.{Post}
use Rattle.alog_policy.specs.declared.progress.Side.TheVariants.{Push, Pop}

abbrev pub desk_in : {T : Type 0} → Inside T → DeskView T
desk_in d = record { world = d.world; posts = d.posts.items; counts = d.counts }

-- a post that pushes has its value with the push, one that pops has it in hand
abbrev pub IsPushing : {T : Type 0} → Post T → Type 0
IsPushing p = (p.progress.side ≡ Push) × (p.hand ≡ None)

abbrev pub IsPopping : {T : Type 0} → Post T → Type 0
IsPopping {T} p = (p.progress.side ≡ Pop) × ((x : T) × (p.hand ≡ Some x))

abbrev pub FitsRound : {T : Type 0} → Post T → Round T → Type 0
FitsRound p round.Idle = ⊥
FitsRound p (round.Push y) = IsPushing p
FitsRound p (round.PushRead t y) = IsPushing p
FitsRound p (round.PushFree t y) = IsPushing p
FitsRound p (round.PushClaimed t) = IsPushing p
FitsRound p round.Pop = IsPopping p
FitsRound p (round.PopRead t) = IsPopping p
FitsRound p (round.PopReady t) = IsPopping p
FitsRound p (round.PopGrabbed t) = IsPopping p
FitsRound p (round.PopFronted t) = IsPopping p

-- a post and the round of its actor
abbrev pub Fits : {T : Type 0} → Option (Post T) → Round T → Type 0
Fits None r = Unit {0}
Fits (Some p) r = IsKept p.progress × FitsRound p r

-- each actor's post fits its round
abbrev pub AllFit : {T : Type 0} → DeskView T → Type 0
AllFit d = (a : ℕ) → a < ACTORS → Fits (post_of d a) (round_of d.world a)

pub record IsKeptDesk {T : Type 0} (d : DeskView T) : Type 0 where
  pub actors : length d.world.rounds ≡ ACTORS
  pub posts : length d.posts ≡ ACTORS
  pub fit : AllFit d

abbrev pub IsKeptInside : {T : Type 0} → Inside T → Type 0
IsKeptInside d = IsKeptDesk (desk_in d)
