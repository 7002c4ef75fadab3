-- What a step is for the post that made it.
use Rattle.std.specs.Prelude.{◌≡◌, ◌<◌, ℕ, Option, Some, Result, true}
use Rattle.alog_core.specs.World.{Machine, round_of, is_idle}
use Rattle.alog_core.specs.declared.TheConstants.{ACTORS}
use Rattle.alog_core.specs.declared.said.Said.{Said}
use Rattle.alog_policy.specs.Progress.{IsKept}
use Rattle.alog_policy.specs.Desk as desk
use Rattle.alog_policy.specs.Desk.{Follows, follows, value_in}
use Rattle.alog_policy.specs.declared.following.Reading.{Reading}
use Rattle.alog_policy.specs.declared.following.Reading.TheVariants.{Stays, Ends, Leads}
use Rattle.alog_policy.specs.declared.post.Post.{Post}
use Rattle.alog_policy.specs.declared.progress.Progress.{Progress}
use Rattle.alog_policy.specs.declared.progress.Lost.{Lost}
use Rattle.alog_policy.specs.declared.progress.Side.TheVariants.{Pop}
use Rattle.alog_core.specs.declared.said.Said.TheVariants as said

abbrev pub Reads : {T : Type 0} → Post T → Said T → Reading T → Type 0
Reads p s (Stays q) = (follows p.progress s ≡ desk.Stays) × (q ≡ p)
Reads p s (Ends t k) = (follows p.progress s ≡ desk.Ends t) × (k ≡ p.progress.overran)
Reads p s (Leads x next) = (follows p.progress s ≡ desk.Leads next) × (value_in p.hand s ≡ Some x)

abbrev pub IsThere : {T : Type 0} → Option T → Type 0
IsThere {T} v = (x : T) × (v ≡ Some x)

-- the post has its value again after such a step, and takes only where it pops
abbrev pub HasValue : {T : Type 0} → Post T → Said T → Type 0
HasValue p said.Nothing = Unit {0}
HasValue p (said.Claim t) = Unit {0}
HasValue p (said.Write t) = Unit {0}
HasValue p (said.Full t x) = IsThere (value_in p.hand (said.Full t x))
HasValue p (said.Grab t) = Unit {0}
HasValue p (said.Take t y) = IsThere p.hand × (p.progress.side ≡ Pop)
HasValue p (said.Front t) = Unit {0}
HasValue p (said.Empty t) = IsThere p.hand
HasValue p (said.Idle t) = IsThere p.hand
HasValue p (said.Busy t x) = IsThere (value_in p.hand (said.Busy t x))
HasValue p (said.Spent x) = IsThere (value_in p.hand (said.Spent x))

-- the post may go on after this was said: an actor whose round has ended may begin another
pub record MayGoOn {T : Type 0} (m : Machine T) (a : ℕ) (p : Post T) (s : Said T) : Type 0 where
  pub actor : a < ACTORS
  pub kept : IsKept p.progress
  pub value : HasValue p s
  pub idle : (next : Result Progress Lost) → follows p.progress s ≡ desk.Leads next → is_idle (round_of m a) ≡ true
