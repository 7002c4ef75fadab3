-- What follows in a post after a push or a pop of it.
use Rattle.std.specs.Prelude.{◌≡◌, ℕ, ◌+◌, ◌-◌, ◌*◌, ◌<◌, ◌≤◌, ◌==◌, if◌then◌else◌, List, Result, Ok, Err}
use Rattle.alog_core.specs.Queue.{Event}
use Rattle.alog_policy.specs.Post.{IsPost, IsUnderWay, Part, Pushing, Popping}
use Rattle.alog_policy.specs.declared.TheConstants.{ROUNDS_MAX}
use Rattle.alog_policy.specs.declared.policy.Policy.{Policy}
use Rattle.alog_policy.specs.declared.policy.Policy.TheVariants.{Block, OverrunOldest, DiscardNew}
use Rattle.alog_policy.specs.declared.policy.Why.{Why}
use Rattle.alog_policy.specs.declared.policy.Why.TheVariants as why
use Rattle.alog_policy.specs.declared.policy.Outcome.TheVariants.{Discarded}
use Rattle.alog_policy.specs.declared.progress.Side.{Side}
use Rattle.alog_policy.specs.declared.progress.Side.TheVariants.{Push, Pop}
use Rattle.alog_policy.specs.declared.progress.Progress.{Progress}
use Rattle.alog_policy.specs.declared.progress.Lost.{Lost}

-- What is true of each post under way: it pops only where its policy is to overrun the oldest, at most once a round.
pub record IsKept (g : Progress) : Type 0 where
  pub within : g.rounds < ROUNDS_MAX
  pub few : g.overran ≤ g.rounds
  pub pops : g.side ≡ Pop → g.policy ≡ OverrunOldest

-- where a post does not wait, block is read as discard new
abbrev pub without_waiting : Policy → Policy
without_waiting Block = DiscardNew
without_waiting OverrunOldest = OverrunOldest
without_waiting DiscardNew = DiscardNew

-- before the first round
abbrev pub begun : Policy → Progress
begun p = record { policy = p; side = Push; rounds = 0; overran = 0 }

abbrev pub lost : Progress → Why → Lost
lost g w = record { why = w; overran = g.overran }

-- the next push of this post, when so many of its rounds count
abbrev pub pushing : Progress → ℕ → Progress
pushing g k = record { policy = g.policy; side = Push; rounds = k; overran = g.overran }

-- the same post when it pops
abbrev pub popping : Progress → Progress
popping g = record { policy = g.policy; side = Pop; rounds = g.rounds; overran = g.overran }

-- the same post when it has overrun one more item
abbrev pub with_take : Progress → Progress
with_take g = record { policy = g.policy; side = g.side; rounds = g.rounds; overran = g.overran + 1 }

-- one more round counts: the post goes on, or its rounds are used up
abbrev pub counting : Progress → Result Progress Lost
counting g = if g.rounds + 1 == ROUNDS_MAX then Err (lost g why.Busy) else Ok (pushing g (g.rounds + 1))

-- after a round that goes on
abbrev pub again_under : Policy → Progress → Result Progress Lost
again_under Block g = Ok (pushing g g.rounds)
again_under OverrunOldest g = counting g
again_under DiscardNew g = counting g

abbrev pub again : Progress → Result Progress Lost
again g = again_under g.policy g

-- after a push that found the queue full
abbrev pub full_under : Policy → Progress → Result Progress Lost
full_under Block g = again g
full_under OverrunOldest g = Ok (popping g)
full_under DiscardNew g = Err (lost g why.Full)

abbrev pub after_full : Progress → Result Progress Lost
after_full g = full_under g.policy g

-- after a pop that took the oldest item out
abbrev pub after_take : Progress → Result Progress Lost
after_take g = again (with_take g)

-- at most so many pushes and pops are left to a post that does not block
abbrev pub half : Side → ℕ
half Push = 1
half Pop = 0

abbrev pub work : Progress → ℕ
work g = 2 * (ROUNDS_MAX - g.rounds) + half g.side

-- the part of its round that a post begins with a push or with a pop
abbrev pub IsFresh : Side → Part → Type 0
IsFresh Push b = b ≡ Pushing
IsFresh Pop b = (f : ℕ) × (b ≡ Popping f)

-- These events are the beginning of a post of the item x that has come so far.
abbrev pub IsSoFar : {T : Type 0} → Progress → T → Part → List (Event T) → Type 0
IsSoFar g x part es = IsUnderWay g.policy x g.rounds g.overran part es

-- What these events are when a post goes on from here, or was lost: the beginning of a post by the definition, or a post.
abbrev pub Agrees : {T V : Type 0} → Policy → T → V → List (Event T) → Result Progress Lost → Type 0
Agrees p x v es (Ok g) = (g.policy ≡ p) × ((b : Part) × IsFresh g.side b × IsSoFar g x b es)
Agrees p x v es (Err l) = IsPost p x v es (Discarded v l.why l.overran)
