-- The desk: the machine of the queue, the post that each actor is in, and the losses counted.
use Rattle.std.specs.Prelude.{◌≡◌, ℕ, ◌+◌, ◌%◌, ◌^◌, Option, None, Some, Result, Ok, Err, List, [], ◌∷◌, ◌++◌}
use Rattle.std.specs.Prelude.{replicate, slice_index_or, slice_set}
use Rattle.alog_core.specs.Queue.{Event}
use Rattle.alog_core.specs.World.{Machine, fresh, round_of, began, next_move, stepped, told}
use Rattle.alog_core.specs.declared.TheConstants.{ACTORS}
use Rattle.alog_core.specs.declared.round.Round.{Round}
use Rattle.alog_core.specs.declared.round.Round.TheVariants as round
use Rattle.alog_core.specs.declared.said.Said.{Said}
use Rattle.alog_core.specs.declared.said.Said.TheVariants as said
use Rattle.alog_policy.specs.Post.{IsPost, Part, Pushing, Claimed, Popping, Grabbed, Fronted}
use Rattle.alog_policy.specs.Progress.{IsSoFar, begun, lost, again, after_full, after_take}
use Rattle.alog_policy.specs.declared.counts.Counts.{Counts}
use Rattle.alog_policy.specs.declared.policy.Policy.{Policy}
use Rattle.alog_policy.specs.declared.policy.Why.TheVariants as why
use Rattle.alog_policy.specs.declared.policy.Outcome.{Outcome}
use Rattle.alog_policy.specs.declared.policy.Outcome.TheVariants.{Posted, Discarded}
use Rattle.alog_policy.specs.declared.post.Post.{Post}
use Rattle.alog_policy.specs.declared.post.Stepped.{Stepped}
use Rattle.alog_policy.specs.declared.progress.Side.{Side}
use Rattle.alog_policy.specs.declared.progress.Side.TheVariants.{Push, Pop}
use Rattle.alog_policy.specs.declared.progress.Progress.{Progress}
use Rattle.alog_policy.specs.declared.progress.Lost.{Lost}

pub record DeskView (T : Type 0) : Type 0 where
  pub world : Machine T
  -- the post of each actor that is in one, by its number
  pub posts : List (Option (Post T))
  pub counts : Counts

-- an empty queue, nobody in a call, and no loss
abbrev pub fresh_desk : {T : Type 0} → ℕ → ℕ → DeskView T
fresh_desk n f =
    record { world = fresh n f; posts = replicate ACTORS None; counts = record { overrun = 0; discarded = 0 } }

-- the post that an actor is in
abbrev pub post_of : {T : Type 0} → DeskView T → ℕ → Option (Post T)
post_of d a = slice_index_or d.posts a None

-- a push or a pop has begun
abbrev pub call_began : {T : Type 0} → DeskView T → ℕ → Round T → DeskView T
call_began d a r = record { world = began d.world a r; posts = d.posts; counts = d.counts }

-- a post has begun: its first push
abbrev pub post_began : {T : Type 0} → DeskView T → ℕ → Policy → T → DeskView T
post_began d a p x =
    record {
      world = began d.world a (round.Push x);
      posts = slice_set d.posts a (Some (record { progress = begun p; hand = None }));
      counts = d.counts;
    }

-- one more, modulo 2^64
abbrev pub one_more : ℕ → ℕ
one_more n = (n + 1) % 2 ^ 64

-- What follows in a post after a step of it.
pub data Follows : Type 0 where
  -- the round goes on
  Stays : Follows
  -- the value has this ticket
  Ends : (ticket : ℕ) → Follows
  -- the post goes on so, or is lost so
  Leads : Result Progress Lost → Follows

abbrev pub follows : {T : Type 0} → Progress → Said T → Follows
follows g said.Nothing = Stays
follows g (said.Claim t) = Stays
follows g (said.Write t) = Ends t
follows g (said.Full t x) = Leads (after_full g)
follows g (said.Grab t) = Stays
follows g (said.Take t y) = Leads (after_take g)
follows g (said.Front t) = Stays
follows g (said.Empty t) = Leads (Err (lost g why.Stalled))
follows g (said.Idle t) = Leads (Err (lost g why.Stalled))
follows g (said.Busy t x) = Leads (again g)
follows g (said.Spent x) = Leads (Err (lost g why.Spent))

abbrev pub or_else : {T : Type 0} → Option T → Option T → Option T
or_else None y = y
or_else (Some x) y = Some x

-- the value of a post after a step, where it has it again: a refused push brings it back, and a post that pops has it in hand
abbrev pub value_in : {T : Type 0} → Option T → Said T → Option T
value_in h said.Nothing = h
value_in h (said.Claim t) = h
value_in h (said.Write t) = h
value_in h (said.Full t x) = or_else x h
value_in h (said.Grab t) = h
value_in h (said.Take t y) = h
value_in h (said.Front t) = h
value_in h (said.Empty t) = h
value_in h (said.Idle t) = h
value_in h (said.Busy t x) = or_else x h
value_in h (said.Spent x) = or_else x h

-- what a step of a post says: the value stays in the post, or goes to its outcome
abbrev pub said_in_post : {T : Type 0} → Said T → Said T
said_in_post said.Nothing = said.Nothing
said_in_post (said.Claim t) = said.Claim t
said_in_post (said.Write t) = said.Write t
said_in_post (said.Full t x) = said.Full t None
said_in_post (said.Grab t) = said.Grab t
said_in_post (said.Take t y) = said.Take t y
said_in_post (said.Front t) = said.Front t
said_in_post (said.Empty t) = said.Empty t
said_in_post (said.Idle t) = said.Idle t
said_in_post (said.Busy t x) = said.Busy t None
said_in_post (said.Spent x) = said.Spent None

-- an overrun is counted at the take
abbrev pub with_said : {T : Type 0} → Counts → Said T → Counts
with_said c said.Nothing = c
with_said c (said.Claim t) = c
with_said c (said.Write t) = c
with_said c (said.Full t x) = c
with_said c (said.Grab t) = c
with_said c (said.Take t y) = record { overrun = one_more c.overrun; discarded = c.discarded }
with_said c (said.Front t) = c
with_said c (said.Empty t) = c
with_said c (said.Idle t) = c
with_said c (said.Busy t x) = c
with_said c (said.Spent x) = c

-- a discarded post is counted at its end
abbrev pub with_discard : Counts → Counts
with_discard c = record { overrun = c.overrun; discarded = one_more c.discarded }

-- the call with which a post goes on, and what it has in hand meanwhile
abbrev pub call_of : {T : Type 0} → Side → Option T → Round T
call_of Push None = round.Idle
call_of Push (Some x) = round.Push x
call_of Pop v = round.Pop

abbrev pub hand_of : {T : Type 0} → Side → Option T → Option T
hand_of Push v = None
hand_of Pop v = v

abbrev pub discarded_as : {T : Type 0} → Option T → Lost → Option (Outcome T)
discarded_as None l = None
discarded_as (Some x) l = Some (Discarded x l.why l.overran)

-- What a post is after a step of it: the machine, the actor's post, the counts, and the outcome where it ended.
pub record Turn (T : Type 0) : Type 0 where
  pub world : Machine T
  pub post : Option (Post T)
  pub counts : Counts
  pub outcome : Option (Outcome T)

abbrev pub turn_to : {T : Type 0} → Machine T → ℕ → Post T → Counts → Option T → Follows → Turn T
turn_to m a p c v Stays = record { world = m; post = Some p; counts = c; outcome = None }
turn_to m a p c v (Ends t) = record { world = m; post = None; counts = c; outcome = Some (Posted t p.progress.overran) }
turn_to m a p c v (Leads (Ok g)) =
    record {
      world = began m a (call_of g.side v);
      post = Some (record { progress = g; hand = hand_of g.side v });
      counts = c;
      outcome = None;
    }
turn_to m a p c v (Leads (Err l)) =
    record { world = m; post = None; counts = with_discard c; outcome = discarded_as v l }

-- the turn of the post p of an actor whose step left the machine m and said s
abbrev pub turn_of : {T : Type 0} → Machine T → ℕ → Post T → Counts → Said T → Turn T
turn_of m a p c s = turn_to m a p (with_said c s) (value_in p.hand s) (follows p.progress s)

-- what a step of an actor says, and how its post ended if it did
abbrev pub answer_of : {T : Type 0} → DeskView T → ℕ → Option (Post T) → Stepped T
answer_of d a None = record { said = told d.world a; outcome = None }
answer_of d a (Some p) =
    record {
      said = said_in_post (told d.world a);
      outcome = (turn_of (stepped d.world a) a p d.counts (told d.world a)).outcome;
    }

abbrev pub desk_told : {T : Type 0} → DeskView T → ℕ → Stepped T
desk_told d a = answer_of d a (post_of d a)

-- the desk after the step
abbrev pub after_step : {T : Type 0} → DeskView T → ℕ → Option (Post T) → DeskView T
after_step d a None = record { world = stepped d.world a; posts = d.posts; counts = d.counts }
after_step d a (Some p) =
    let t = turn_of (stepped d.world a) a p d.counts (told d.world a) in
    record { world = t.world; posts = slice_set d.posts a t.post; counts = t.counts }

abbrev pub desk_stepped : {T : Type 0} → DeskView T → ℕ → DeskView T
desk_stepped d a = after_step d a (post_of d a)

-- the event of the next step of an actor, if it is one
abbrev pub event_of : {T : Type 0} → Option (Event T) → List (Event T)
event_of None = []
event_of (Some e) = e ∷ []

-- where a post stands that brings x: what it has in hand, the round of its actor, and what it has done of its own round
abbrev pub IsAt : {T : Type 0} → T → Option T → Side → Round T → Part → Type 0
IsAt x h s round.Idle b = ⊥
IsAt x h s (round.Push y) b = (s ≡ Push) × (h ≡ None) × (y ≡ x) × (b ≡ Pushing)
IsAt x h s (round.PushRead p y) b = (s ≡ Push) × (h ≡ None) × (y ≡ x) × (b ≡ Pushing)
IsAt x h s (round.PushFree p y) b = (s ≡ Push) × (h ≡ None) × (y ≡ x) × (b ≡ Pushing)
IsAt x h s (round.PushClaimed p) b = (s ≡ Push) × (h ≡ None) × (b ≡ Claimed p)
IsAt x h s round.Pop b = (s ≡ Pop) × (h ≡ Some x) × ((f : ℕ) × (b ≡ Popping f))
IsAt x h s (round.PopRead p) b = (s ≡ Pop) × (h ≡ Some x) × ((f : ℕ) × (b ≡ Popping f))
IsAt x h s (round.PopReady p) b = (s ≡ Pop) × (h ≡ Some x) × ((f : ℕ) × (b ≡ Popping f))
IsAt x h s (round.PopGrabbed p) b = (s ≡ Pop) × (h ≡ Some x) × ((f : ℕ) × (b ≡ Grabbed f p))
IsAt x h s (round.PopFronted p) b = (s ≡ Pop) × (h ≡ Some x) × ((f : ℕ) × (b ≡ Fronted f p))

-- The actor is in a post under this policy, which brings x, and these are its own events in it so far: by the definition the
-- beginning of a post.
pub record IsPosting {T : Type 0} (d : DeskView T) (a : ℕ) (policy : Policy) (x : T) (events : List (Event T)) : Type 0 where
  pub post : Post T
  pub there : post_of d a ≡ Some post
  pub under : post.progress.policy ≡ policy
  pub part : Part
  pub at : IsAt x post.hand post.progress.side (round_of d.world a) part
  pub so_far : IsSoFar post.progress x part events

-- After more of its events the actor's post goes on; where it has an outcome, its events are one post by the definition, with
-- that outcome, and the actor is in none.
abbrev pub Continues : {T : Type 0} → DeskView T → ℕ → Policy → T → List (Event T) → Option (Outcome T) → Type 0
Continues d a p x es None = IsPosting d a p x es
Continues d a p x es (Some o) = IsPost p x x es o × (post_of d a ≡ None)

-- So each post of the actor goes on with the actor's step.
abbrev pub PostGoesOn : {T : Type 0} → DeskView T → ℕ → Option (Outcome T) → DeskView T → Type 0
PostGoesOn {T} old a o new =
    (p : Policy) (x : T) (es : List (Event T)) → IsPosting old a p x es
    → Continues new a p x (es ++ event_of (next_move old.world a).event) o
