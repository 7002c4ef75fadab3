-- What is so of each value in a desk is so after each call of it, and of what a step tells.
use Rattle.std.proofs.Common.{◌≡◌, ◌<◌, ◌⊎◌, ℕ, cond, Bool, true, false, Option, None, Some, Ok, Err, List, [], ◌∷◌, length}
use Rattle.std.proofs.Common.{zero, suc, refl, ap, ◌∙◌, inl, inr, get_or, get_or-set_same}
use Rattle.std.specs.Prelude.{◌==◌, ◌&&◌, ◌||◌, not, nat_lt, is_none, IsSome}
use Rattle.std.specs.List.{All}
use Rattle.std.proofs.lemmas.List.Elements.{All-nil, All-cons, All-head, All-tail, All-push, All-set, All-replicate}
use Rattle.alog_core.specs.Queue.{Cell, Queue, Event, Claim, Write, Grab, Take, Full, Front, Empty, Idle, PushBusy, PopBusy, Spent, last, cell_of, marked, without}
use Rattle.alog_core.specs.Round.{Move, move_of, after_event, goes_on, makes, ends, taking, is_blocked, is_claimed}
use Rattle.alog_core.specs.World.{Machine, round_of, is_idle, began, brought, next_move, stepped, said_of, told}
use Rattle.alog_core.specs.declared.TheConstants.{ACTORS}
use Rattle.alog_core.specs.declared.mark.Mark.{Mark}
use Rattle.alog_core.specs.declared.round.Round.{Round}
use Rattle.alog_core.specs.declared.round.Round.TheVariants as round
use Rattle.alog_core.specs.declared.said.Said.{Said}
use Rattle.alog_core.specs.declared.said.Said.TheVariants as said
use Rattle.alog_policy.specs.Desk.{DeskView, fresh_desk, post_of, post_began, Follows, Stays, Ends, Leads, follows, value_in, or_else}
use Rattle.alog_policy.specs.Desk.{said_in_post, with_said, call_of, hand_of, turn_to, turn_of, desk_told, desk_stepped, after_step, answer_of}
use Rattle.alog_policy.specs.declared.counts.Counts.{Counts}
use Rattle.alog_policy.specs.declared.policy.Policy.{Policy}
use Rattle.alog_policy.specs.declared.post.Post.{Post}
use Rattle.alog_policy.specs.declared.progress.Side.{Side}
use Rattle.alog_policy.specs.declared.progress.Side.TheVariants.{Push, Pop}
use Rattle.alog_policy.proofs.SharedStepKinds.{either}
use Rattle.alog_system.specs.Within.{HasOnly, HandHasOnly, SaidHasOnly, MachineHas, DeskHas}

module _ {T : Type 0} (P : T → Type 0) where
  cell_has : (t : ℕ) (cs : List (Cell T)) → All (λ c. P c.item) cs → HasOnly (λ (c : Cell T). P c.item) (cell_of t cs)
  cell_has t [] all = tt
  cell_has t (c ∷ cs) all =
      either (HasOnly (λ (d : Cell T). P d.item)) (c.ticket == t) (Some c) (cell_of t cs) (All-head (λ d. P d.item) c cs all)
      (cell_has t cs (All-tail (λ d. P d.item) c cs all))

  marked_has : (t : ℕ) (m : Mark) (a : ℕ) (cs : List (Cell T)) → All (λ c. P c.item) cs → All (λ c. P c.item) (marked t m a cs)
  marked_has t m a [] all = all
  marked_has t m a (c ∷ cs) all =
      let head = All-head (λ d. P d.item) c cs all in
      let tail = All-tail (λ d. P d.item) c cs all in
      let new : Cell T = record { ticket = c.ticket; mark = m; item = c.item; actor = a } in
      either (All (λ d. P d.item)) (c.ticket == t) (new ∷ cs) (c ∷ marked t m a cs) (All-cons (λ d. P d.item) new cs head tail)
      (All-cons (λ d. P d.item) c (marked t m a cs) head (marked_has t m a cs tail))

  without_has : (t : ℕ) (cs : List (Cell T)) → All (λ c. P c.item) cs → All (λ c. P c.item) (without t cs)
  without_has t [] all = all
  without_has t (c ∷ cs) all =
      let tail = All-tail (λ d. P d.item) c cs all in
      either (All (λ d. P d.item)) (c.ticket == t) cs (c ∷ without t cs) tail
      (All-cons (λ d. P d.item) c (without t cs) (All-head (λ d. P d.item) c cs all) (without_has t cs tail))

  -- the item that an event names
  abbrev EventHas : Option (Event T) → Type 0
  EventHas None = Unit {0}
  EventHas (Some (Claim t x)) = P x
  EventHas (Some (Write t)) = Unit {0}
  EventHas (Some (Grab t)) = Unit {0}
  EventHas (Some (Take t x)) = P x
  EventHas (Some (Full t)) = Unit {0}
  EventHas (Some (Front t)) = Unit {0}
  EventHas (Some (Empty t)) = Unit {0}
  EventHas (Some (Idle t)) = Unit {0}
  EventHas (Some (PushBusy t)) = Unit {0}
  EventHas (Some (PopBusy t)) = Unit {0}
  EventHas (Some Spent) = Unit {0}

  abbrev MoveHas : Move T → Type 0
  MoveHas m = EventHas m.event × HasOnly P (brought m.round)

  taking_has : (p : ℕ) (c : Option (Cell T)) → HasOnly (λ (d : Cell T). P d.item) c → MoveHas (taking p c)
  taking_has p None h = (tt, tt)
  taking_has p (Some c) h = (h, tt)

  move_has : (n : ℕ) (q : Queue T) (r : Round T) → All (λ c. P c.item) q.cells → HasOnly P (brought r) → MoveHas (move_of n q r)
  move_has n q round.Idle cells h = (tt, tt)
  move_has n q (round.Push x) cells h = either MoveHas (q.next == last) (ends Spent) (goes_on (round.PushRead q.next x)) (tt, tt) (tt, h)
  move_has n q (round.PushRead p x) cells h =
      let late : Bool = nat_lt p q.next && not (is_claimed (cell_of p q.cells)) in
      either MoveHas (is_blocked n p q.cells) (ends (Full p)) (cond late (ends (PushBusy p)) (goes_on (round.PushFree p x))) (tt, tt)
      (either MoveHas late (ends (PushBusy p)) (goes_on (round.PushFree p x)) (tt, tt) (tt, h))
  move_has n q (round.PushFree p x) cells h =
      either MoveHas (q.next == p) (makes (Claim p x) (round.PushClaimed p)) (ends (PushBusy p)) (h, tt) (tt, tt)
  move_has n q (round.PushClaimed p) cells h = (tt, tt)
  move_has n q round.Pop cells h = (tt, tt)
  move_has n q (round.PopRead p) cells h =
      let unwritten : Bool = p == q.front && (is_none (cell_of p q.cells) || is_claimed (cell_of p q.cells)) in
      let late : Bool = nat_lt p q.front && is_none (cell_of p q.cells) in
      either MoveHas unwritten (makes (Front p) (round.PopFronted p)) (cond late (ends (PopBusy p)) (goes_on (round.PopReady p))) (tt, tt)
      (either MoveHas late (ends (PopBusy p)) (goes_on (round.PopReady p)) (tt, tt) (tt, tt))
  move_has n q (round.PopReady p) cells h =
      either MoveHas (q.front == p) (makes (Grab p) (round.PopGrabbed p)) (ends (PopBusy p)) (tt, tt) (tt, tt)
  move_has n q (round.PopGrabbed p) cells h = taking_has p (cell_of p q.cells) (cell_has p q.cells cells)
  move_has n q (round.PopFronted p) cells h = either MoveHas (q.next == p) (ends (Idle p)) (ends (Empty p)) (tt, tt) (tt, tt)

  after_has : (q : Queue T) (a : ℕ) (e : Option (Event T)) → All (λ c. P c.item) q.cells → EventHas e
      → All (λ c. P c.item) (after_event q a e).cells
  after_has q a None cells h = cells
  after_has q a (Some (Claim t x)) cells h = All-push (λ c. P c.item) q.cells _ cells h
  after_has q a (Some (Write t)) cells h = marked_has t _ a q.cells cells
  after_has q a (Some (Grab t)) cells h = marked_has t _ a q.cells cells
  after_has q a (Some (Take t x)) cells h = without_has t q.cells cells
  after_has q a (Some (Full t)) cells h = cells
  after_has q a (Some (Front t)) cells h = cells
  after_has q a (Some (Empty t)) cells h = cells
  after_has q a (Some (Idle t)) cells h = cells
  after_has q a (Some (PushBusy t)) cells h = cells
  after_has q a (Some (PopBusy t)) cells h = cells
  after_has q a (Some Spent) cells h = cells

  said_has : (x : Option T) (e : Option (Event T)) → HasOnly P x → EventHas e → SaidHasOnly P (said_of x e)
  said_has x None h k = tt
  said_has x (Some (Claim t y)) h k = tt
  said_has x (Some (Write t)) h k = tt
  said_has x (Some (Full t)) h k = h
  said_has x (Some (Grab t)) h k = tt
  said_has x (Some (Take t y)) h k = k
  said_has x (Some (Front t)) h k = tt
  said_has x (Some (Empty t)) h k = tt
  said_has x (Some (Idle t)) h k = tt
  said_has x (Some (PushBusy t)) h k = h
  said_has x (Some (PopBusy t)) h k = h
  said_has x (Some Spent) h k = h

  -- an element of a list, or another past its end
  at_or : {X : Type 0} (Q : X → Type 0) (xs : List X) (i : ℕ) (d : X) → Q d → All Q xs → Q (get_or xs i d)
  at_or Q [] i d h all = h
  at_or Q (x ∷ xs) zero d h all = All-head Q x xs all
  at_or Q (x ∷ xs) (suc i) d h all = at_or Q xs i d h (All-tail Q x xs all)

  round_has : (m : Machine T) (a : ℕ) → MachineHas P m → HasOnly P (brought (round_of m a))
  round_has m a h = at_or (λ (r : Round T). HasOnly P (brought r)) m.rounds a round.Idle tt h.rounds

  began_has : (m : Machine T) (a : ℕ) (r : Round T) → HasOnly P (brought r) → MachineHas P m → MachineHas P (began m a r)
  began_has m a r h k = record { cells = k.cells; rounds = All-set (λ s. HasOnly P (brought s)) m.rounds a r h k.rounds }

  next_has : (m : Machine T) (a : ℕ) → MachineHas P m → MoveHas (next_move m a)
  next_has m a h = move_has m.places m.queue (round_of m a) h.cells (round_has m a h)

  stepped_has : (m : Machine T) (a : ℕ) → MachineHas P m → MachineHas P (stepped m a)
  stepped_has m a h =
      let next = next_has m a h in
      record {
        cells = after_has m.queue a (next_move m a).event h.cells next.0;
        rounds = All-set (λ s. HasOnly P (brought s)) m.rounds a (next_move m a).round next.1 h.rounds;
      }

  told_has : (m : Machine T) (a : ℕ) → MachineHas P m → SaidHasOnly P (told m a)
  told_has m a h = said_has (brought (round_of m a)) (next_move m a).event (round_has m a h) (next_has m a h).0

  or_has : (x y : Option T) → HasOnly P x → HasOnly P y → HasOnly P (or_else x y)
  or_has None y h k = k
  or_has (Some x) y h k = h

  value_has : (v : Option T) (s : Said T) → HasOnly P v → SaidHasOnly P s → HasOnly P (value_in v s)
  value_has v said.Nothing h k = h
  value_has v (said.Claim t) h k = h
  value_has v (said.Write t) h k = h
  value_has v (said.Full t x) h k = or_has x v k h
  value_has v (said.Grab t) h k = h
  value_has v (said.Take t y) h k = h
  value_has v (said.Front t) h k = h
  value_has v (said.Empty t) h k = h
  value_has v (said.Idle t) h k = h
  value_has v (said.Busy t x) h k = or_has x v k h
  value_has v (said.Spent x) h k = or_has x v k h

  in_post_has : (s : Said T) → SaidHasOnly P s → SaidHasOnly P (said_in_post s)
  in_post_has said.Nothing h = tt
  in_post_has (said.Claim t) h = tt
  in_post_has (said.Write t) h = tt
  in_post_has (said.Full t x) h = tt
  in_post_has (said.Grab t) h = tt
  in_post_has (said.Take t y) h = h
  in_post_has (said.Front t) h = tt
  in_post_has (said.Empty t) h = tt
  in_post_has (said.Idle t) h = tt
  in_post_has (said.Busy t x) h = tt
  in_post_has (said.Spent x) h = tt

  call_has : (s : Side) (v : Option T) → HasOnly P v → HasOnly P (brought (call_of s v))
  call_has Push None h = tt
  call_has Push (Some x) h = h
  call_has Pop v h = tt

  hand_has : (s : Side) (v : Option T) → HasOnly P v → HasOnly P (hand_of s v)
  hand_has Push v h = tt
  hand_has Pop v h = h

  turn_has : {m : Machine T} (a : ℕ) (p : Post T) (c : Counts) (v : Option T) (f : Follows) → MachineHas P m → HasOnly P p.hand
      → HasOnly P v → MachineHas P (turn_to m a p c v f).world × HandHasOnly P (turn_to m a p c v f).post
  turn_has a p c v Stays h k l = (h, k)
  turn_has a p c v (Ends t) h k l = (h, tt)
  turn_has {m} a p c v (Leads (Ok g)) h k l = (began_has m a (call_of g.side v) (call_has g.side v l) h, hand_has g.side v l)
  turn_has a p c v (Leads (Err x)) h k l = (h, tt)

  after_step_has : (d : DeskView T) (a : ℕ) (p : Option (Post T)) → DeskHas P d → HandHasOnly P p → DeskHas P (after_step d a p)
  after_step_has d a None h k = record { world = stepped_has d.world a h.world; posts = h.posts }
  after_step_has d a (Some p) h k =
      let s = told d.world a in
      let v = value_has p.hand s k (told_has d.world a h.world) in
      let turn = turn_has a p (with_said d.counts s) (value_in p.hand s) (follows p.progress s) (stepped_has d.world a h.world) k v in
      record { world = turn.0; posts = All-set (λ q. HandHasOnly P q) d.posts a _ turn.1 h.posts }

  post_has : (d : DeskView T) (a : ℕ) → DeskHas P d → HandHasOnly P (post_of d a)
  post_has d a h = at_or (λ (p : Option (Post T)). HandHasOnly P p) d.posts a None tt h.posts

  -- after a step
  pub desk_has : (d : DeskView T) (a : ℕ) → DeskHas P d → DeskHas P (desk_stepped d a)
  desk_has d a h = after_step_has d a (post_of d a) h (post_has d a h)

  answer_has : (d : DeskView T) (a : ℕ) (p : Option (Post T)) → DeskHas P d → SaidHasOnly P (answer_of d a p).said
  answer_has d a None h = told_has d.world a h.world
  answer_has d a (Some p) h = in_post_has (told d.world a) (told_has d.world a h.world)

  -- what a step tells
  pub answer_short : (d : DeskView T) (a : ℕ) → DeskHas P d → SaidHasOnly P (desk_told d a).said
  answer_short d a h = answer_has d a (post_of d a) h

  -- after a call has begun
  pub post_began_has : (d : DeskView T) (a : ℕ) (p : Policy) (x : T) → P x → DeskHas P d → DeskHas P (post_began d a p x)
  post_began_has d a p x h k =
      record { world = began_has d.world a (round.Push x) h k.world; posts = All-set (λ q. HandHasOnly P q) d.posts a _ tt k.posts }

  -- at the start
  pub fresh_has : (n f : ℕ) → DeskHas P (fresh_desk n f)
  fresh_has n f = record {
    world = record { cells = All-nil (λ c. P c.item); rounds = All-replicate (λ r. HasOnly P (brought r)) ACTORS round.Idle tt };
    posts = All-replicate (λ p. HandHasOnly P p) ACTORS None tt;
  }

-- nothing is not something
nothing : false ≡ true → ⊥
nothing h = cc

module _ {T : Type 0} where
  -- a step is none of those that end a round
  abbrev IsStaying : Option (Event T) → Type 0
  IsStaying None = Unit {0}
  IsStaying (Some (Claim t x)) = Unit {0}
  IsStaying (Some (Write t)) = ⊥
  IsStaying (Some (Grab t)) = Unit {0}
  IsStaying (Some (Take t x)) = ⊥
  IsStaying (Some (Full t)) = ⊥
  IsStaying (Some (Front t)) = Unit {0}
  IsStaying (Some (Empty t)) = ⊥
  IsStaying (Some (Idle t)) = ⊥
  IsStaying (Some (PushBusy t)) = ⊥
  IsStaying (Some (PopBusy t)) = ⊥
  IsStaying (Some Spent) = ⊥

  abbrev EndsOr : Move T → Type 0
  EndsOr m = IsStaying m.event ⊎ (m.round ≡ round.Idle)

  taking_ends : (p : ℕ) (c : Option (Cell T)) → EndsOr (taking p c)
  taking_ends p None = inr refl
  taking_ends p (Some c) = inr refl

  -- a step is none of those, or leaves the actor in no round
  move_ends : (n : ℕ) (q : Queue T) (r : Round T) → EndsOr (move_of n q r)
  move_ends n q round.Idle = inr refl
  move_ends n q (round.Push x) = either EndsOr (q.next == last) (ends Spent) (goes_on (round.PushRead q.next x)) (inr refl) (inl tt)
  move_ends n q (round.PushRead p x) =
      let late : Bool = nat_lt p q.next && not (is_claimed (cell_of p q.cells)) in
      either EndsOr (is_blocked n p q.cells) (ends (Full p)) (cond late (ends (PushBusy p)) (goes_on (round.PushFree p x))) (inr refl)
      (either EndsOr late (ends (PushBusy p)) (goes_on (round.PushFree p x)) (inr refl) (inl tt))
  move_ends n q (round.PushFree p x) =
      either EndsOr (q.next == p) (makes (Claim p x) (round.PushClaimed p)) (ends (PushBusy p)) (inl tt) (inr refl)
  move_ends n q (round.PushClaimed p) = inr refl
  move_ends n q round.Pop = inl tt
  move_ends n q (round.PopRead p) =
      let unwritten : Bool = p == q.front && (is_none (cell_of p q.cells) || is_claimed (cell_of p q.cells)) in
      let late : Bool = nat_lt p q.front && is_none (cell_of p q.cells) in
      either EndsOr unwritten (makes (Front p) (round.PopFronted p)) (cond late (ends (PopBusy p)) (goes_on (round.PopReady p))) (inl tt)
      (either EndsOr late (ends (PopBusy p)) (goes_on (round.PopReady p)) (inr refl) (inl tt))
  move_ends n q (round.PopReady p) =
      either EndsOr (q.front == p) (makes (Grab p) (round.PopGrabbed p)) (ends (PopBusy p)) (inl tt) (inr refl)
  move_ends n q (round.PopGrabbed p) = taking_ends p (cell_of p q.cells)
  move_ends n q (round.PopFronted p) = either EndsOr (q.next == p) (ends (Idle p)) (ends (Empty p)) (inr refl) (inr refl)

  -- a post does not end with one of those
  stays_on : (m : Machine T) (a : ℕ) (p : Post T) (c : Counts) (x : Option T) (e : Option (Event T)) → IsStaying e
      → IsSome (turn_of m a p c (said_of x e)).outcome → ⊥
  stays_on m a p c x None h k = nothing k
  stays_on m a p c x (Some (Claim t y)) h k = nothing k
  stays_on m a p c x (Some (Write t)) h k = h
  stays_on m a p c x (Some (Grab t)) h k = nothing k
  stays_on m a p c x (Some (Take t y)) h k = h
  stays_on m a p c x (Some (Full t)) h k = h
  stays_on m a p c x (Some (Front t)) h k = nothing k
  stays_on m a p c x (Some (Empty t)) h k = h
  stays_on m a p c x (Some (Idle t)) h k = h
  stays_on m a p c x (Some (PushBusy t)) h k = h
  stays_on m a p c x (Some (PopBusy t)) h k = h
  stays_on m a p c x (Some Spent) h k = h

  -- where a post ends, the machine is as its step left it
  ended_world : (m : Machine T) (a : ℕ) (p : Post T) (c : Counts) (v : Option T) (f : Follows)
      → IsSome (turn_to m a p c v f).outcome → (turn_to m a p c v f).world ≡ m
  ended_world m a p c v Stays k = absurd (nothing k)
  ended_world m a p c v (Ends t) k = refl
  ended_world m a p c v (Leads (Ok g)) k = absurd (nothing k)
  ended_world m a p c v (Leads (Err x)) k = refl

  ended : (d : DeskView T) (a : ℕ) (p : Option (Post T)) → a < length d.world.rounds → IsSome (answer_of d a p).outcome
      → is_idle (round_of (after_step d a p).world a) ≡ true
  ended d a None lt k = absurd (nothing k)
  ended d a (Some p) lt k =
      let w = d.world in
      let s = told w a in
      let same = ended_world (stepped w a) a p (with_said d.counts s) (value_in p.hand s) (follows p.progress s) k in
      let there : round_of (stepped w a) a ≡ (next_move w a).round = get_or-set_same w.rounds a (next_move w a).round round.Idle lt in
      let over : (next_move w a).round ≡ round.Idle =
      elim (move_ends w.places w.queue (round_of w a)) [
        | inl stays ↦ absurd (stays_on (stepped w a) a p d.counts (brought (round_of w a)) (next_move w a).event stays k)
        | inr idle ↦ idle
      ] in
      ap (λ (m : Machine T). is_idle (round_of m a)) same ∙ ap is_idle (there ∙ over)

  -- an actor whose post ends is in no round then
  pub ended_idle : (d : DeskView T) (a : ℕ) → a < length d.world.rounds → IsSome (desk_told d a).outcome
      → is_idle (round_of (desk_stepped d a).world a) ≡ true
  ended_idle d a lt k = ended d a (post_of d a) lt k
