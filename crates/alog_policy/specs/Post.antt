-- A post: a value is brought into the queue under a policy. What it was is told by the events of its actor alone: rounds that
-- go on, and then one end. The first table names the kinds of round that goes on, the second the kinds of end.
use Rattle.std.specs.Prelude.{◌≡◌, ℕ, ◌+◌, ◌<◌, List, [], ◌∷◌, ◌++◌, length}
use Rattle.std.specs.List.{AllByRecursion}
use Rattle.alog_core.specs.Queue.{Event, Claim, Write, Grab, Take, Full, Front, Empty, Idle, PushBusy, PopBusy, Spent}
use Rattle.alog_policy.specs.declared.TheConstants.{ROUNDS_MAX}
use Rattle.alog_policy.specs.declared.policy.Policy.{Policy}
use Rattle.alog_policy.specs.declared.policy.Policy.TheVariants.{Block, OverrunOldest, DiscardNew}
use Rattle.alog_policy.specs.declared.policy.Why.TheVariants as why
use Rattle.alog_policy.specs.declared.policy.Outcome.{Outcome}
use Rattle.alog_policy.specs.declared.policy.Outcome.TheVariants.{Posted, Discarded}

-- A round that goes on.
pub data Round (T : Type 0) : Type 0 where
  -- another push was faster
  PushBeaten : (ticket : ℕ) → Round T
  -- the queue was full, and its oldest item was taken out, which is one loss
  Overran : (full oldest : ℕ) (lost : T) → Round T
  -- the queue was full, and another pop was faster
  PopBeaten : (full oldest : ℕ) → Round T
  -- the queue was full, and the post waits for room
  Waited : (full : ℕ) → Round T

-- the table of the rounds that go on: their events
abbrev pub events_of_round : {T : Type 0} → Round T → List (Event T)
events_of_round (PushBeaten t) = PushBusy t ∷ []
events_of_round (Overran f t y) = Full f ∷ Grab t ∷ Take t y ∷ []
events_of_round (PopBeaten f t) = Full f ∷ PopBusy t ∷ []
events_of_round (Waited f) = Full f ∷ []

-- and under which policies a post makes them
abbrev pub IsRoundUnder : {T : Type 0} → Policy → Round T → Type 0
IsRoundUnder p (PushBeaten t) = Unit {0}
IsRoundUnder p (Overran f t y) = p ≡ OverrunOldest
IsRoundUnder p (PopBeaten f t) = p ≡ OverrunOldest
IsRoundUnder p (Waited f) = p ≡ Block

-- The end of a post.
pub data End : Type 0 where
  -- the item is in the queue
  Wrote : (ticket : ℕ) → End
  -- no ticket is left
  OutOfTickets : End
  -- the queue was full
  NoRoom : (full : ℕ) → End
  -- the queue was full, and its front ticket was not written yet, though claimed
  NothingToTake : (full oldest : ℕ) → End
  -- the queue was full, and others had grabbed all of it: no ticket was there to take
  AllGrabbed : (full front : ℕ) → End
  -- as many rounds as may be went on
  OutOfRounds : End

-- the table of the ends: the events of a post that brings this item
abbrev pub events_of_end : {T : Type 0} → T → End → List (Event T)
events_of_end x (Wrote t) = Claim t x ∷ Write t ∷ []
events_of_end x OutOfTickets = Spent ∷ []
events_of_end x (NoRoom f) = Full f ∷ []
events_of_end x (NothingToTake f t) = Full f ∷ Front t ∷ Empty t ∷ []
events_of_end x (AllGrabbed f t) = Full f ∷ Front t ∷ Idle t ∷ []
events_of_end x OutOfRounds = []

-- under which policies, and after how many rounds that count, a post ends so
abbrev pub IsEndUnder : Policy → ℕ → End → Type 0
IsEndUnder p k (Wrote t) = k < ROUNDS_MAX
IsEndUnder p k OutOfTickets = k < ROUNDS_MAX
IsEndUnder p k (NoRoom f) = (k < ROUNDS_MAX) × (p ≡ DiscardNew)
IsEndUnder p k (NothingToTake f t) = (k < ROUNDS_MAX) × (p ≡ OverrunOldest)
IsEndUnder p k (AllGrabbed f t) = (k < ROUNDS_MAX) × (p ≡ OverrunOldest)
IsEndUnder p k OutOfRounds = k ≡ ROUNDS_MAX

-- and what the one who posted is answered, who brought v and overran k items
abbrev pub outcome_of : {V : Type 0} → V → ℕ → End → Outcome V
outcome_of v k (Wrote t) = Posted t k
outcome_of v k OutOfTickets = Discarded v why.Spent k
outcome_of v k (NoRoom f) = Discarded v why.Full k
outcome_of v k (NothingToTake f t) = Discarded v why.Stalled k
outcome_of v k (AllGrabbed f t) = Discarded v why.Stalled k
outcome_of v k OutOfRounds = Discarded v why.Busy k

-- how many of so many rounds count: under block none, so that any number follow
abbrev pub counted : Policy → ℕ → ℕ
counted Block k = 0
counted OverrunOldest k = k
counted DiscardNew k = k

-- the events of rounds, one after another
abbrev pub events_of_rounds : {T : Type 0} → List (Round T) → List (Event T)
events_of_rounds [] = []
events_of_rounds (r ∷ rs) = events_of_round r ++ events_of_rounds rs

-- one for a take
abbrev pub take_in : {T : Type 0} → Event T → ℕ
take_in (Claim t x) = 0
take_in (Write t) = 0
take_in (Grab t) = 0
take_in (Take t x) = 1
take_in (Full t) = 0
take_in (Front t) = 0
take_in (Empty t) = 0
take_in (Idle t) = 0
take_in (PushBusy t) = 0
take_in (PopBusy t) = 0
take_in Spent = 0

-- how many of these events are takes
abbrev pub takes_in : {T : Type 0} → List (Event T) → ℕ
takes_in [] = 0
takes_in (e ∷ es) = take_in e + takes_in es

-- one for a write
abbrev pub write_in : {T : Type 0} → Event T → ℕ
write_in (Claim t x) = 0
write_in (Write t) = 1
write_in (Grab t) = 0
write_in (Take t x) = 0
write_in (Full t) = 0
write_in (Front t) = 0
write_in (Empty t) = 0
write_in (Idle t) = 0
write_in (PushBusy t) = 0
write_in (PopBusy t) = 0
write_in Spent = 0

-- how many of these events are writes
abbrev pub writes_in : {T : Type 0} → List (Event T) → ℕ
writes_in [] = 0
writes_in (e ∷ es) = write_in e + writes_in es

-- These events are one post under this policy: it brought v, of which a cell shows the item x, and ended with this outcome.
pub record IsPost {T V : Type 0} (p : Policy) (x : T) (v : V) (events : List (Event T)) (outcome : Outcome V) : Type 0 where
  pub rounds : List (Round T)
  pub end : End
  pub go_on : AllByRecursion (IsRoundUnder p) rounds
  pub ends : IsEndUnder p (counted p (length rounds)) end
  pub events_are : events ≡ events_of_rounds rounds ++ events_of_end x end
  -- it overran as many items as it took
  pub outcome_is : outcome ≡ outcome_of v (takes_in events) end

-- the losses of a post: the items that it overran, and itself where it was discarded
abbrev pub overran_in : {V : Type 0} → Outcome V → ℕ
overran_in (Posted t k) = k
overran_in (Discarded v w k) = k

abbrev pub discards_in : {V : Type 0} → Outcome V → ℕ
discards_in (Posted t k) = 0
discards_in (Discarded v w k) = 1

-- What a post under way has done of the round that it is in.
pub data Part : Type 0 where
  -- it pushes, and nothing of it is seen yet
  Pushing : Part
  -- it claimed a ticket, and has not written it yet
  Claimed : (ticket : ℕ) → Part
  -- the queue was full, and it pops
  Popping : (full : ℕ) → Part
  -- it grabbed the oldest item, and has not taken it yet
  Grabbed : (full oldest : ℕ) → Part
  -- it found the front not written, and has not looked at the end yet
  Fronted : (full front : ℕ) → Part

abbrev pub events_of_part : {T : Type 0} → T → Part → List (Event T)
events_of_part x Pushing = []
events_of_part x (Claimed t) = Claim t x ∷ []
events_of_part x (Popping f) = Full f ∷ []
events_of_part x (Grabbed f t) = Full f ∷ Grab t ∷ []
events_of_part x (Fronted f t) = Full f ∷ Front t ∷ []

abbrev pub IsPartUnder : Policy → Part → Type 0
IsPartUnder p Pushing = Unit {0}
IsPartUnder p (Claimed t) = Unit {0}
IsPartUnder p (Popping f) = p ≡ OverrunOldest
IsPartUnder p (Grabbed f t) = p ≡ OverrunOldest
IsPartUnder p (Fronted f t) = p ≡ OverrunOldest

-- These events are the beginning of a post under this policy which brings the item x: so many of its rounds count, it overran
-- so many items, and this is what it has done of the round that it is in.
pub record IsUnderWay {T : Type 0} (p : Policy) (x : T) (k overran : ℕ) (part : Part) (events : List (Event T)) : Type 0 where
  pub rounds : List (Round T)
  pub go_on : AllByRecursion (IsRoundUnder p) rounds
  pub count : k ≡ counted p (length rounds)
  pub within : k < ROUNDS_MAX
  pub of_part : IsPartUnder p part
  pub events_are : events ≡ events_of_rounds rounds ++ events_of_part x part
  pub overran_is : overran ≡ takes_in events
