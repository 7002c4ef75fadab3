-- The queue as its users see it: cells in the order of their tickets, and no word, mask or place.
-- The rule is that of Dmitry Vyukov's bounded queue for many producers and many consumers (1024cores.net).
use Rattle.std.specs.Prelude.{◌≡◌, ℕ, ◌+◌, ◌-◌, ◌<◌, ◌≤◌, ◌==◌, ◌⊎◌, ◌↔◌, if◌then◌else◌, Option, None, Some, List, [], ◌∷◌, ◌++◌}
use Rattle.alog_core.specs.declared.TheConstants.{TICKET_END}
use Rattle.alog_core.specs.declared.mark.Mark.{Mark}
use Rattle.alog_core.specs.declared.mark.Mark.TheVariants.{Claimed, Written, Emptying}

-- One ticket of the queue: how far it has come, its item, and its actor, who is the claimer, and from the grab on the taker.
pub record Cell (T : Type 0) : Type 0 where
  pub ticket : ℕ
  pub mark : Mark
  pub item : T
  pub actor : ℕ

-- The next ticket to claim, the front ticket, which is the next to grab, and the cells, rising by ticket.
pub record Queue (T : Type 0) : Type 0 where
  pub next : ℕ
  pub front : ℕ
  pub cells : List (Cell T)

-- What one atomic step of an actor can be for the queue.
pub data Event (T : Type 0) : Type 0 where
  Claim : (ticket : ℕ) (item : T) → Event T
  Write : (ticket : ℕ) → Event T
  Grab : (ticket : ℕ) → Event T
  Take : (ticket : ℕ) (item : T) → Event T
  Full : (ticket : ℕ) → Event T
  Front : (ticket : ℕ) → Event T
  Empty : (ticket : ℕ) → Event T
  Idle : (ticket : ℕ) → Event T
  PushBusy : (ticket : ℕ) → Event T
  PopBusy : (ticket : ℕ) → Event T
  Spent : Event T

-- no ticket is as large: tickets are below it
abbrev pub last : ℕ
last = TICKET_END

-- an empty queue whose first ticket is f
abbrev pub start : {T : Type 0} → ℕ → Queue T
start f = record { next = f; front = f; cells = [] }

-- the cell of a ticket
abbrev pub cell_of : {T : Type 0} → ℕ → List (Cell T) → Option (Cell T)
cell_of t [] = None
cell_of t (c ∷ cs) = if c.ticket == t then Some c else cell_of t cs

-- the cells, that of the ticket with this mark and this actor
abbrev pub marked : {T : Type 0} → ℕ → Mark → ℕ → List (Cell T) → List (Cell T)
marked t m a [] = []
marked t m a (c ∷ cs) =
    if c.ticket == t then record { ticket = c.ticket; mark = m; item = c.item; actor = a } ∷ cs else c ∷ marked t m a cs

-- the cells but that of the ticket
abbrev pub without : {T : Type 0} → ℕ → List (Cell T) → List (Cell T)
without t [] = []
without t (c ∷ cs) = if c.ticket == t then cs else c ∷ without t cs

-- the ticket has a cell
abbrev pub IsListed : {T : Type 0} → ℕ → List (Cell T) → Type 0
IsListed {T} t cs = (c : Cell T) × (cell_of t cs ≡ Some c)

-- the ticket has this very cell
abbrev pub HasCell : {T : Type 0} → List (Cell T) → ℕ → Mark → T → ℕ → Type 0
HasCell cs t m x a = cell_of t cs ≡ Some (record { ticket = t; mark = m; item = x; actor = a })

-- the ticket n before this one is listed still, so its place is not free
abbrev pub IsBlocked : {T : Type 0} → ℕ → ℕ → List (Cell T) → Type 0
IsBlocked n t cs = (u : ℕ) × (u + n ≡ t) × IsListed u cs

-- the ticket n before this one is not listed, so its place is free
abbrev pub IsRoom : {T : Type 0} → ℕ → ℕ → List (Cell T) → Type 0
IsRoom n t cs = (u : ℕ) → u + n ≡ t → cell_of u cs ≡ None

-- the ticket is written: it may be handed out
abbrev pub IsWritten : {T : Type 0} → ℕ → List (Cell T) → Type 0
IsWritten {T} t cs = (x : T) × (a : ℕ) × HasCell cs t Written x a

-- the ticket is not there, or claimed and not yet written
abbrev pub IsUnwritten : {T : Type 0} → ℕ → List (Cell T) → Type 0
IsUnwritten {T} t cs = (cell_of t cs ≡ None) ⊎ ((x : T) × (a : ℕ) × HasCell cs t Claimed x a)

-- Where a refusal is true. A refusal changes nothing. A pop that finds the front unwritten looks at the end next: the queue is
-- idle where both ends are that ticket, and is called empty where the end is past it. The ticket was claimed then, so its item
-- is on its way, or has come since the first look.
abbrev pub Refuses : {T : Type 0} → ℕ → Queue T → Event T → Type 0
Refuses n q (Full t) = (t ≡ q.next) × IsBlocked n t q.cells
Refuses n q (Front t) = (t ≡ q.front) × IsUnwritten t q.cells
Refuses n q (Empty t) = t < q.next
Refuses n q (Idle t) = (t ≡ q.next) × (t ≡ q.front)
Refuses n q (PushBusy t) = t < q.next
Refuses n q (PopBusy t) = t < q.front
Refuses n q Spent = q.next ≡ last
Refuses n q (Claim t x) = ⊥
Refuses n q (Write t) = ⊥
Refuses n q (Grab t) = ⊥
Refuses n q (Take t x) = ⊥

-- What an actor may do to a queue of n places.
abbrev pub Allows : {T : Type 0} → ℕ → Queue T → ℕ → Event T → Type 0
Allows n q a (Claim t x) = (t ≡ q.next) × (t < last) × IsRoom n t q.cells
Allows {T} n q a (Write t) = (x : T) × HasCell q.cells t Claimed x a
Allows n q a (Grab t) = (t ≡ q.front) × IsWritten t q.cells
Allows n q a (Take t x) = HasCell q.cells t Emptying x a
Allows n q a (Full t) = Refuses n q (Full t)
Allows n q a (Front t) = Refuses n q (Front t)
Allows n q a (Empty t) = Refuses n q (Empty t)
Allows n q a (Idle t) = Refuses n q (Idle t)
Allows n q a (PushBusy t) = Refuses n q (PushBusy t)
Allows n q a (PopBusy t) = Refuses n q (PopBusy t)
Allows n q a Spent = Refuses n q Spent

-- The queue after an event: a claim appends its cell, a write and a grab mark it, a take removes it.
abbrev pub after : {T : Type 0} → Queue T → ℕ → Event T → Queue T
after q a (Claim t x) =
    record q { next = q.next + 1; cells = q.cells ++ record { ticket = t; mark = Claimed; item = x; actor = a } ∷ [] }
after q a (Write t) = record q { cells = marked t Written a q.cells }
after q a (Grab t) = record q { front = q.front + 1; cells = marked t Emptying a q.cells }
after q a (Take t x) = record q { cells = without t q.cells }
after q a (Full t) = q
after q a (Front t) = q
after q a (Empty t) = q
after q a (Idle t) = q
after q a (PushBusy t) = q
after q a (PopBusy t) = q
after q a Spent = q

-- tickets rise, from low on and below high
abbrev pub Rises : {T : Type 0} → ℕ → List (Cell T) → ℕ → Type 0
Rises low [] high = low ≤ high
Rises low (c ∷ cs) high = (low ≤ c.ticket) × Rises (c.ticket + 1) cs high

-- The facts of every queue of n places that legal events lead to.
pub record IsSound {T : Type 0} (n : ℕ) (q : Queue T) : Type 0 where
  pub ordered : q.front ≤ q.next
  -- in ticket order, and each of the last n tickets, so there are at most n
  pub rising : Rises (q.next - n) q.cells q.next
  -- each ticket from the front on is there
  pub listed : (t : ℕ) → q.front ≤ t → t < q.next → IsListed t q.cells
  -- a cell is being emptied exactly if its ticket is before the front
  pub emptied : (t : ℕ) (c : Cell T) → cell_of t q.cells ≡ Some c → (c.mark ≡ Emptying) ↔ (t < q.front)
