-- What a table of words and places keeps, and what one step of it does.
use Rattle.std.specs.Prelude.{◌≡◌, ℕ, zero, suc, ◌+◌, ◌-◌, ◌%◌, ◌==◌, ◌≤◌, nat_lt, true, if◌then◌else◌, Option, None, Some}
use Rattle.std.specs.Prelude.{List, [], ◌∷◌, length, slice_index, slice_index_or}
use Rattle.alog_core.specs.Queue.{Cell, Queue, IsSound, last}
use Rattle.alog_core.specs.Round.{move_of, after_event}
use Rattle.alog_core.specs.World.{is_size, brought, said_of}
use Rattle.alog_core.specs.Words.{IsByPlace, AreSequences}
use Rattle.alog_core.specs.declared.mark.Mark.{Mark}
use Rattle.alog_core.specs.declared.mark.Mark.TheVariants.{Claimed, Written, Emptying}
use Rattle.alog_core.specs.declared.round.Round.{Round}
use Rattle.alog_core.specs.declared.said.Said.{Said}
use Rattle.alog_core.specs.declared.table.Held.{Held}
use Rattle.alog_core.specs.declared.table.Table.{Table}

-- the mark that a sequence tells of a ticket whose item lies in its place
abbrev pub mark_by : ℕ → ℕ → ℕ → Mark
mark_by front t s = if s == t then Claimed else if nat_lt t front then Emptying else Written

-- the cell of a ticket, by the sequence of its place and what lies there
abbrev pub cell_by : {T : Type 0} → ℕ → ℕ → ℕ → Option (Held T) → Option (Cell T)
cell_by front t s None = None
cell_by front t s (Some h) = Some (record { ticket = t; mark = mark_by front t s; item = h.item; actor = h.actor })

abbrev pub before_cells : {T : Type 0} → Option (Cell T) → List (Cell T) → List (Cell T)
before_cells None cs = cs
before_cells (Some c) cs = c ∷ cs

-- the cells of k tickets from t on, each as it is read
abbrev pub cells_from : {T : Type 0} → (ℕ → Option (Cell T)) → ℕ → ℕ → List (Cell T)
cells_from read t zero = []
cells_from read t (suc k) = before_cells (read t) (cells_from read (t + 1) k)

-- how many places a table has
abbrev pub places_of : {T : Type 0} → Table T → ℕ
places_of t = t.mask + 1

abbrev pub read_in : {T : Type 0} → Table T → ℕ → Option (Cell T)
read_in t u =
    cell_by t.front u (slice_index t.sequences.items (u % places_of t)) (slice_index_or t.slots.items (u % places_of t) None)

-- the queue that a table keeps: the last tickets, at most as many as places, are read from their places
abbrev pub queue_in : {T : Type 0} → Table T → Queue T
queue_in t =
    let low = t.next - places_of t in
    record { next = t.next; front = t.front; cells = cells_from (read_in t) low (t.next - low) }

-- what lies in a place
abbrev pub held : {T : Type 0} → T → ℕ → Held T
held x a = record { item = x; actor = a }

-- What lies in each place: the item of its ticket's cell with its actor, or nothing.
pub record AreHeld {T : Type 0} (n : ℕ) (q : Queue T) (slots : List (Option (Held T))) : Type 0 where
  pub count : length slots ≡ n
  pub places : IsByPlace n q (λ i. slice_index_or slots i None) (λ t c. Some (held c.item c.actor)) (λ t. None)

-- The words and places of a table stand for its queue.
pub record Shows {T : Type 0} (t : Table T) : Type 0 where
  pub sequences : AreSequences (places_of t) (queue_in t) t.sequences.items
  pub slots : AreHeld (places_of t) (queue_in t) t.slots.items

-- What holds of a table before each step.
pub record IsTable {T : Type 0} (t : Table T) : Type 0 where
  pub size : is_size (places_of t) ≡ true
  pub sound : IsSound (places_of t) (queue_in t)
  pub issued : t.next ≤ last
  pub shows : Shows t

-- The next step of actor a in round r was made: its answer, where it leaves the actor, and the queue after it.
pub record Advances {T : Type 0} (old new : Table T) (a : ℕ) (r : Round T) (answer : Said T × Round T) : Type 0 where
  pub said : answer.0 ≡ said_of (brought r) (move_of (places_of old) (queue_in old) r).event
  pub round : answer.1 ≡ (move_of (places_of old) (queue_in old) r).round
  pub queue : queue_in new ≡ after_event (queue_in old) a (move_of (places_of old) (queue_in old) r).event
  pub mask : new.mask ≡ old.mask
  pub shows : Shows new
