-- What a seat at the ring's table knows: what its pass knows, and where the pass stands in a call.
use Rattle.std.specs.Prelude.{ℕ, List}
use Rattle.alog_core.specs.History.{Entry}
use Rattle.alog_ring.specs.Known.{Known, first_known}

-- Where a pass stands in a call, and what it brings or has read.
pub data Stage (T N : Type 0) : Type 0 where
  -- in no call
  Idle : Stage T N
  -- just split off: it has not learned its number
  Fresh : Stage T N
  -- a push has read the next ticket, found its place free, and claimed it
  SawNext : (ticket : ℕ) → Stage T N
  SawFree : (ticket : ℕ) → Stage T N
  Writing : (ticket : ℕ) (item : T) → Stage T N
  -- a pop has read the front ticket, found it written, and grabbed it
  SawFront : (ticket : ℕ) → Stage T N
  SawFull : (ticket : ℕ) → Stage T N
  Reading : (ticket : ℕ) (item : T) → Stage T N
  -- a pop has read the front ticket, and found it unwritten
  SawUnwritten : (ticket : ℕ) → Stage T N
  -- another that had seen this was joined into it
  Joined : (seen : List (Entry T N)) → Stage T N
  -- without parts: on its way from one pass to another, or joined into another
  Lent : Stage T N
  Gone : Stage T N

pub record Sight (T N : Type 0) : Type 0 where
  pub stage : Stage T N
  pub known : Known T N

abbrev pub first_sight : {T N : Type 0} → ℕ → ℕ → Sight T N
first_sight n f = record { stage = Idle; known = first_known n f }
