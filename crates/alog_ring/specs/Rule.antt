-- What holds of a ring between any two steps: of the history, of what each pass knows, and of the words and places.
-- It is said of any kind of place: what lies in a place `has` an item, or is the `spare` for a ticket after a history.
use Rattle.std.specs.Prelude.{◌≡◌, ◌≢◌, ℕ, ◌+◌, ◌*◌, ◌%◌, ◌<◌, ◌≤◌, ◌⊎◌, List, [], length, slice_index, Some, None}
use Rattle.std.specs.List.{AllByRecursion, sum_by}
use mathlib.Core.Option.{Option, some}
use mathlib.Core.List.{IsPrefix}
use lib.ListN.{get_elem?}
use Rattle.atomic_table.specs.Table.{State}
use Rattle.alog_core.specs.declared.mark.Mark.{Mark}
use Rattle.alog_core.specs.declared.mark.Mark.TheVariants.{Claimed, Written, Emptying}
use Rattle.alog_core.specs.Queue.{Cell, Queue, Front, last, cell_of, HasCell, IsRoom, IsWritten}
use Rattle.alog_core.specs.History.{Entry, own_of, last_event, StandsFor}
use Rattle.alog_ring.specs.declared.words.TheConstants.{NEXT, FRONT, SEQUENCES, APART}
use Rattle.alog_ring.specs.declared.TheConstants.{ALL_PARTS}
use Rattle.alog_ring.specs.Known.{Member, Known, IsAmong, AreDistinct}
use Rattle.alog_ring.specs.Made.{AreExact}
use Rattle.alog_ring.specs.Sight.{Stage, Idle, Fresh, SawNext, SawFree, Writing, SawFront, SawFull, Reading, SawUnwritten, Joined}
use Rattle.alog_ring.specs.Sight.{Lent, Gone, Sight}

-- where the sequence of a ticket's place lies, and how many words there are
abbrev pub seq_of : ℕ → ℕ → ℕ
seq_of n t = t % n * APART + SEQUENCES

abbrev pub word_count : ℕ → ℕ
word_count n = n * APART + SEQUENCES

module _ {T N : Type 0} where
  abbrev pub parts_of : Sight T N → ℕ
  parts_of v = v.known.parts

  -- a seat without parts
  abbrev pub IsRetired : List (Sight T N) → ℕ → Type 0
  IsRetired views a = (v : Sight T N) × (get_elem? views a ≡ some v) × (v.known.parts ≡ 0)

  -- the actor was joined into a pass that has parts
  abbrev pub IsTakenIn : List (Sight T N) → ℕ → Type 0
  IsTakenIn views a = (j : ℕ) × (u : Sight T N) × (get_elem? views j ≡ some u) × (0 < u.known.parts)
      × IsAmong a u.known.joined

  -- a seat with parts has exactly its own entries of the history, and those of its members
  pub record HasEntries (h : List (Entry T N)) (views : List (Sight T N)) (a : ℕ) (k : Known T N) : Type 0 where
    pub own : k.own ≡ own_of a h
    pub joined : AreExact k.joined h
    pub retired : AllByRecursion (λ (c : Member T N). IsRetired views c.actor) k.joined

  -- The history against the views.
  pub record Told (n f : ℕ) (h : List (Entry T N)) (views : List (Sight T N)) : Type 0 where
    pub places : (a : ℕ) (v : Sight T N) → get_elem? views a ≡ some v → 0 < v.known.parts → v.known.places ≡ n
    pub first : (a : ℕ) (v : Sight T N) → get_elem? views a ≡ some v → 0 < v.known.parts → v.known.first ≡ f
    pub seen : (a : ℕ) (v : Sight T N) → get_elem? views a ≡ some v → IsPrefix v.known.seen h
    pub entries : (a : ℕ) (v : Sight T N) → get_elem? views a ≡ some v → 0 < v.known.parts → HasEntries h views a v.known
    pub without : (a : ℕ) (v : Sight T N) → get_elem? views a ≡ some v → v.known.parts ≡ 0
        → (own_of a h ≡ []) ⊎ IsTakenIn views a
    pub distinct : (a : ℕ) (v : Sight T N) → get_elem? views a ≡ some v → 0 < v.known.parts → AreDistinct v.known.joined
    pub once : (a : ℕ) (v : Sight T N) → get_elem? views a ≡ some v → 0 < v.known.parts → (b : ℕ) (w : Sight T N)
        → get_elem? views b ≡ some w → 0 < w.known.parts → b ≢ a → (c : ℕ) → IsAmong c v.known.joined
        → ¬ IsAmong c w.known.joined
    pub unborn : (a : ℕ) → length views ≤ a → own_of a h ≡ []
    pub whole : sum_by parts_of views ≡ ALL_PARTS

  abbrev pub IsAtWork : ℕ → Known T N → Type 0
  IsAtWork a k = (k.actor ≡ a) × (0 < k.parts)

  -- What a seat at this stage knows of the queue. Who found the front unwritten has made nothing since.
  abbrev pub Knows : ℕ → List (Entry T N) → Queue T → ℕ → Known T N → Stage T N → Type 0
  Knows n h q a k Idle = IsAtWork a k
  Knows n h q a k Fresh = Unit {0}
  Knows n h q a k (SawNext t) = IsAtWork a k × (t ≤ q.next)
  Knows n h q a k (SawFree t) = IsAtWork a k × (t ≤ q.next) × IsRoom n t q.cells
  Knows n h q a k (Writing t x) = IsAtWork a k × HasCell q.cells t Claimed x a
  Knows n h q a k (SawFront t) = IsAtWork a k × (t ≤ q.front)
  Knows n h q a k (SawFull t) = IsAtWork a k × (t ≤ q.front) × (q.front ≤ t → IsWritten t q.cells)
  Knows n h q a k (Reading t x) = IsAtWork a k × HasCell q.cells t Emptying x a
  Knows n h q a k (SawUnwritten t) = IsAtWork a k × (t ≤ q.front) × (last_event None k.own ≡ Some (Front t))
  Knows n h q a k (Joined s) = IsAtWork a k × IsPrefix s h
  Knows n h q a k Lent = Unit {0}
  Knows n h q a k Gone = Unit {0}

  -- The queue against the stages: and whoever has a cell is at work on it.
  pub record Staged (n : ℕ) (h : List (Entry T N)) (q : Queue T) (views : List (Sight T N)) : Type 0 where
    pub knows : (a : ℕ) (v : Sight T N) → get_elem? views a ≡ some v → Knows n h q a v.known v.stage
    pub writers : (t : ℕ) (x : T) (a : ℕ) → HasCell q.cells t Claimed x a → (v : Sight T N) × (get_elem? views a ≡ some v)
        × (v.stage ≡ Writing t x)
    pub readers : (t : ℕ) (x : T) (a : ℕ) → HasCell q.cells t Emptying x a → (v : Sight T N) × (get_elem? views a ≡ some v)
        × (v.stage ≡ Reading t x)

module _ {S T N : Type 0} (has : S → T → Type 0) (spare : ℕ → List (Entry T N) → ℕ → S → Type 0) where
  -- the sequence of a ticket's place, and the value that lies there, which is out while a cell is claimed or emptied
  abbrev pub ShowsCell : ℕ → ℕ → Option (Option S) → T → Mark → Type 0
  ShowsCell t word home x Claimed = word ≡ t
  ShowsCell t word home x Written = (word ≡ t + 1) × ((y : S) × (home ≡ some (some y)) × has y x)
  ShowsCell t word home x Emptying = word ≡ t + 1

  -- The queue against the words and the places.
  pub record Shown (n : ℕ) (h : List (Entry T N)) (q : Queue T) (words : List ℕ) (homes : List (Option S)) : Type 0 where
    pub wide : length words ≡ word_count n
    pub places : length homes ≡ n
    pub next : slice_index words NEXT ≡ q.next
    pub front : slice_index words FRONT ≡ q.front
    pub bounded : q.next ≤ last
    pub cells : (t : ℕ) (c : Cell T) → cell_of t q.cells ≡ Some c
        → ShowsCell t (slice_index words (seq_of n t)) (get_elem? homes (t % n)) c.item c.mark
    pub free : (t : ℕ) → q.next ≤ t → t < q.next + n → IsRoom n t q.cells → (slice_index words (seq_of n t) ≡ t)
        × ((y : S) × (get_elem? homes (t % n) ≡ some (some y)) × spare n h t y)

  -- The rule of a ring of n places with first ticket f.
  pub record Ruled (n f : ℕ) (s : State S (Sight T N)) : Type 0 where
    pub history : List (Entry T N)
    pub queue : Queue T
    pub two : 2 ≤ n
    pub stands : StandsFor n f history queue
    pub told : Told n f history s.views
    pub staged : Staged n history queue s.views
    pub shown : Shown n history queue s.words s.homes
