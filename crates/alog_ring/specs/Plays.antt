-- What each step tells the seat that makes it.
use Rattle.std.specs.Prelude.{◌≡◌, ◌≢◌, ℕ, ◌+◌, ◌%◌, ◌<◌, ◌≤◌, List, [], ◌∷◌}
use mathlib.Core.Option.{some}
use Rattle.atomic_table.specs.Table.{Me, Step, rest}
use Rattle.alog_core.specs.Queue as queue
use Rattle.alog_core.specs.Queue.{Event, Claim, Write, Grab, Take, Full, Front, Empty, PushBusy, PopBusy, Spent, last}
use Rattle.alog_core.specs.History.{Entry}
use Rattle.alog_ring.specs.Made.{Made, Adds, next_seen, front_seen}
use Rattle.alog_ring.specs.Sight.{Stage, Idle, SawNext, SawFree, Writing, SawFront, SawFull, Reading, SawUnwritten, Sight}

module _ {S T N : Type 0} where
  -- the pass only looked, and stands at this stage
  abbrev pub Looks : Me S (Sight T N) → Me S (Sight T N) → Stage T N → Type 0
  Looks m m' stage = Made m.0.known m'.0.known [] × (m'.0.stage ≡ stage) × (m'.1 ≡ m.1)

  -- it made this entry, and stands at this stage
  abbrev pub Acts : N → Me S (Sight T N) → Me S (Sight T N) → Event T → Stage T N → Type 0
  Acts note m m' e stage = Adds note m.0.known m'.0.known e × (m'.0.stage ≡ stage)

  -- it made this entry, stands at this stage, and no place is out with it that was not before
  abbrev pub Tells : N → Me S (Sight T N) → Me S (Sight T N) → Event T → Stage T N → Type 0
  Tells note m m' e stage = Acts note m m' e stage × (m'.1 ≡ m.1)

  -- its round is over with this entry
  abbrev pub Ends : N → Me S (Sight T N) → Me S (Sight T N) → Event T → Type 0
  Ends note m m' e = Tells note m m' e Idle

  -- A push reads the next ticket,
  abbrev pub saw_next : N → Me S (Sight T N) → ℕ → Me S (Sight T N) → Type 0
  saw_next blank m r m' = (next_seen m.0.known ≤ r) × (r ≤ last) × (r ≡ last → Ends blank m m' Spent)
      × (r < last → Looks m m' (SawNext r))

  -- reads the sequence of its ticket's place,
  abbrev pub saw_free : N → ℕ → Me S (Sight T N) → ℕ → Me S (Sight T N) → Type 0
  saw_free blank t m r m' = (r ≡ t → Looks m m' (SawFree t)) × (r < t → Ends blank m m' (Full t))
      × (t < r → Ends blank m m' (PushBusy t))

  -- exchanges the next ticket,
  abbrev pub claimed : N → (S → T → Type 0) → (ℕ → List (Entry T N) → ℕ → S → Type 0) → Step S → Me S (Sight T N) → ℕ
      → Me S (Sight T N) → Type 0
  claimed blank has spare st m r m' =
      (r ≡ st.first → (y : S) × (x : T) × (st.said ≡ some y) × has y x × Acts blank m m' (Claim r x) (Writing r x)
      × ((z : S) × (m'.1 ≡ (r % st.slots, z) ∷ m.1) × spare m'.0.known.places m'.0.known.seen r z))
      × (r ≢ st.first → Ends blank m m' (PushBusy st.first))

  -- and stores the sequence.
  abbrev pub wrote : N → ℕ → Me S (Sight T N) → Me S (Sight T N) → Type 0
  wrote blank t m m' = Acts blank m m' (Write t) Idle × (m'.1 ≡ rest m.1)

  -- A pop reads the front ticket,
  abbrev pub saw_front : Me S (Sight T N) → ℕ → Me S (Sight T N) → Type 0
  saw_front m r m' = (front_seen m.0.known ≤ r) × (r ≤ last) × Looks m m' (SawFront r)

  -- reads the sequence of its ticket's place,
  abbrev pub saw_full : N → ℕ → Me S (Sight T N) → ℕ → Me S (Sight T N) → Type 0
  saw_full blank t m r m' = (r ≡ t + 1 → Looks m m' (SawFull t))
      × (r < t + 1 → Tells blank m m' (Front t) (SawUnwritten t)) × (t + 1 < r → Ends blank m m' (PopBusy t))

  -- reads the next ticket where that place is unwritten, and else
  abbrev pub saw_end : N → ℕ → Me S (Sight T N) → ℕ → Me S (Sight T N) → Type 0
  saw_end blank t m r m' = (t ≤ r) × (r ≡ t → Ends blank m m' (queue.Idle t)) × (t < r → Ends blank m m' (Empty t))

  -- exchanges the front ticket,
  abbrev pub grabbed : N → (S → T → Type 0) → Step S → Me S (Sight T N) → ℕ → Me S (Sight T N) → Type 0
  grabbed blank has st m r m' =
      (r ≡ st.first → (x : T) × Acts blank m m' (Grab r) (Reading r x)
      × ((y : S) × (m'.1 ≡ (r % st.slots, y) ∷ m.1) × has y x))
      × (r ≢ st.first → Ends blank m m' (PopBusy st.first))

  -- and stores the sequence, with the spare that it brings.
  abbrev pub took : N → ℕ → T → Me S (Sight T N) → Me S (Sight T N) → Type 0
  took note t x m m' = Acts note m m' (Take t x) Idle × (m'.1 ≡ rest m.1)
