-- What a worker did.
use Rattle.std.specs.Prelude.{◌≡◌, ◌⊎◌, ℕ, Bool, true, false, ◌%◌, ◌^◌, ◌≤◌, List, [], ◌∷◌, ◌++◌, map, take, Option, None, Some, vec_capacity}
use Rattle.std.specs.Arc.{arc_value}
use Rattle.std.specs.List.{AllByRecursion}
use Rattle.alog_core.specs.History.{Entry}
use Rattle.alog_core.specs.Accounts.{claims, takes, grabbed, handed_out, taken}
use Rattle.alog_msg.specs.declared.item.Item.{Item}
use Rattle.alog_pattern.specs.declared.patterns.TheConstants.{LINE_MAX}
use Rattle.alog_pool.specs.Accounts.{of_work, of_stops, work_tickets, Moved, SawEnd}
use Rattle.alog_pool.specs.SinkSeat.{AreFlushed, Place, places_of}
use Rattle.alog_pool.specs.Deeds.{HaveMade, all_dues}
use Rattle.alog_pool.specs.Gaps.{CanTell, next_behind, next_of, with_gaps}
use Rattle.alog_pool.specs.declared.worker.Worker.{Worker}
use Rattle.alog_registry.specs.Limit.{KeepsTo, HoldsTo}
use Rattle.alog_ring.specs.Known.{Known, IsPassOf}
use Rattle.alog_registry.specs.BlockPort.{block_note}
use Rattle.alog_ring.specs.Made.{IsFaithful}
use Rattle.alog_ring.specs.declared.pop.PopError.{PopError}
use Rattle.alog_ring.specs.declared.pop.PopError.TheVariants.{Busy, Empty, Idle}

-- what a worker that looks for an item finds: it took this item under this ticket, or no ticket is left
abbrev pub Finds : ℕ → Known Item block_note → Known Item block_note → Option ℕ → Item → Type 0
Finds limit old new None x = Moved old new [] [] × SawEnd new.own
Finds limit old new (Some t) x = Moved old new [] ((t, x) ∷ []) × KeepsTo limit x

-- a pop found that nothing is there, and nothing on its way
abbrev pub is_idle : PopError → Bool
is_idle (Idle next) = true
is_idle (Empty next) = false
is_idle (Busy seen) = false

-- A worker's account: it has one part and put nothing in. It recorded the tickets of its first texts and flushes, at most so many,
-- and counted its texts and flushes modulo 2^64.
pub record IsWorkOf (most : ℕ) (k : Known Item block_note) (tickets : List ℕ) (handled : ℕ) : Type 0 where
  pub faithful : IsFaithful k
  pub parts : k.parts ≡ 1
  pub joined : k.joined ≡ []
  pub puts : claims k.own ≡ []
  pub grabs : grabbed k.own ≡ handed_out k.own
  pub tickets_are : tickets ≡ take most (work_tickets (takes k.own))
  pub handled_is : handled ≡ taken of_work k.own % 2 ^ 64

-- The worker ended at its first stop, or where no ticket was left.
abbrev pub HasEnded : List (Entry Item block_note) → Type 0
HasEnded own = (taken of_stops own ≡ 1) ⊎ ((taken of_stops own ≡ 0) × SawEnd own)

-- the pass of a worker that begins: it has one part, and made nothing
pub record IsFresh (k : Known Item block_note) : Type 0 where
  pub faithful : IsFaithful k
  pub parts : k.parts ≡ 1
  pub joined : k.joined ≡ []
  pub own : k.own ≡ []

-- each place has this text limit
abbrev pub AreLimited : {S : Type 0} → ℕ → List (Place S) → Type 0
AreLimited {S} limit places = AllByRecursion (λ (p : Place S). p.limit ≡ limit) places

-- the numbers of these workers
abbrev pub numbers_of : {S : Type 0} → List (Worker S) → List ℕ
numbers_of {S} crew = map (λ (h : Worker S). h.number) crew

-- A worker at work, which began with the first of these workers: it has taken no stop yet.
pub record IsAtWork {S : Type 0} (start now : Worker S) : Type 0 where
  pub shared : arc_value now.shared ≡ arc_value start.shared
  pub ring : IsPassOf (arc_value start.shared).ring.ring now.pass
  pub work : IsWorkOf start.most now.pass.known now.tickets.items now.handled
  pub stops : taken of_stops now.pass.known.own ≡ 0
  pub most : now.most ≡ start.most
  pub number : now.number ≡ start.number
  pub room : start.most ≤ vec_capacity now.tickets
  pub line : now.line.capacity ≡ LINE_MAX
  pub block : HoldsTo (arc_value start.shared).ring.ring.limit now.block
  pub places : places_of now.sink_seats.items ≡ places_of start.sink_seats.items
  pub limits : AreLimited (arc_value start.shared).ring.ring.limit.most (places_of start.sink_seats.items)
  pub tells : CanTell (arc_value start.shared).ring.ring.limit.most now.gaps

-- What a worker made, since it began with the first of these workers: it took these items, and at each of its places its seat made
-- exactly the turns that were due for them, and for what it told of gaps, on that sink, in their order, and own flushes.
pub record HasTurned {S : Type 0} (start now : Worker S) : Type 0 where
  pub gots : List (ℕ × Item)
  pub took : takes now.pass.known.own ≡ takes start.pass.known.own ++ gots
  pub next : next_of now.gaps ≡ next_behind (next_of start.gaps) gots
  pub turns : HaveMade 0 start.sink_seats.items now.sink_seats.items
      (all_dues (arc_value start.shared).loggers (with_gaps (next_of start.gaps) gots))

-- What became of a worker. It flushed what it wrote before it ended.
pub record HasWorked {S : Type 0} (start end : Worker S) : Type 0 where
  pub number : end.number ≡ start.number
  pub ring : IsPassOf (arc_value start.shared).ring.ring end.pass
  pub work : IsWorkOf start.most end.pass.known end.tickets.items end.handled
  pub ended : HasEnded end.pass.known.own
  pub turns : HasTurned start end
  pub flushed : AreFlushed end.sink_seats.items
  pub places : places_of end.sink_seats.items ≡ places_of start.sink_seats.items

-- Whether it goes on: it is at work and made its turns, or it has worked.
abbrev pub GoesOn : {S : Type 0} → Worker S → Worker S → Bool → Type 0
GoesOn start now true = IsAtWork start now × HasTurned start now
GoesOn start now false = HasWorked start now
