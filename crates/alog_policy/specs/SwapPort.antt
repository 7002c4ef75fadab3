-- A port on a swap ring: what it did. Its hand has the block that a post left, and that the next one from the hand posts, and its spare the one that a pop is to bring.
use Rattle.std.specs.Prelude.{◌≡◌, ◌<◌, ◌⊎◌, ℕ, List, [], ◌∷◌, Option, IsSome, IfSome}
use Rattle.alog_core.specs.Queue.{Event}
use Rattle.alog_core.specs.History.{Entry}
use Rattle.alog_ring.specs.Known.{IsPassOf, PassView}
use Rattle.alog_ring.specs.Made.{Made}
use Rattle.alog_policy.specs.BookCalls.{IsSeatOf}
use Rattle.alog_policy.specs.Port.{Rounds, SeatCounted}
use Rattle.alog_policy.specs.Post.{writes_in}
use Rattle.alog_policy.specs.declared.policy.Outcome.{Outcome}
use Rattle.alog_policy.specs.declared.policy.Outcome.TheVariants.{Posted, Discarded}
use Rattle.alog_policy.specs.declared.swap_port.SwapPort.{SwapPort}

-- these entries are the actor's, and have these events, in this order
abbrev pub AreBy : {T N : Type 0} → ℕ → List (Event T) → List (Entry T N) → Type 0
AreBy a [] [] = Unit {0}
AreBy a [] (x ∷ xs) = ⊥
AreBy a (e ∷ es) [] = ⊥
AreBy a (e ∷ es) (x ∷ xs) = (x.actor ≡ a) × (x.event ≡ e) × AreBy a es xs

-- The pass made exactly these events, in this order, in rounds. The note of a take is the block that it brought.
pub record SwapMade {T N : Type 0} (old : PassView T N) (es : List (Event T)) (new : PassView T N) : Type 0 where
  pub table : new.table ≡ old.table
  pub entries : List (Entry T N)
  pub by : AreBy old.known.actor es entries
  pub made : Made old.known new.known entries
  pub rounds : Rounds old.known es new.known

module _ {B : Type 0} (admits : B → Type 0) where
  -- a block is there, and keeps to the limit
  abbrev pub IsThere : Option B → Type 0
  IsThere place = IsSome place × IfSome place admits

  -- the hand is as it was where nothing was written, and else a block is there
  abbrev pub HandDid : {T : Type 0} → Option B → List (Event T) → Option B → Type 0
  HandDid old es new = ((writes_in es ≡ 0) × (new ≡ old)) ⊎ ((0 < writes_in es) × IsThere new)

  -- what a post leaves in the hand: a block that keeps to the limit where it was posted (the one that lay in its place, of
  -- which this says no more), and else what was there
  abbrev pub HandLeft : {V : Type 0} → Option B → Outcome V → Option B → Type 0
  HandLeft old (Posted t k) new = IsThere new
  HandLeft old (Discarded v w k) new = new ≡ old

-- The port made exactly these events, counted so many overrun items and so many discarded posts, and lends the same parts. A
-- pass without events, and a seat without losses, is as it was. Of the two blocks and of the pace it says nothing.
pub record SwapDid {B T W L : Type 0} (old : SwapPort B T W L) (es : List (Event T)) (items posts : ℕ) (new : SwapPort B T W L)
    : Type 0 where
  pub ring : new.ring ≡ old.ring
  pub book : new.book ≡ old.book
  pub pass_lent : new.pass.ghost_name ≡ old.pass.ghost_name
  pub seat_lent : new.seat.ghost_name ≡ old.seat.ghost_name
  pub hand_lent : new.hand.ghost_name ≡ old.hand.ghost_name
  pub spare_lent : new.spare.ghost_name ≡ old.spare.ghost_name
  pub pace_lent : new.pace.ghost_name ≡ old.pace.ghost_name
  pub pass : ((es ≡ []) × (new.pass.now ≡ old.pass.now)) ⊎ SwapMade old.pass.now es new.pass.now
  pub seat : ((items ≡ 0) × (posts ≡ 0) × (new.seat.now ≡ old.seat.now)) ⊎ SeatCounted old.seat.now items posts new.seat.now

module _ {B T W L : Type 0} (admits : L → B → Type 0) where
  -- The pass belongs to the ring, the seat to the book, and a spare is there.
  abbrev pub IsSwapFit : SwapPort B T W L → Type 0
  IsSwapFit p = IsPassOf p.ring.now.ring p.pass.now × IsSeatOf p.book.now p.seat.now
      × IsThere (admits p.ring.now.ring.limit) p.spare.now

  -- the same, and where the port wrote a block is in its hand that keeps to the limit
  abbrev pub SwapPortDid : SwapPort B T W L → List (Event T) → ℕ → ℕ → SwapPort B T W L → Type 0
  SwapPortDid old es items posts new = SwapDid old es items posts new
      × HandDid (admits old.ring.now.ring.limit) old.hand.now es new.hand.now
