-- The desk of a pool, where its parts come back.
use Rattle.std.specs.Prelude.{◌≡◌, ◌⊎◌, List, [], ◌∷◌, Option, Some, None}
use Rattle.std.specs.List.{AllByRecursion}
use Rattle.std.specs.declared.mem.ManuallyDrop.{ManuallyDrop}
use Rattle.std.specs.declared.snapshot.Snapshot.{Snapshot}
use Rattle.alog_hosted.specs.Lent.{HostedView, IsProducerOf}
use Rattle.alog_hosted.specs.Workers.{IsWorkerOf}
use Rattle.alog_owned.specs.declared.back.Piece.{Piece}
use Rattle.alog_owned.specs.declared.back.Piece.TheVariants.{Seed, Producer, Worker}
use Rattle.crossbeam_queue.specs.Passes.{IsPassOf, Pass, view}
use Rattle.crossbeam_queue.specs.declared.array_queue.Doing.{Doing}
use Rattle.crossbeam_queue.specs.declared.array_queue.Slotted.{Slotted}

-- What is seen of a part that came back: of which pool it is, and what it is.
pub record BackView (S : Type 0) : Type 0 where
  pub hosted : Snapshot (HostedView S)
  pub piece : Piece S

-- what lies on a desk, and what a pass of it knows
abbrev pub Item : Type 0 → Type 0
Item S = ManuallyDrop (BackView S)

abbrev pub Whose : Type 0 → Type 0
Whose S = Option (Snapshot (HostedView S))

module _ {S : Type 0} where
  -- a producer or a worker is one of this pool
  abbrev pub IsPieceOf : HostedView S → Piece S → Type 0
  IsPieceOf h Seed = Unit {0}
  IsPieceOf h (Producer p) = IsProducerOf h p
  IsPieceOf h (Worker w) = IsWorkerOf h w

  -- it is known to be this pool's
  abbrev pub Knows : HostedView S → Whose S → Type 0
  Knows h None = ⊥
  Knows h (Some s) = s.value ≡ h

  abbrev pub IsItemOf : HostedView S → Item S → Type 0
  IsItemOf h x = x.value.hosted.value ≡ h

  -- All that lies there is of one pool, as each pass knows; or nothing lies there, and there is one pass, which knows nothing yet.
  abbrev pub IsDesk : List (Item S) → List (Whose S) → Type 0
  IsDesk items views = ((items ≡ []) × (views ≡ None ∷ []))
      ⊎ ((h : HostedView S) × AllByRecursion (IsItemOf h) items × AllByRecursion (Knows h) views)

  -- it is a pass of this desk, which knows that this is the pool's
  pub record IsPassAt {Q A : Type 0} (desk : Slotted (Option (Item S)) (Doing (Item S) (Whose S)) Q A) (h : HostedView S) (pass : Pass (Item S) (Whose S))
      : Type 0 where
    pub of_desk : IsPassOf desk pass
    pub knows : Knows h (view pass)
