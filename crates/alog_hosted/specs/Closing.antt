-- How a hosted pool comes to its end: its workers come back, and what they owe and what is left is made.
use Rattle.std.specs.Prelude.{◌≡◌, ℕ, ◌+◌, ◌-◌, ◌%◌, ◌^◌, Bool, List, [], ◌∷◌, ◌++◌, drop, map, min, Option, None, Some, Vec}
use Rattle.std.specs.List.{AllByRecursion, sum_by}
use Rattle.std.specs.declared.alloc.Global.{Global}
use Rattle.alog_core.specs.History.{left_by}
use Rattle.alog_core.specs.Queue.{start}
use Rattle.alog_hosted.specs.Ends.{EndsPlace, WasWorker, all_owed, worker_member}
use Rattle.alog_hosted.specs.Workers.{WorkerView}
use Rattle.alog_hosted.specs.declared.blank.Half.{Half}
use Rattle.alog_hosted.specs.declared.owed.Owed.{Owed}
use Rattle.alog_msg.specs.Block.{BlockFields}
use Rattle.alog_msg.specs.declared.item.Item.{Item}
use Rattle.alog_pool.specs.Back.{HasBack}
use Rattle.alog_pool.specs.Collected.{HaveBack}
use Rattle.alog_pool.specs.Deeds.{Due, dues_of}
use Rattle.alog_pool.specs.SinkSeat.{SinkSeatView}
use Rattle.alog_pool.specs.declared.shared.Shared.{Shared}
use Rattle.alog_registry.specs.BlockPort.{block_note}
use Rattle.alog_registry.specs.Limit.{KeepsTo}
use Rattle.alog_registry.specs.declared.logger.Logger.{Logger}
use Rattle.alog_ring.specs.Known.{Known}
use Rattle.alog_ring.specs.Share.{IsWhole, ticket_and_item}
use Rattle.alog_sink.specs.Files.{Files}
use Rattle.alog_sink.specs.declared.sink.Sink.{Sink}

-- the item that a worker brings back half done, if there is one
abbrev pub halves_of : BlockFields → Option Owed → List Half
halves_of block None = []
halves_of block (Some owed) = record { block = block; owed = owed } ∷ []

-- what is owed for these, one after another
abbrev pub owed_in : List Logger → List Half → List Due
owed_in loggers [] = []
owed_in loggers (h ∷ hs) = drop h.owed.place (dues_of loggers h.owed.ticket h.block.item) ++ owed_in loggers hs

-- its item keeps to this limit
abbrev pub AreAtLimit : ℕ → Half → Type 0
AreAtLimit limit h = KeepsTo limit h.block.item

-- what these cells of a queue of blocks carry
abbrev pub items_of : List (ℕ × BlockFields) → List (ℕ × Item)
items_of cells = map (λ (p : ℕ × BlockFields). (p.0, p.1.item)) cells

-- The pass has seen everything, and this is what was left.
pub record LeavesInQueue (k : Known Item block_note) (left : List (ℕ × Item)) : Type 0 where
  pub whole : IsWhole k
  pub cells : left ≡ map ticket_and_item (left_by (start k.first) k.seen).cells

-- The place is as it was, but gave its count of faults away.
pub record GivesFaults {S : Type 0} (old new : SinkSeatView S) (faults : ℕ) : Type 0 where
  pub lane : new.lane ≡ old.lane
  pub limit : new.limit ≡ old.limit
  pub seat : new.seat ≡ old.seat
  pub given : faults ≡ old.faults
  pub left : new.faults ≡ 0

-- The workers came back: the pass has their passes, the places have theirs, their tickets are listed, what they handled is summed, and what
-- they owe is owed for what they brought back half done.
pub record Collects {S : Type 0} (shared : Shared) (workers : List (WorkerView S)) (old new : Known Item block_note) (places back : List (SinkSeatView S))
    (tickets : List (Vec ℕ Global)) (halves : List Half) (handled : ℕ) : Type 0 where
  pub passes : HasBack old new (map (λ (w : WorkerView S). worker_member w) workers)
  pub places_are : HaveBack places back (map (λ (w : WorkerView S). w.places) workers)
  pub tickets_are : map (λ (v : Vec ℕ Global). v.items) tickets ≡ map (λ (w : WorkerView S). w.tickets) workers
  pub handled_is : handled ≡ sum_by (λ (w : WorkerView S). w.handled) workers % 2 ^ 64
  pub owed : owed_in shared.loggers halves ≡ all_owed workers
  pub limits : AllByRecursion (AreAtLimit shared.ring.ring.limit.most) halves
  pub worked : AllByRecursion WasWorker workers

module _ {S : Type 0} (tells : Bool) (files : S → Files) (failures : S → ℕ) where
  -- each place was ended, and its faults added to those that were listed
  abbrev pub EndAll : List (SinkSeatView S) → List ℕ → List (Sink S) → List ℕ → Type 0
  EndAll [] [] [] [] = Unit {0}
  EndAll (b ∷ bs) (f ∷ fs) (k ∷ ks) (g ∷ gs) =
      ((more : ℕ) × EndsPlace tells files failures b k more × (g ≡ min (f + more) (2 ^ 64 - 1))) × EndAll bs fs ks gs
  EndAll _ _ _ _ = ⊥
