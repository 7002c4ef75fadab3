-- A turn at a place, and places while turns are made.
use Rattle.std.proofs.Common.{◌≡◌, ℕ, zero, suc, ◌<◌, Bool, List, [], ◌∷◌, length, ap, arith}
use Rattle.std.specs.Prelude.{slice_index_or}
use Rattle.alog_format.specs.Buffer.{Buffer}
use Rattle.alog_lane.specs.Calls.{TakesTurn}
use Rattle.alog_lane.specs.Seats.{Known}
use Rattle.alog_lane.specs.Turns.{Turned}
use Rattle.alog_lane.proofs.SharedSteps.{its_turn}
use Rattle.alog_msg.specs.declared.item.Item.{Item}
use Rattle.alog_msg.specs.declared.item.Item.TheVariants.{Text, Flush, Stop}
use Rattle.alog_pool.specs.SinkSeat.{Answer, SinkSeatView, Place, place_of, places_of, IsServable, AreServable, Serves}
use Rattle.alog_sink.specs.Files.{Files}
use Rattle.alog_sink.specs.Sinks.{Turns}
use Rattle.alog_sink.specs.declared.sink.Sink.{Sink}

module _ {S : Type 0} where
  pub servable_at : (item : Item) (bs : List (SinkSeatView S)) (i : ℕ) (d : SinkSeatView S) → i < length bs
      → AreServable item (places_of bs) → IsServable (slice_index_or bs i d).limit item
  servable_at item [] i d low all = absurd (omega (arith, low))
  servable_at item (b ∷ bs) zero d low all = all.0
  servable_at item (b ∷ bs) (suc i) d low all = servable_at item bs i d (omega (arith, low)) all.1

  pub flush_servable : (n : ℕ) (ps : List (Place S)) → AreServable (Flush n) ps
  flush_servable n [] = tt
  flush_servable n (p ∷ ps) = (tt, flush_servable n ps)

  module _ (tells : Bool) (files : S → Files) (failures : S → ℕ) where
    pub place_same : (old new : SinkSeatView S) (tag : ℕ) (item : Item) → Serves tells files failures old tag item new
        → place_of new ≡ place_of old
    place_same old new tag item s = λ k. record {
      lane = s.lane k;
      limit = s.limit k;
      parts = s.turn.made.parts k;
      joined = s.turn.made.joined k;
    }

    capacity_of : (v w : Sink S) (item : Item) (before after : Buffer) (reply : Answer)
        → Turns tells files failures v before item reply w after → after.capacity ≡ before.capacity
    capacity_of v w (Text m) before after reply turn = turn.3
    capacity_of v w (Flush n) before after reply turn = ap (λ (b : Buffer). b.capacity) turn.3
    capacity_of v w Stop before after reply turn = absurd turn

    pub same_capacity : (first : Sink S) (old new : Known (Turned Item Buffer Answer)) (deed : Turned Item Buffer Answer) (index : ℕ)
        → TakesTurn (Turns tells files failures) first old new deed index → deed.after.capacity ≡ deed.before.capacity
    same_capacity first old new deed index took =
        let turn = its_turn (Turns tells files failures) first old new deed index took in
        capacity_of turn.0 turn.1 deed.item deed.before deed.after deed.reply turn.2
