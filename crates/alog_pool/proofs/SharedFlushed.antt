-- Places that have flushed what they wrote, one after another.
use Rattle.std.proofs.Common.{◌≡◌, ◌<◌, ◌≤◌, ℕ, zero, suc, Bool, false, List, [], ◌∷◌, ◌++◌, set, take, length, refl, ap, ◌∙◌, arith}
use Rattle.std.specs.Prelude.{slice_index_or}
use Rattle.alog_format.specs.Buffer.{Buffer}
use Rattle.alog_lane.specs.Seats.{Entry}
use Rattle.alog_lane.specs.Turns.{Turned}
use Rattle.alog_msg.specs.declared.item.Item.{Item}
use Rattle.alog_msg.specs.declared.item.Item.TheVariants.{Flush}
use Rattle.alog_pool.specs.SinkSeat.{Answer, AreFlushed, Serves, SinkSeatView, is_fan, is_unflushed, unflushed_after, unflushed_by}
use Rattle.alog_sink.specs.Files.{Files}

-- after one turn more
pub unflushed-more : (fan before : Bool) (h : List (Entry (Turned Item Buffer Answer))) (x : Entry (Turned Item Buffer Answer))
    → unflushed_after fan before (h ++ x ∷ []) ≡ unflushed_by fan (unflushed_after fan before h) x.deed.item x.deed.reply
unflushed-more fan before [] x = refl
unflushed-more fan before (y ∷ h) x = unflushed-more fan (unflushed_by fan before y.deed.item y.deed.reply) h x

module _ {S : Type 0} where
  -- a flush leaves nothing unflushed
  pub own_flushed : (tells : _) (files : S → Files) (failures : S → ℕ) (old new : SinkSeatView S) (tag n : ℕ)
      → Serves tells files failures old tag (Flush n) new → is_unflushed new ≡ false
  own_flushed tells files failures old new tag n s =
      let entry : Entry (Turned Item Buffer Answer) = record { seat = old.seat.known.seat; deed = s.deed } in
      let fan = is_fan new.lane.first in
      ap (λ (h : List (Entry (Turned Item Buffer Answer))). unflushed_after fan false h) s.turn.made.own
      ∙ unflushed-more fan false old.seat.known.own entry
      ∙ ap (λ (i : Item). unflushed_by fan (unflushed_after fan false old.seat.known.own) i s.deed.reply) s.item_is

  pub more_flushed : (n : ℕ) (bs : List (SinkSeatView S)) (c : SinkSeatView S) → n < length bs → AreFlushed (take n bs)
      → is_unflushed c ≡ false → AreFlushed (take (suc n) (set bs n c))
  more_flushed n [] c low all is = absurd (omega (arith, low))
  more_flushed zero (b ∷ bs) c low all is = (is, tt)
  more_flushed (suc n) (b ∷ bs) c low all is = (all.0, more_flushed n bs c (omega (arith, low)) all.1 is)

  pub flushed_at : (n : ℕ) (bs : List (SinkSeatView S)) (d : SinkSeatView S) → n < length bs → AreFlushed bs
      → is_unflushed (slice_index_or bs n d) ≡ false
  flushed_at n [] d low all = absurd (omega (arith, low))
  flushed_at zero (b ∷ bs) d low all = all.0
  flushed_at (suc n) (b ∷ bs) d low all = flushed_at n bs d (omega (arith, low)) all.1

  pub same_set : (n : ℕ) (bs : List (SinkSeatView S)) {c : SinkSeatView S} (d : SinkSeatView S) → n < length bs
      → c ≡ slice_index_or bs n d → set bs n c ≡ bs
  same_set n [] d low is = absurd (omega (arith, low))
  same_set zero (b ∷ bs) d low is = ap (λ (x : SinkSeatView S). x ∷ bs) is
  same_set (suc n) (b ∷ bs) d low is = ap (λ (l : List (SinkSeatView S)). b ∷ l) (same_set n bs d (omega (arith, low)) is)

  pub all_flushed : (n : ℕ) (bs : List (SinkSeatView S)) → length bs ≤ n → AreFlushed (take n bs) → AreFlushed bs
  all_flushed n [] many all = tt
  all_flushed zero (b ∷ bs) many all = absurd (omega (arith, many))
  all_flushed (suc n) (b ∷ bs) many all = (all.0, all_flushed n bs (omega (arith, many)) all.1)
