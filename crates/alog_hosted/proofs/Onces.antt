-- What a log that never waits leaves of what is lent to it.
use Rattle.std.proofs.Common.{◌≡◌, ◌<◌, ℕ, zero, suc, Some, Result, Ok, Err, List, [], ◌∷◌, length, refl, sym, ap, inl, inr}
use Rattle.std.specs.Prelude.{slice_get, slice_set, slice_index_or, IfOk, OnErr}
use Rattle.alog_core.specs.Queue.{Event, Full, PushBusy}
use Rattle.alog_hosted.specs.Once.{HadNoRoom, LogsOnce}
use Rattle.alog_hosted.specs.declared.once.Once.{Once}
use Rattle.alog_hosted.specs.declared.once.Once.TheVariants.{Logged, WouldBlock}
use Rattle.alog_msg.specs.declared.item.Item.{Item}
use Rattle.alog_msg.specs.declared.message.Message.{Message}
use Rattle.alog_msg.specs.declared.message.MessageError.{MessageError}
use Rattle.alog_policy.specs.Post.{takes_in}
use Rattle.alog_policy.specs.Rounds.{entries_by}
use Rattle.alog_policy.specs.SwapPort.{SwapDid}
use Rattle.alog_core.specs.Accounts.{claimed}
use Rattle.alog_lane.specs.Calls.{LaneId}
use Rattle.alog_pool.proofs.SharedPosting.{account_after}
use Rattle.alog_pool.proofs.SharedProducing.{LeavesLent, LendsPlace, log_now_leaves}
use Rattle.alog_pool.specs.Accounts.{of_stops}
use Rattle.alog_pool.specs.BacktraceSeat.{BacktraceSeatView, Keeps}
use Rattle.alog_pool.specs.Lending.{LendsAlike}
use Rattle.alog_pool.specs.Pool.{backtrace_seat_lanes}
use Rattle.alog_pool.specs.Producer.{IsPortOf, Lent, ProducerView}
use Rattle.alog_registry.proofs.SharedListing.{spec_there}
use Rattle.alog_registry.specs.Backtrace.{Room}
use Rattle.alog_registry.specs.BlockPort.{BlockPort}
use Rattle.alog_registry.specs.Listed.{spec_at}
use Rattle.alog_registry.specs.declared.keep.LaneKeeper.{LaneKeeper}
use Rattle.alog_registry.specs.declared.logger.Logger.{Logger}
use Rattle.alog_registry.specs.declared.logger.Spec.{Spec}

-- events that put no stop in and take nothing, of which nothing was counted
idle_port : (a b : BlockPort) (es : List (Event Item)) → claimed of_stops (entries_by a.pass.now.known.actor es) ≡ 0 → takes_in es ≡ 0
    → SwapDid a es 0 0 b → LendsAlike a b
idle_port a b es none nothing did = record {
  ring = did.ring;
  book = did.book;
  pass = did.pass_lent;
  seat = did.seat_lent;
  hand = did.hand_lent;
  spare = did.spare_lent;
  pace = did.pace_lent;
  account = account_after did none (sym nothing);
}

no_room_port : (a b : BlockPort) → HadNoRoom a b → LendsAlike a b
no_room_port a b (inl full) = idle_port a b (Full full.0 ∷ []) refl refl full.1
no_room_port a b (inr busy) = idle_port a b (PushBusy busy.0 ∷ []) refl refl busy.1

no_room_leaves : (a b : BlockPort) (k l : LaneKeeper) → HadNoRoom a b → l ≡ k → LeavesLent a k b l
no_room_leaves a b k l room same = record {
  port = no_room_port a b room;
  keeper = record {
    lane = ap (λ (x : LaneKeeper). x.lane) same;
    seat = ap (λ (x : LaneKeeper). x.seat.ghost_name) same;
    scratch = ap (λ (x : LaneKeeper). x.scratch.ghost_name) same;
  };
  list = ap (λ (x : LaneKeeper). x.scratch.now.list) same;
}

-- whatever a log that never waits answered
pub once_leaves : (ls : List Logger) (n : ℕ) (m : Message) {a : BlockPort} {k : LaneKeeper} (r : Result Once MessageError) {b : BlockPort}
    {l : LaneKeeper} → n < length ls
    → ((s : Spec) → spec_at ls n ≡ Some s → IfOk r (λ x. LogsOnce s m a k x b l))
    → OnErr r ((b ≡ a) × (l ≡ k)) → LeavesLent a k b l
once_leaves ls n m {a} {k} (Ok (Logged reply)) {b} {l} low ok err =
    log_now_leaves (λ (s : Spec). s.policy) ls n m {a = a} {k = k} (Ok reply) {b = b} {l = l} low ok err
once_leaves ls n m {a} {k} (Ok WouldBlock) {b} {l} low ok err =
    let s = spec_there ls n low in let is = ok s.0 s.1 in no_room_leaves a b k l is.1 is.2
once_leaves ls n m {a} {k} (Err e) {b} {l} low ok err =
    log_now_leaves (λ (s : Spec). s.policy) ls n m {a = a} {k = k} (Err e) {b = b} {l = l} low (λ s is. tt) err

module _ (s : Spec) (m : Message) where
  pub keeps_once : {E : Type 0} (a b : BlockPort) {k l : LaneKeeper} {v w : BacktraceSeatView} (r : Result Once E) → LendsPlace k l v w
      → IfOk r (λ x. LogsOnce s m a k x b l) → IfOk r (λ x. Keeps v w (λ y z. LogsOnce s m a y x b z))
  keeps_once a b {k} {l} (Ok x) lends logs = record { keeper = k; after = l; lent = lends.lent; left = lends.left; called = logs }
  keeps_once a b (Err e) lends logs = logs

  pub lent_once : {E : Type 0} {old new : ProducerView} (n : ℕ) {a b : BlockPort} {k : BacktraceSeatView} (l : BacktraceSeatView)
      (r : Result Once E) → IsPortOf old a → IsPortOf new b → slice_get old.backtrace_seats n ≡ Some k
      → new.backtrace_seats ≡ slice_set old.backtrace_seats n l
      → IfOk r (λ x. Keeps k l (λ y z. LogsOnce s m a y x b z)) → IfOk r (λ x. Lent old new n (λ c y d z. LogsOnce s m c y x d z))
  lent_once n {a} {b} {k} l (Ok x) lent left found others kept = record {
    port = a;
    after = b;
    lent = lent;
    left = left;
    place = k;
    place_after = l;
    found = found;
    others = others;
    kept = kept;
  }
  lent_once n l (Err e) lent left found others kept = kept

-- a place that stays at its lane leaves the lanes as they were
pub lanes_set : (ks : List BacktraceSeatView) (n : ℕ) (d l : BacktraceSeatView) → l.lane ≡ (slice_index_or ks n d).lane
    → backtrace_seat_lanes (slice_set ks n l) ≡ backtrace_seat_lanes ks
lanes_set [] n d l e = refl
lanes_set (k ∷ ks) zero d l e = ap (λ (x : LaneId Room). x ∷ backtrace_seat_lanes ks) e
lanes_set (k ∷ ks) (suc n) d l e = ap (λ (xs : List (LaneId Room)). k.lane ∷ xs) (lanes_set ks n d l e)
