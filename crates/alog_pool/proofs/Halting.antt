-- Stops that are posted, one by one.
use Rattle.std.proofs.Common.{Bool, true, false, ◌≡◌, ◌<◌, ℕ, ◌+◌, List, [], ◌∷◌, ◌++◌, length, length-append, refl, sym, ap, subst, append-nil, inl, inr, arith}
use Rattle.alog_core.specs.History.{Entry}
use Rattle.alog_core.specs.Queue as queue
use Rattle.alog_core.specs.Accounts.{weigh}
use Rattle.alog_msg.specs.declared.item.Item.{Item}
use Rattle.alog_msg.specs.declared.item.Item.TheVariants.{Stop}
use Rattle.alog_pool.specs.Accounts.{Moved, work, of_work}
use Rattle.alog_pool.specs.Stops.{AreStops, DidPost, IsSpent, PutsStops, SawSpent}
use Rattle.alog_pool.proofs.SharedMoves.{answer_moved, moved_more, not_moved}
use Rattle.alog_pool.proofs.SharedSharing.{all_more}
use Rattle.std.specs.Prelude.{None}
use Rattle.alog_registry.specs.BlockPort.{block_note}
use Rattle.alog_ring.specs.Known.{Known}
use Rattle.alog_ring.specs.Made.{IsFaithful, entry}
use Rattle.alog_ring.specs.Refused.{PushRefusedAs}
use Rattle.alog_ring.specs.declared.push.PushError.{PushError}
use Rattle.alog_ring.specs.declared.push.PushError.TheVariants as push

-- a push that was refused moves nothing
pub refused_idles : (old new : Known Item block_note) (e : PushError (Unit {0})) → PushRefusedAs None old new (tt {0}) e → Moved old new [] []
refused_idles old new (push.Full v n) refused = answer_moved old new (queue.Full n) refl refl refl refused.2
refused_idles old new (push.Busy v s) refused = answer_moved old new (queue.PushBusy s) refl refl refl refused.2
refused_idles old new (push.Spent v) refused = answer_moved old new queue.Spent refl refl refl refused.1

saw_spent : (h : List (Entry Item block_note)) (x : Entry Item block_note) → x.event ≡ queue.Spent → SawSpent (h ++ x ∷ [])
saw_spent [] x is = inl is
saw_spent (y ∷ h) x is = inr (saw_spent h x is)

pub refused_spent : (old new : Known Item block_note) (e : PushError (Unit {0})) → IsSpent e → PushRefusedAs None old new (tt {0}) e
    → SawSpent new.own
refused_spent old new (push.Full v n) is refused = absurd is
refused_spent old new (push.Busy v s) is refused = absurd is
refused_spent old new (push.Spent v) is refused =
    subst SawSpent (sym refused.1.0.own) (saw_spent old.own (entry None old queue.Spent) refl)

-- tries, one behind the other
pub did_more : (j k l : Known Item block_note) (posted : Bool) → Moved j k [] [] → DidPost k l posted → DidPost j l posted
did_more j k l true before did = (did.0, moved_more before did.1)
did_more j k l false before did = (moved_more before did.0, did.1)

-- so many stops were put in
pub record HasPut (old new : Known Item block_note) (count : ℕ) : Type 0 where
  pub puts : List (ℕ × Item)
  pub moved : Moved old new puts []
  pub stops : AreStops puts
  pub many : length puts ≡ count

pub put_none : (k : Known Item block_note) → IsFaithful k → HasPut k k 0
put_none k faithful = record { puts = []; moved = not_moved k faithful; stops = tt; many = refl }

pub put_one : (j k l : Known Item block_note) (n : ℕ) (t : ℕ) → HasPut j k n → Moved k l ((t, Stop) ∷ []) [] → HasPut j l (n + 1)
put_one j k l n t h m =
    let many = h.many in
    let more : length (h.puts ++ (t, Stop) ∷ []) ≡ length h.puts + 1 = length-append h.puts ((t, Stop) ∷ []) in
    record {
      puts = h.puts ++ (t, Stop) ∷ [];
      moved = moved_more h.moved m;
      stops = all_more (λ (p : ℕ × Item). p.1 ≡ Stop) h.puts (t, Stop) h.stops refl;
      many = omega (arith, many, more);
    }

pub put_all : (j k : Known Item block_note) (n : ℕ) → HasPut j k n → PutsStops j k n
put_all j k n h = record { puts = h.puts; moved = h.moved; stops = h.stops; enough = inl h.many }

pub put_last : {j k l : Known Item block_note} {n count : ℕ} → HasPut j k n → n < count → Moved k l [] [] → SawSpent l.own
    → PutsStops j l count
put_last {j} {k} {l} h few m saw =
    let many = h.many in
    record {
      puts = h.puts ++ [];
      moved = moved_more h.moved m;
      stops = subst AreStops (sym (append-nil h.puts)) h.stops;
      enough = inr ((let same = ap (λ (ps : List (ℕ × Item)). length ps) (append-nil h.puts) in omega (arith, same, many, few)), saw);
    }

no_stop_works : (x : Item) → x ≡ Stop → work x ≡ 0
no_stop_works x is = ap work is

pub no_work_in_stops : (ps : List (ℕ × Item)) → AreStops ps → weigh of_work ps ≡ 0
no_work_in_stops [] all = refl
no_work_in_stops (p ∷ ps) all =
    let one = no_stop_works p.1 all.0 in omega (arith, one, no_work_in_stops ps all.1)
