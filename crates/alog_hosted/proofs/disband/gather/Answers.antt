use Rattle.std.proofs.Common.{◌≡◌, List, [], ◌∷◌, ◌++◌, map, append_assoc, sym, ap, subst, ◌∙◌}
use Rattle.std.specs.List.{AllByRecursion}
use Rattle.std.specs.Vec.Iter.{into_iter_items}
use Rattle.std.proofs.lemmas.List.{map-append}
use Rattle.alog_lane.specs.Seats as lane
use Rattle.alog_msg.specs.declared.item.Item.{Item}
use Rattle.alog_policy.specs.BookAdds.{Add}
use Rattle.alog_policy.specs.BookCalls as book
use Rattle.alog_pool.proofs.SharedBack.{back_one, back_starts, seats_one, seats_start}
use Rattle.alog_pool.proofs.SharedSharing.{all_more}
use Rattle.alog_pool.specs.Back.{HasBack, HasSeatsBack, loss_member, pass_member}
use Rattle.alog_pool.specs.Lending.{IsAccountOf}
use Rattle.alog_pool.specs.Producer.{ProducerView}
use Rattle.alog_pool.specs.declared.shared.Shared.{Shared}
use Rattle.alog_hosted.proofs.disband.gather.Goals as goal
use Rattle.alog_registry.specs.BlockPort.{block_note}
use Rattle.alog_ring.specs.Known.{IsPassOf, Member}

-- one that stands among those of a pool is of that pool
own_next : (s : Shared) (all done new : List ProducerView) (p : ProducerView) → all ≡ done ++ p ∷ new
    → AllByRecursion (λ (q : ProducerView). q.shared ≡ s) all → p.shared ≡ s
own_next s all done new p is own = at done (subst (λ (l : List ProducerView). AllByRecursion (λ (q : ProducerView). q.shared ≡ s) l) is own)
  where
    at : (xs : List ProducerView) → AllByRecursion (λ (q : ProducerView). q.shared ≡ s) (xs ++ p ∷ new) → p.shared ≡ s
    at [] own = own.0
    at (x ∷ xs) own = at xs own.1

pub loop-producer-init : goal.loop-producer-init
loop-producer-init c = record {
  done = [];
  front = sym c.into_iter-rest.ensures.rest;
  ring = c.requires.ring;
  book = c.requires.book;
  passes = back_starts c.args.pass.now.known c.requires.faithful;
  seats = seats_start c.args.losses.now.known;
  accounts = tt;
}

pub join-requires-clause-other : goal.join-requires-clause-other
join-requires-clause-other c =
    let i = c.loop-producer.invariant in
    let p = c.in-Some.producer in
    let new = into_iter_items c.next.new.self in
    let front = i.front ∙ ap (λ (l : List ProducerView). i.done ++ l) c.in-Some.ensures.items in
    let own = own_next c.args.shared.now c.args.producers.items i.done new p front c.requires.own in
    subst (λ (s : Shared). IsPassOf s.ring.ring c.producer.inside.pass) (ap (λ (v : ProducerView). v.shared) c.producer.view_is ∙ own)
    c.producer.invariant.0.pass

pub join-requires-in-Some-clause-other : goal.join-requires-in-Some-clause-other
join-requires-in-Some-clause-other c =
    let i = c.loop-producer.invariant in
    let p = c.in-Some.producer in
    let new = into_iter_items c.next.new.self in
    let front = i.front ∙ ap (λ (l : List ProducerView). i.done ++ l) c.in-Some.ensures.items in
    let own = own_next c.args.shared.now c.args.producers.items i.done new p front c.requires.own in
    subst (λ (s : Shared). book.IsSeatOf s.book c.producer.inside.losses) (ap (λ (v : ProducerView). v.shared) c.producer.view_is ∙ own)
    c.producer.invariant.0.losses_are

pub loop-producer-preserved : goal.loop-producer-preserved
loop-producer-preserved c =
    let i = c.loop-producer.invariant in
    let p = c.in-Some.producer in
    let new = into_iter_items c.next.new.self in
    let inside = c.producer.inside in
    let account = c.producer.invariant.0.account in
    let passes = c.join.new.pass.known in
    let seats = c.join-in-Some.new.seat.known in
    record {
      done = i.done ++ p ∷ [];
      front = i.front ∙ ap (λ (l : List ProducerView). i.done ++ l) c.in-Some.ensures.items ∙ sym (append_assoc i.done (p ∷ []) new);
      ring = c.join.ensures.ring;
      book = c.join-in-Some.ensures.seat;
      passes = subst (λ (ms : List (Member Item block_note)). HasBack c.args.pass.now.known passes ms) (sym (map-append pass_member i.done (p ∷ [])))
          (subst (λ (q : ProducerView). HasBack c.args.pass.now.known passes (map pass_member i.done ++ pass_member q ∷ []))
          c.producer.view_is
          (back_one i.passes c.join.ensures.joined account.joined account.parts));
      seats = subst (λ (ms : List (lane.Member Add)). HasSeatsBack c.args.losses.now.known seats ms) (sym (map-append loss_member i.done (p ∷ [])))
          (subst (λ (q : ProducerView). HasSeatsBack c.args.losses.now.known seats (map loss_member i.done ++ loss_member q ∷ []))
          c.producer.view_is
          (seats_one inside.losses.known {l = seats} i.seats c.join-in-Some.ensures.joined account.seat_joined account.seat_parts));
      accounts = all_more (λ (q : ProducerView). IsAccountOf q.pass.known q.losses.known) i.done p i.accounts
          (subst (λ (q : ProducerView). IsAccountOf q.pass.known q.losses.known) c.producer.view_is account);
    }
