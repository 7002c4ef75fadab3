-- What a post adds to a producer's account: it puts no stop in, and its losses are the items that it takes.
use Rattle.std.proofs.Common.{◌≡◌, ◌⊎◌, ℕ, ◌+◌, List, [], ◌∷◌, ◌++◌, refl, sym, ap, ◌∙◌, append_assoc, inl, inr, arith}
use Rattle.std.proofs.lemmas.List.Sums.{sum_by-append}
use Rattle.alog_core.specs.Accounts.{put_by, got_by, claims, takes, weigh, claimed, taken}
use Rattle.alog_core.specs.History.{Entry}
use Rattle.alog_core.specs.Queue.{Event, Claim, Write, Grab, Take, Full, Front, Empty, Idle, PushBusy, PopBusy, Spent}
use Rattle.alog_core.proofs.SharedAccounts.{weigh-append}
use Rattle.alog_lane.specs.Seats as lane
use Rattle.alog_msg.specs.declared.item.Item.{Item}
use Rattle.alog_policy.specs.BookAdds.{Add, items_of, items_in}
use Rattle.alog_policy.specs.BookCalls.{SeatView}
use Rattle.alog_policy.specs.Port.{SeatCounted}
use Rattle.alog_policy.specs.SwapPort.{AreBy, SwapMade, SwapDid}
use Rattle.alog_policy.specs.Post.{Round, PushBeaten, Overran, PopBeaten, Waited, events_of_round, events_of_rounds}
use Rattle.alog_policy.specs.Post.{End, Wrote, OutOfTickets, NoRoom, NothingToTake, AllGrabbed, OutOfRounds, events_of_end}
use Rattle.alog_policy.specs.Post.{IsPost, take_in, takes_in, overran_in}
use Rattle.alog_policy.specs.Rounds.{entries_by}
use Rattle.alog_policy.specs.declared.policy.Outcome.{Outcome}
use Rattle.alog_policy.specs.declared.policy.Policy.{Policy}
use Rattle.alog_policy.proofs.SharedLosses.{overran_takes}
use Rattle.alog_pool.specs.Accounts.{of_all, stop, of_stops}
use Rattle.alog_pool.specs.Lending.{IsAccountOf}
use Rattle.alog_pool.proofs.SharedSums.{claimed-append, taken-append}
use Rattle.alog_registry.specs.BlockPort.{BlockPort, block_note}
use Rattle.alog_ring.specs.Known.{Known, PassView}

-- what events take, as entries
one_take : (e : Event Item) → weigh of_all (got_by e) ≡ take_in e
one_take (Claim t x) = refl
one_take (Write t) = refl
one_take (Grab t) = refl
one_take (Take t x) = refl
one_take (Full t) = refl
one_take (Front t) = refl
one_take (Empty t) = refl
one_take (Idle t) = refl
one_take (PushBusy t) = refl
one_take (PopBusy t) = refl
one_take Spent = refl

taken_by_events : (a : ℕ) (es : List (Event Item)) → taken of_all (entries_by a es) ≡ takes_in es
taken_by_events a [] = refl
taken_by_events a (e ∷ es) = weigh-append of_all (got_by e) (takes (entries_by a es)) ∙ (λ i. one_take e i + taken_by_events a es i)

-- what entries put in and took is told by their events, whatever their notes
pub claims_by : {N : Type 0} (a : ℕ) (es : List (Event Item)) (xs : List (Entry Item N)) → AreBy a es xs → claims xs ≡ claims (entries_by a es)
claims_by a [] [] by = refl
claims_by a [] (x ∷ xs) by = absurd by
claims_by a (e ∷ es) [] by = absurd by
claims_by a (e ∷ es) (x ∷ xs) by = λ i. put_by (by.1 i) ++ claims_by a es xs by.2 i

pub takes_by : {N : Type 0} (a : ℕ) (es : List (Event Item)) (xs : List (Entry Item N)) → AreBy a es xs → takes xs ≡ takes (entries_by a es)
takes_by a [] [] by = refl
takes_by a [] (x ∷ xs) by = absurd by
takes_by a (e ∷ es) [] by = absurd by
takes_by a (e ∷ es) (x ∷ xs) by = λ i. got_by (by.1 i) ++ takes_by a es xs by.2 i

-- rounds put nothing in, and the end of a post puts its item in
round_claims : (a : ℕ) (r : Round Item) (es : List (Event Item)) → claims (entries_by a (events_of_round r ++ es)) ≡ claims (entries_by a es)
round_claims a (PushBeaten t) es = refl
round_claims a (Overran f t y) es = refl
round_claims a (PopBeaten f t) es = refl
round_claims a (Waited f) es = refl

pub rounds_claim : (a : ℕ) (rs : List (Round Item)) (es : List (Event Item))
    → claims (entries_by a (events_of_rounds rs ++ es)) ≡ claims (entries_by a es)
rounds_claim a [] es = refl
rounds_claim a (r ∷ rs) es =
    ap (λ (fs : List (Event Item)). claims (entries_by a fs)) (append_assoc (events_of_round r) (events_of_rounds rs) es)
    ∙ round_claims a r (events_of_rounds rs ++ es) ∙ rounds_claim a rs es

end_stops : (a : ℕ) (x : Item) (e : End) → stop x ≡ 0 → claimed of_stops (entries_by a (events_of_end x e)) ≡ 0
end_stops a x (Wrote t) none = omega (arith, none)
end_stops a x OutOfTickets none = refl
end_stops a x (NoRoom f) none = refl
end_stops a x (NothingToTake f t) none = refl
end_stops a x (AllGrabbed f t) none = refl
end_stops a x OutOfRounds none = refl

module _ {V : Type 0} (p : Policy) (x : Item) (v : V) (es : List (Event Item)) (o : Outcome V) (post : IsPost p x v es o) where
  pub post_stops : (a : ℕ) → stop x ≡ 0 → claimed of_stops (entries_by a es) ≡ 0
  post_stops a none =
      ap (λ (fs : List (Event Item)). claimed of_stops (entries_by a fs)) post.events_are
      ∙ ap (λ (ps : List (ℕ × Item)). weigh of_stops ps) (rounds_claim a post.rounds (events_of_end x post.end))
      ∙ end_stops a x post.end none

  pub post_takes : overran_in o ≡ takes_in es
  post_takes = sym (overran_takes p x v es o post)

-- what a port's pass and its seat did
record PassAdded (k l : Known Item block_note) (n : ℕ) : Type 0 where
  parts : l.parts ≡ k.parts
  joined : l.joined ≡ k.joined
  stops : claimed of_stops l.own ≡ claimed of_stops k.own
  took : taken of_all l.own ≡ taken of_all k.own + n

record SeatAdded (k l : lane.Known Add) (n : ℕ) : Type 0 where
  parts : l.parts ≡ k.parts
  joined : l.joined ≡ k.joined
  items : items_in l.own ≡ items_in k.own + n

pass_added : (p q : PassView Item block_note) (es : List (Event Item)) → claimed of_stops (entries_by p.known.actor es) ≡ 0
    → ((es ≡ []) × (q ≡ p)) ⊎ SwapMade p es q → PassAdded p.known q.known (takes_in es)
pass_added p q es none (inl same) =
    let nothing : takes_in es ≡ 0 = ap (λ (fs : List (Event Item)). takes_in fs) same.0 in
    let took : taken of_all q.known.own ≡ taken of_all p.known.own = ap (λ (v : PassView Item block_note). taken of_all v.known.own) same.1 in
    record {
      parts = ap (λ (v : PassView Item block_note). v.known.parts) same.1;
      joined = ap (λ (v : PassView Item block_note). v.known.joined) same.1;
      stops = ap (λ (v : PassView Item block_note). claimed of_stops v.known.own) same.1;
      took = omega (arith, nothing, took);
    }
pass_added p q es none (inr did) =
    let made : List (Entry Item block_note) = did.entries in
    let puts : claimed of_stops made ≡ claimed of_stops (entries_by p.known.actor es) =
    ap (λ (ps : List (ℕ × Item)). weigh of_stops ps) (claims_by p.known.actor es made did.by) in
    let gots : taken of_all made ≡ takes_in es =
    ap (λ (ps : List (ℕ × Item)). weigh of_all ps) (takes_by p.known.actor es made did.by) ∙ taken_by_events p.known.actor es in
    let put : claimed of_stops q.known.own ≡ claimed of_stops p.known.own + claimed of_stops made =
    ap (λ (h : List (Entry Item block_note)). claimed of_stops h) did.made.own ∙ claimed-append of_stops p.known.own made in
    let took : taken of_all q.known.own ≡ taken of_all p.known.own + taken of_all made =
    ap (λ (h : List (Entry Item block_note)). taken of_all h) did.made.own ∙ taken-append of_all p.known.own made in
    record {
      parts = did.made.parts;
      joined = did.made.joined;
      stops = omega (arith, put, puts, none);
      took = took ∙ ap (λ n. taken of_all p.known.own + n) gots;
    }

seat_added : (s t : SeatView) (items posts : ℕ) → ((items ≡ 0) × (posts ≡ 0) × (t ≡ s)) ⊎ SeatCounted s items posts t
    → SeatAdded s.known t.known items
seat_added s t items posts (inl same) =
    let one : items_in t.known.own ≡ items_in s.known.own = ap (λ (v : SeatView). items_in v.known.own) same.2 in
    record {
      parts = ap (λ (v : SeatView). v.known.parts) same.2;
      joined = ap (λ (v : SeatView). v.known.joined) same.2;
      items = omega (arith, one, same.0);
    }
seat_added s t items posts (inr did) = record {
  parts = did.made.parts;
  joined = did.made.joined;
  items =
      ap (λ (h : List (lane.Entry Add)). items_in h) did.made.own
      ∙ sum_by-append (λ (x : lane.Entry Add). items_of x.deed) s.known.own did.adds
      ∙ ap (λ n. items_in s.known.own + n) did.item_sum;
}

pub account_after : {a b : BlockPort} {es : List (Event Item)} {items posts : ℕ} → SwapDid a es items posts b
    → claimed of_stops (entries_by a.pass.now.known.actor es) ≡ 0 → items ≡ takes_in es
    → IsAccountOf a.pass.now.known a.seat.now.known → IsAccountOf b.pass.now.known b.seat.now.known
account_after {a} {b} {es} {items} {posts} did none takes old =
    let pass = pass_added a.pass.now b.pass.now es none did.pass in
    let seat = seat_added a.seat.now b.seat.now items posts did.seat in
    record {
      parts = pass.parts ∙ old.parts;
      joined = pass.joined ∙ old.joined;
      seat_parts = seat.parts ∙ old.seat_parts;
      seat_joined = seat.joined ∙ old.seat_joined;
      no_stop = pass.stops ∙ old.no_stop;
      counted = omega (arith, seat.items, pass.took, takes, old.counted);
    }

-- a pass and a seat of one part that did nothing
pub new_account : (k : Known Item block_note) (l : lane.Known Add) → k.parts ≡ 1 → k.joined ≡ [] → k.own ≡ []
    → l.parts ≡ 1 → l.joined ≡ [] → l.own ≡ [] → IsAccountOf k l
new_account k l parts joined own seat_parts seat_joined seat_own =
    let items : items_in l.own ≡ 0 = ap (λ (h : List (lane.Entry Add)). items_in h) seat_own in
    let took : taken of_all k.own ≡ 0 = ap (λ (h : List (Entry Item block_note)). taken of_all h) own in
    record {
      parts = parts;
      joined = joined;
      seat_parts = seat_parts;
      seat_joined = seat_joined;
      no_stop = ap (λ (h : List (Entry Item block_note)). claimed of_stops h) own;
      counted = omega (arith, items, took);
    }
