-- Where the one producer of a pool saw that no ticket is left, it and the pool's stops claimed all of them.
use Rattle.std.proofs.Common.{◌≡◌, ◌⊎◌, ℕ, ◌+◌, ◌≤◌, cond, Bool, List, [], ◌∷◌, map, length, refl, sym, ap, subst, ◌∙◌, inl, inr, arith}
use Rattle.std.specs.List.{AllByRecursion}
use Rattle.alog_core.specs.Accounts.{put_by, claims, weigh, claimed}
use Rattle.alog_core.specs.History.{Entry, own_of, IsLegalFrom}
use Rattle.alog_core.specs.Queue.{Queue, Event, Claim, Write, Grab, Take, Full, Front, Empty, Idle, PushBusy, PopBusy, Spent, Allows, after, last, start}
use Rattle.alog_core.proofs.SharedAccounts.{weigh-append}
use Rattle.alog_core.proofs.SharedCells.{on_test}
use Rattle.alog_lane.specs.Calls.{LaneId}
use Rattle.alog_msg.specs.declared.item.Item.{Item}
use Rattle.alog_pool.specs.Accounts.{of_all}
use Rattle.alog_pool.specs.Back.{pass_member, worker_member}
use Rattle.alog_pool.specs.Pool.{PoolView, lanes_of}
use Rattle.alog_pool.specs.Producer.{ProducerView}
use Rattle.alog_pool.specs.Report.{Ends, HasServed}
use Rattle.alog_pool.specs.Stops.{SawSpent}
use Rattle.alog_pool.specs.declared.report.Report.{Report}
use Rattle.alog_pool.specs.declared.shared.Shared.{Shared}
use Rattle.alog_pool.specs.declared.worker.Worker.{Worker}
use Rattle.alog_registry.specs.BlockPort.{block_note}
use Rattle.alog_ring.specs.Known.{Member, IsAmong}
use Rattle.alog_ring.specs.Made.{AreExact}
use Rattle.alog_sink.specs.Files.{Files}
use Rattle.alog_sink.specs.declared.sink.Sink.{Sink}
use Rattle.test_laws.proofs.Claims.{Given}

abbrev Deed : Type 0
Deed = Entry Item block_note

abbrev One : Type 0
One = Member Item block_note

-- each weighs one
weigh_length : (ps : List Given) → weigh of_all ps ≡ length ps
weigh_length [] = refl
weigh_length (p ∷ ps) = let rest = weigh_length ps in omega (arith, rest)

-- a claim issues the next ticket, and nothing else issues one
step_next : (n : ℕ) (q : Queue Item) (a : ℕ) (e : Event Item) → Allows n q a e → (after q a e).next ≡ q.next + weigh of_all (put_by e)
step_next n q a (Claim t x) may = omega arith
step_next n q a (Write t) may = omega arith
step_next n q a (Grab t) may = omega arith
step_next n q a (Take t x) may = omega arith
step_next n q a (Full t) may = omega arith
step_next n q a (Front t) may = omega arith
step_next n q a (Empty t) may = omega arith
step_next n q a (Idle t) may = omega arith
step_next n q a (PushBusy t) may = omega arith
step_next n q a (PopBusy t) may = omega arith
step_next n q a Spent may = omega arith

-- where somebody saw that none is left, all were claimed
all_claimed : (n : ℕ) (q : Queue Item) (h : List Deed) → IsLegalFrom n q h → SawSpent h → last ≤ q.next + claimed of_all h
all_claimed n q [] legal saw = absurd saw
all_claimed n q (x ∷ h) legal (inl is) =
    let may : q.next ≡ last = subst (λ (e : Event Item). Allows n q x.actor e) is legal.0 in omega (arith, may)
all_claimed n q (x ∷ h) legal (inr later) =
    let rest = all_claimed n (after q x.actor x.event) h legal.1 later in
    let step = step_next n q x.actor x.event legal.0 in
    let more = weigh-append of_all (put_by x.event) (claims h) in omega (arith, rest, step, more)

-- an actor's own entries are of the history
own_saw : (a : ℕ) (h : List Deed) → SawSpent (own_of a h) → SawSpent h
own_saw a [] saw = saw
own_saw a (x ∷ h) saw =
    on_test (λ b. SawSpent (cond b (x ∷ own_of a h) (own_of a h)) → SawSpent (x ∷ h)) x.actor a
    (λ _ d. elim d [ inl is ↦ inl is | inr later ↦ inr (own_saw a h later) ])
    (λ _ d. inr (own_saw a h d))
    saw

-- how much these actors claimed in a history
abbrev claimed_of : List One → List Deed → ℕ
claimed_of [] h = 0
claimed_of (m ∷ ms) h = claimed of_all (own_of m.actor h) + claimed_of ms h

-- with one more entry it is no less, and as much more as is claimed by it where one of them made it
actor_more : (a : ℕ) (x : Deed) (h : List Deed) → claimed of_all (own_of a h) ≤ claimed of_all (own_of a (x ∷ h))
actor_more a x h =
    let parts = weigh-append of_all (put_by x.event) (claims (own_of a h)) in
    on_test (λ b. claimed of_all (own_of a h) ≤ claimed of_all (cond b (x ∷ own_of a h) (own_of a h))) x.actor a
    (λ _. omega (arith, parts)) (λ _. omega arith)

actor_made : (a : ℕ) (x : Deed) (h : List Deed) → x.actor ≡ a
    → weigh of_all (put_by x.event) + claimed of_all (own_of a h) ≤ claimed of_all (own_of a (x ∷ h))
actor_made a x h is =
    let parts = weigh-append of_all (put_by x.event) (claims (own_of a h)) in
    on_test (λ b. weigh of_all (put_by x.event) + claimed of_all (own_of a h) ≤ claimed of_all (cond b (x ∷ own_of a h) (own_of a h)))
    x.actor a (λ _. omega (arith, parts)) (λ other. absurd (other is))

among_more : (ms : List One) (x : Deed) (h : List Deed) → claimed_of ms h ≤ claimed_of ms (x ∷ h)
among_more [] x h = omega arith
among_more (m ∷ ms) x h =
    let first = actor_more m.actor x h in
    let rest = among_more ms x h in omega (arith, first, rest)

among_made : (ms : List One) (x : Deed) (h : List Deed) → IsAmong x.actor ms
    → weigh of_all (put_by x.event) + claimed_of ms h ≤ claimed_of ms (x ∷ h)
among_made [] x h is = absurd is
among_made (m ∷ ms) x h (inl is) =
    let first = actor_made m.actor x h is in
    let rest = among_more ms x h in omega (arith, first, rest)
among_made (m ∷ ms) x h (inr later) =
    let first = actor_more m.actor x h in
    let rest = among_made ms x h later in omega (arith, first, rest)

-- what was claimed they claimed, where each entry is by one of them
all_among : (ms : List One) (h : List Deed) → AllByRecursion (λ (x : Deed). IsAmong x.actor ms) h → claimed of_all h ≤ claimed_of ms h
all_among ms [] each = omega arith
all_among ms (x ∷ h) each =
    let one = among_made ms x h each.0 in
    let rest = all_among ms h each.1 in
    let parts = weigh-append of_all (put_by x.event) (claims h) in omega (arith, one, rest, parts)

-- who claimed nothing
module _ {S : Type 0} (shared : Shared) (lanes : List (LaneId (Sink S))) (most : ℕ) (seen : List Deed) where
  crew_claims : (crew : List (Worker S)) → AllByRecursion (HasServed shared lanes most) crew
      → AreExact (map (λ (h : Worker S). worker_member h) crew) seen → claimed_of (map (λ (h : Worker S). worker_member h) crew) seen ≡ 0
  crew_claims [] served exact = refl
  crew_claims (h ∷ crew) served exact =
      let none : claimed of_all (own_of h.pass.known.actor seen) ≡ 0 =
      ap (λ (g : List Deed). claimed of_all g) (sym exact.0) ∙ ap (λ (ps : List Given). weigh of_all ps) served.0.work.puts in
      let rest = crew_claims crew served.1 exact.1 in omega (arith, none, rest)

module _ {S : Type 0} (tells : Bool) (files : S → Files) (failures : S → ℕ) {pool : PoolView S} {p : ProducerView} {r : Report S}
    (ends : Ends tells files failures pool (p ∷ []) r) where
  abbrev seen : List Deed
  seen = ends.end.seen

  exact : AreExact (pass_member p ∷ map (λ (h : Worker S). worker_member h) ends.crew) seen
  exact = subst (λ (ms : List One). AreExact ms seen) ends.members ends.whole.faithful.joined

  actors : AllByRecursion (λ (x : Deed). IsAmong x.actor (record { actor = ends.end.actor; own = ends.end.own } ∷ pass_member p
      ∷ map (λ (h : Worker S). worker_member h) ends.crew)) seen
  actors = subst (λ (ms : List One). AllByRecursion (λ (x : Deed). (x.actor ≡ ends.end.actor) ⊎ IsAmong x.actor ms) seen) ends.members
      ends.whole.actors

  few_stops : length (claims ends.end.own) ≤ length pool.crew
  few_stops = elim ends.stops.1 [ inl all ↦ omega (arith, all) | inr less ↦ let few = less.0 in omega (arith, few) ]

  -- all tickets but for one for each worker, at most
  pub nearly_all : SawSpent p.pass.known.own → last ≤ pool.shared.ring.ring.first + length pool.crew + length (claims p.pass.known.own)
  nearly_all saw =
      let mine : claimed of_all (own_of p.pass.known.actor seen) ≡ length (claims p.pass.known.own) =
      ap (λ (h : List Deed). claimed of_all h) (sym exact.0) ∙ weigh_length (claims p.pass.known.own) in
      let stops : claimed of_all (own_of ends.end.actor seen) ≡ length (claims ends.end.own) =
      ap (λ (h : List Deed). claimed of_all h) (sym ends.whole.faithful.own) ∙ weigh_length (claims ends.end.own) in
      let there : SawSpent seen = own_saw p.pass.known.actor seen (subst (λ (h : List Deed). SawSpent h) exact.0 saw) in
      let all = all_claimed ends.end.places (start ends.end.first) seen ends.whole.faithful.legal.0 there in
      let by = all_among (record { actor = ends.end.actor; own = ends.end.own } ∷ pass_member p
      ∷ map (λ (h : Worker S). worker_member h) ends.crew) seen actors in
      let idle = crew_claims pool.shared (lanes_of pool.sink_seats) pool.most seen ends.crew ends.served exact.1 in
      let first = ends.ring.1 in
      let few = few_stops in omega (arith, mine, stops, all, by, idle, first, few)
