-- A pool came to its end: no stop was put in before all producers had come back, and no text or flush after it. So what the
-- producers put in, they or the workers took out.
use Rattle.std.proofs.Common.{◌≡◌, ℕ, ◌+◌, ◌≤◌, cond, List, [], ◌∷◌, ◌++◌, refl, sym, ap, subst, ◌∙◌, append_assoc, append-nil, inr, arith}
use Rattle.std.specs.List.{AllByRecursion, sum_by}
use Rattle.std.proofs.lemmas.List.Sums.{sum_by-cons, sum_by-append}
use Rattle.alog_core.specs.Accounts.{got_by, claims, takes, weigh, claimed, taken}
use Rattle.alog_core.specs.History.{Entry, own_of}
use Rattle.alog_core.proofs.SharedAccounts.{weigh-append, accounts_balance}
use Rattle.alog_core.proofs.SharedCells.{on_test}
use Rattle.alog_core.proofs.SharedHistories.{own_of-append}
use Rattle.alog_lane.specs.Seats as lane
use Rattle.alog_msg.specs.declared.item.Item.{Item}
use Rattle.alog_msg.specs.declared.item.Item.TheVariants.{Text, Flush, Stop}
use Rattle.alog_policy.specs.BookAdds.{Add, items_in}
use Rattle.alog_pool.specs.Accounts.{of_all, of_work, of_stops, Moved}
use Rattle.alog_pool.specs.Ended.{PutNoStop, PutNothing, HasGathered, IsEndingFrom, HasEndedFrom, AreCounted}
use Rattle.alog_pool.specs.Ending.{HasEndedAmong, IsEnd}
use Rattle.alog_pool.specs.Whole.{claimed_among, taken_among, claimed_by, taken_by}
use Rattle.alog_pool.proofs.Leaving.{none_weighs, stops_weigh_nothing, no_work_is_left}
use Rattle.alog_pool.proofs.SharedSums.{claimed-append, claimed_by_actors}
use Rattle.alog_registry.specs.BlockPort.{block_note}
use Rattle.alog_ring.specs.Known.{Known, Member, IsAmong, AreDistinct}
use Rattle.alog_ring.specs.Made.{AreExact, Made}
use Rattle.alog_ring.specs.Share.{IsWhole}
use Rattle.alog_ring.proofs.SharedLists.{each_of, each_of_two, each_append, prefix_same, prefix_through}

abbrev Deed : Type 0
Deed = Entry Item block_note

abbrev One : Type 0
One = Member Item block_note

module _ {A : Type 0} where
  each_first : (P : A → Type 0) (l m : List A) → AllByRecursion P (l ++ m) → AllByRecursion P l
  each_first P [] m all = tt
  each_first P (x ∷ xs) m all = (all.0, each_first P xs m all.1)

  each_second : (P : A → Type 0) (l m : List A) → AllByRecursion P (l ++ m) → AllByRecursion P m
  each_second P [] m all = all
  each_second P (x ∷ xs) m all = each_second P xs m all.1

  sum_of_none : (f : A → ℕ) (l : List A) → AllByRecursion (λ (x : A). f x ≡ 0) l → sum_by f l ≡ 0
  sum_of_none f [] none = refl
  sum_of_none f (x ∷ xs) none =
      let one : sum_by f (x ∷ xs) ≡ f x + sum_by f xs = sum_by-cons f x xs in omega (arith, one, none.0, sum_of_none f xs none.1)

-- what one actor claims in a history of two parts
claimed_in_two : (w : ℕ → Item → ℕ) (a : ℕ) (s t : List Deed)
    → claimed w (own_of a (s ++ t)) ≡ claimed w (own_of a s) + claimed w (own_of a t)
claimed_in_two w a s t = ap (λ (h : List Deed). claimed w h) (own_of-append a s t) ∙ claimed-append w (own_of a s) (own_of a t)

nothing_put : (w : ℕ → Item → ℕ) (h : List Deed) → claims h ≡ [] → claimed w h ≡ 0
nothing_put w h none = ap (λ (ps : List (ℕ × Item)). weigh w ps) none

module _ (w : ℕ → Item → ℕ) (s t : List Deed) where
  -- an actor with the same entries in the first part as in both claims nothing in the second
  no_later : (m : One) → m.own ≡ own_of m.actor s → m.own ≡ own_of m.actor (s ++ t) → claimed w (own_of m.actor t) ≡ 0
  no_later m early all =
      let first : claimed w m.own ≡ claimed w (own_of m.actor s) = ap (λ (h : List Deed). claimed w h) early in
      let both : claimed w m.own ≡ claimed w (own_of m.actor (s ++ t)) = ap (λ (h : List Deed). claimed w h) all in
      omega (arith, first, both, claimed_in_two w m.actor s t)

  -- one that claims nothing in both claims nothing in either
  in_neither : (m : One) → m.own ≡ own_of m.actor (s ++ t) → claimed w m.own ≡ 0
      → (claimed w (own_of m.actor s) ≡ 0) × (claimed w (own_of m.actor t) ≡ 0)
  in_neither m all none =
      let both : claimed w m.own ≡ claimed w (own_of m.actor (s ++ t)) = ap (λ (h : List Deed). claimed w h) all in
      (omega (arith, none, both, claimed_in_two w m.actor s t), omega (arith, none, both, claimed_in_two w m.actor s t))

-- What is known of a whole history: each member's entries are its own, and no entry is another's.
record Stands (a : ℕ) (own : List Deed) (joined : List One) (h : List Deed) : Type 0 where
  own_is : own ≡ own_of a h
  joined_are : AreExact joined h
  distinct : AreDistinct (record { actor = a; own = own } ∷ joined)
  actors : AllByRecursion (λ (x : Deed). IsAmong x.actor (record { actor = a; own = own } ∷ joined)) h

-- a history of two parts: in the first the producers were at work, in the second only the workers, and the pool with its stops
module _ (a : ℕ) (own stops : List Deed) (producers workers : List One) (s t : List Deed)
    (stands : Stands a (own ++ stops) (producers ++ workers) (s ++ t)) (own_is : own ≡ own_of a s) (exact : AreExact producers s)
    (no_claims : claims own ≡ []) (silent : AllByRecursion PutNothing workers) where
  abbrev all : List One
  all = record { actor = a; own = own ++ stops } ∷ producers ++ workers

  workers_exact : AreExact workers (s ++ t)
  workers_exact = each_second (λ (m : One). m.own ≡ own_of m.actor (s ++ t)) producers workers stands.joined_are

  producers_exact : AreExact producers (s ++ t)
  producers_exact = each_first (λ (m : One). m.own ≡ own_of m.actor (s ++ t)) producers workers stands.joined_are

  no_stop : AllByRecursion PutNoStop producers → claimed of_stops s ≡ 0
  no_stop none =
      let mine : claimed of_stops (own_of a s) ≡ 0 =
      ap (λ (h : List Deed). claimed of_stops h) (sym own_is) ∙ nothing_put of_stops own no_claims in
      let theirs : AllByRecursion (λ (m : One). claimed of_stops (own_of m.actor s) ≡ 0) producers =
      each_of_two (λ (m : One). m.own ≡ own_of m.actor s) PutNoStop (λ (m : One). claimed of_stops (own_of m.actor s) ≡ 0) producers
      (λ m is put. ap (λ (h : List Deed). claimed of_stops h) (sym is) ∙ put) exact none in
      let later : AllByRecursion (λ (m : One). claimed of_stops (own_of m.actor s) ≡ 0) workers =
      each_of_two (λ (m : One). m.own ≡ own_of m.actor (s ++ t)) PutNothing (λ (m : One). claimed of_stops (own_of m.actor s) ≡ 0)
      workers (λ m is put. (in_neither of_stops s t m is (nothing_put of_stops m.own put)).0) workers_exact silent in
      claimed_by_actors of_stops all s stands.distinct (each_first (λ (x : Deed). IsAmong x.actor all) s t stands.actors)
      ∙ sum_of_none (λ (m : One). claimed of_stops (own_of m.actor s)) all
      (mine, each_append (λ (m : One). claimed of_stops (own_of m.actor s) ≡ 0) producers workers theirs later)

  no_work : claimed of_work stops ≡ 0 → claimed of_work t ≡ 0
  no_work only =
      let put : claimed of_work (own ++ stops) ≡ 0 = omega (
        arith,
        claimed-append of_work own stops,
        nothing_put of_work own no_claims,
        only,
      ) in
      let mine : claimed of_work (own_of a t) ≡ 0 =
      (in_neither of_work s t (record { actor = a; own = own ++ stops }) stands.own_is put).1 in
      let theirs : AllByRecursion (λ (m : One). claimed of_work (own_of m.actor t) ≡ 0) producers =
      each_of_two (λ (m : One). m.own ≡ own_of m.actor s) (λ (m : One). m.own ≡ own_of m.actor (s ++ t))
      (λ (m : One). claimed of_work (own_of m.actor t) ≡ 0) producers (no_later of_work s t) exact producers_exact in
      let later : AllByRecursion (λ (m : One). claimed of_work (own_of m.actor t) ≡ 0) workers =
      each_of_two (λ (m : One). m.own ≡ own_of m.actor (s ++ t)) PutNothing (λ (m : One). claimed of_work (own_of m.actor t) ≡ 0)
      workers (λ m is put. (in_neither of_work s t m is (nothing_put of_work m.own put)).1) workers_exact silent in
      claimed_by_actors of_work all t stands.distinct (each_second (λ (x : Deed). IsAmong x.actor all) s t stands.actors)
      ∙ sum_of_none (λ (m : One). claimed of_work (own_of m.actor t)) all
      (mine, each_append (λ (m : One). claimed of_work (own_of m.actor t) ≡ 0) producers workers theirs later)

pub ended_second : (ms ns : List One) → HasEndedAmong ns → HasEndedAmong (ms ++ ns)
ended_second [] ns ended = ended
ended_second (m ∷ ms) ns ended = inr (ended_second ms ns ended)

stands_at_end : (j k : Known Item block_note) (workers : List One) (e : IsEndingFrom j k workers) → IsWhole k
    → Stands j.actor (j.own ++ e.stops) (j.joined ++ workers) (j.seen ++ e.seen.0)
stands_at_end j k workers e whole =
    let same : ◌≡◌ {A = ℕ × List Deed × List One × List Deed} (k.actor, k.own, k.joined, k.seen)
    (j.actor, j.own ++ e.stops, j.joined ++ workers, j.seen ++ e.seen.0) =
    (λ i. (e.actor i, e.own i, e.joined i, sym e.seen.1 i)) in
    let now : Stands k.actor k.own k.joined k.seen = record {
      own_is = whole.faithful.own;
      joined_are = whole.faithful.joined;
      distinct = whole.faithful.distinct;
      actors = whole.actors;
    } in
    subst (λ (z : ℕ × List Deed × List One × List Deed). Stands z.0 z.1 z.2 z.3) same now

no_stop_before : (j k : Known Item block_note) (workers : List One) → HasGathered j → IsEndingFrom j k workers → IsWhole k
    → claimed of_stops j.seen ≡ 0
no_stop_before j k workers gathered e whole =
    no_stop j.actor j.own e.stops j.joined workers j.seen e.seen.0 (stands_at_end j k workers e whole) gathered.faithful.own
    gathered.faithful.joined gathered.own e.no_claims gathered.members

pub is_end : (j k : Known Item block_note) → HasGathered j → HasEndedFrom j k → IsWhole k → 1 ≤ k.places → IsEnd k
is_end j k gathered ended whole some =
    let e = ended.since in
    record {
      whole = whole;
      some = some;
      before = j.seen;
      later = e.seen.0;
      seen = sym e.seen.1;
      no_stop = no_stop_before j k ended.workers gathered e whole;
      only_stops = no_work j.actor j.own e.stops j.joined ended.workers j.seen e.seen.0 (stands_at_end j k ended.workers e whole)
          gathered.faithful.own gathered.faithful.joined gathered.own e.no_claims e.only_stops;
      ended = inr (subst HasEndedAmong (sym e.joined) (ended_second j.joined ended.workers ended.ended));
    }

-- what is no work is a stop, and weighs nothing where stops do
no_work_weighs : (w : ℕ → Item → ℕ) (h : List Deed) → ((t : ℕ) → w t Stop ≡ 0) → claimed of_work h ≡ 0 → claimed w h ≡ 0
no_work_weighs w h nothing none = stops_weigh_nothing w (claims h) nothing (λ p c. none_weighs of_work (claims h) p none c)

-- By whatever weight that gives nothing to stops: the members put in what the producers did.
pub producers_put : (j k : Known Item block_note) (workers : List One) (w : ℕ → Item → ℕ) → claims j.own ≡ [] → IsEndingFrom j k workers
    → ((t : ℕ) → w t Stop ≡ 0) → claimed_by w k ≡ claimed_among w j.joined
producers_put j k workers w none e nothing =
    let f : One → ℕ = λ m. claimed w m.own in
    let mine : claimed w k.own ≡ 0 =
    ap (λ (h : List Deed). claimed w h) e.own ∙ claimed-append w j.own e.stops
    ∙ (λ i. nothing_put w j.own none i + no_work_weighs w e.stops nothing e.only_stops i) in
    let one : claimed_by w k ≡ claimed w k.own + sum_by f k.joined = sum_by-cons f (record { actor = k.actor; own = k.own }) k.joined in
    let two : sum_by f k.joined ≡ sum_by f j.joined + sum_by f workers =
    ap (λ (ms : List One). sum_by f ms) e.joined ∙ sum_by-append f j.joined workers in
    let silent : sum_by f workers ≡ 0 = sum_of_none f workers
    (each_of PutNothing (λ (m : One). claimed w m.own ≡ 0) workers (λ m put. nothing_put w m.own put) e.no_claims) in
    omega (arith, mine, one, two, silent)

-- By whatever weight: where the pool's own pass took nothing, the members took out what the producers and the workers did.
pub all_took : (j k : Known Item block_note) (workers : List One) (w : ℕ → Item → ℕ) → IsEndingFrom j k workers → takes k.own ≡ []
    → taken_by w k ≡ taken_among w j.joined + taken_among w workers
all_took j k workers w e none =
    let f : One → ℕ = λ m. taken w m.own in
    let mine : taken w k.own ≡ 0 = ap (λ (ps : List (ℕ × Item)). weigh w ps) none in
    let one : taken_by w k ≡ taken w k.own + sum_by f k.joined = sum_by-cons f (record { actor = k.actor; own = k.own }) k.joined in
    let two : sum_by f k.joined ≡ sum_by f j.joined + sum_by f workers =
    ap (λ (ms : List One). sum_by f ms) e.joined ∙ sum_by-append f j.joined workers in
    omega (arith, mine, one, two)

-- So at the end: what the producers put in, they took out themselves, or the workers did.
pub all_came_out : {j k : Known Item block_note} (ended : HasEndedFrom j k) (w : ℕ → Item → ℕ) → HasGathered j → IsWhole k → 1 ≤ k.places
    → takes k.own ≡ [] → ((t : ℕ) → w t Stop ≡ 0)
    → claimed_among w j.joined ≡ taken_among w j.joined + taken_among w ended.workers
all_came_out {j} {k} ended w gathered whole some none nothing =
    sym (producers_put j k ended.workers w gathered.own ended.since nothing)
    ∙ no_work_is_left k w (is_end j k gathered ended whole some) nothing
    ∙ all_took j k ended.workers w ended.since none

-- Who takes out before any stop is put in takes only texts and flushes.
each_kind : (ps : List (ℕ × Item)) → weigh of_all ps ≡ weigh of_work ps + weigh of_stops ps
each_kind [] = refl
each_kind ((t, Text m) ∷ ps) = omega (arith, each_kind ps)
each_kind ((t, Flush n) ∷ ps) = omega (arith, each_kind ps)
each_kind ((t, Stop) ∷ ps) = omega (arith, each_kind ps)

own_takes_less : (w : ℕ → Item → ℕ) (a : ℕ) (h : List Deed) → taken w (own_of a h) ≤ taken w h
own_takes_less w a [] = omega arith
own_takes_less w a (x ∷ h) =
    let rest = own_takes_less w a h in
    let all : taken w (x ∷ h) ≡ weigh w (got_by x.event) + taken w h = weigh-append w (got_by x.event) (takes h) in
    let mine : taken w (x ∷ own_of a h) ≡ weigh w (got_by x.event) + taken w (own_of a h) =
    weigh-append w (got_by x.event) (takes (own_of a h)) in
    on_test (λ b. taken w (cond b (x ∷ own_of a h) (own_of a h)) ≤ taken w (x ∷ h)) x.actor a
    (λ _. omega (arith, rest, all, mine)) (λ _. omega (arith, rest, all))

sums_alike : (f g : One → ℕ) (ms : List One) → AllByRecursion (λ (m : One). f m ≡ g m) ms → sum_by f ms ≡ sum_by g ms
sums_alike f g [] same = refl
sums_alike f g (m ∷ ms) same =
    let one : sum_by f (m ∷ ms) ≡ f m + sum_by f ms = sum_by-cons f m ms in
    let two : sum_by g (m ∷ ms) ≡ g m + sum_by g ms = sum_by-cons g m ms in
    omega (arith, one, two, same.0, sums_alike f g ms same.1)

-- So what the producers took out, and counted as overrun, were texts and flushes.
pub overran_work : (j k : Known Item block_note) (workers : List One) → HasGathered j → IsEndingFrom j k workers → IsWhole k
    → taken_among of_all j.joined ≡ taken_among of_work j.joined
overran_work j k workers gathered e whole =
    let none = no_stop_before j k workers gathered e whole in
    let balance = accounts_balance Item block_note j.places j.first j.seen of_stops gathered.faithful.legal in
    sums_alike (λ m. taken of_all m.own) (λ m. taken of_work m.own) j.joined
    (each_of (λ (m : One). m.own ≡ own_of m.actor j.seen) (λ (m : One). taken of_all m.own ≡ taken of_work m.own) j.joined
    (λ m is.
    let same : taken of_stops m.own ≡ taken of_stops (own_of m.actor j.seen) = ap (λ (h : List Deed). taken of_stops h) is in
    omega (arith, each_kind (takes m.own), same, own_takes_less of_stops m.actor j.seen, none, balance)) gathered.faithful.joined)

-- what the seats counted
pub counted_sum : (ms : List One) (ss : List (lane.Member Add)) → AreCounted ms ss
    → sum_by (λ (s : lane.Member Add). items_in s.own) ss ≡ taken_among of_all ms
counted_sum [] [] are = refl
counted_sum [] (s ∷ ss) are = absurd are
counted_sum (m ∷ ms) [] are = absurd are
counted_sum (m ∷ ms) (s ∷ ss) are =
    let f : lane.Member Add → ℕ = λ n. items_in n.own in
    let g : One → ℕ = λ n. taken of_all n.own in
    let one : sum_by f (s ∷ ss) ≡ f s + sum_by f ss = sum_by-cons f s ss in
    let two : sum_by g (m ∷ ms) ≡ g m + sum_by g ms = sum_by-cons g m ms in
    omega (arith, one, two, are.0, counted_sum ms ss are.1)

-- What the producers posted of texts and flushes was counted as overrun by their seats, or the workers took it out.
pub overrun_or_handled : {j k : Known Item block_note} (ended : HasEndedFrom j k) (seats : List (lane.Member Add)) → HasGathered j
    → IsWhole k
    → 1 ≤ k.places → takes k.own ≡ [] → AreCounted j.joined seats
    → claimed_among of_work j.joined ≡ sum_by (λ (s : lane.Member Add). items_in s.own) seats + taken_among of_work ended.workers
overrun_or_handled {j} {k} ended seats gathered whole some none counted =
    all_came_out ended of_work gathered whole some none (λ t. refl)
    ∙ ap (λ n. n + taken_among of_work ended.workers)
    (sym (overran_work j k ended.workers gathered ended.since whole) ∙ sym (counted_sum j.joined seats counted))

-- How a pool comes to its end, call by call.
pub ending_starts : (j : Known Item block_note) → IsEndingFrom j j []
ending_starts j = record {
  actor = refl;
  seen = prefix_same j.seen;
  stops = [];
  own = sym (append-nil j.own);
  only_stops = refl;
  joined = sym (append-nil j.joined);
  no_claims = tt;
}

-- the pool's pass puts in stops, or looks
pub ending_made : (j k l : Known Item block_note) (workers : List One) (h : List Deed) → IsEndingFrom j k workers → Made k l h
    → claimed of_work h ≡ 0 → IsEndingFrom j l workers
ending_made j k l workers h e made none = record {
  actor = made.actor ∙ e.actor;
  seen = prefix_through j.seen k.seen l.seen e.seen made.seen;
  stops = e.stops ++ h;
  own = made.own ∙ ap (λ (g : List Deed). g ++ h) e.own ∙ append_assoc j.own e.stops h;
  only_stops = omega (arith, claimed-append of_work e.stops h, e.only_stops, none);
  joined = made.joined ∙ e.joined;
  no_claims = e.no_claims;
}

pub ending_moved : {j k l : Known Item block_note} {workers : List One} {puts gots : List (ℕ × Item)} → IsEndingFrom j k workers
    → Moved k l puts gots → weigh of_work puts ≡ 0 → IsEndingFrom j l workers
ending_moved {j} {k} {l} {workers} e moved none =
    ending_made j k l workers moved.entries e moved.made (ap (λ (ps : List (ℕ × Item)). weigh of_work ps) moved.puts_are ∙ none)
