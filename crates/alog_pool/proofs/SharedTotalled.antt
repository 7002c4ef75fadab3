-- The end of a pool, from what its calls tell one after another.
use Rattle.std.proofs.Common.{◌≡◌, ◌≤◌, ℕ, ◌+◌, ◌%◌, ◌^◌, List, [], ◌∷◌, ◌++◌, map, length, refl, sym, ap, subst, ◌∙◌, append-nil, arith}
use Rattle.std.specs.List.{AllByRecursion, sum_by}
use Rattle.std.proofs.Math.Nat.{mod-add-mod}
use Rattle.std.proofs.lemmas.List.{length-map}
use Rattle.std.proofs.lemmas.List.Sums.{sum_by-cons}
use Rattle.alog_core.specs.Accounts.{claims, takes, claimed, taken}
use Rattle.alog_core.specs.History.{Entry}
use Rattle.alog_lane.specs.Seats as lane
use Rattle.alog_msg.specs.declared.item.Item.{Item}
use Rattle.alog_policy.specs.BookAdds.{Add, items_in, posts_in}
use Rattle.alog_policy.specs.BookCalls as book
use Rattle.alog_policy.specs.declared.counts.Counts.{Counts}
use Rattle.alog_pool.specs.Accounts.{of_work}
use Rattle.alog_pool.specs.Back.{AreAccounts, HasBack, HasSeatsBack, worker_member, loss_member, pass_member}
use Rattle.alog_pool.specs.Ended.{AreCounted, HasEndedFrom, HasGathered, IsEndingFrom, PutNoStop}
use Rattle.alog_pool.specs.Places.{Each2}
use Rattle.alog_pool.specs.Producer.{ProducerView}
use Rattle.alog_pool.specs.Report.{AllCameOut, AreSums, AreTotals, handled_by, put_in, took_out}
use Rattle.alog_pool.specs.Stops.{AreEnough, AreStops, PutsStops}
use Rattle.alog_pool.specs.Whole.{claimed_among, taken_among}
use Rattle.alog_pool.specs.Working.{HasWorked}
use Rattle.alog_pool.specs.declared.worker.Worker.{Worker}
use Rattle.alog_pool.specs.declared.report.Totals.{Totals}
use Rattle.alog_pool.proofs.SharedBack.{sum_mod, sum_of_map}
use Rattle.alog_pool.proofs.Ended.{all_came_out, ending_moved, ending_starts, is_end, overrun_or_handled}
use Rattle.alog_pool.specs.Ending.{IsEnd}
use Rattle.alog_pool.proofs.Halting.{no_work_in_stops}
use Rattle.alog_pool.proofs.SharedServed.{all_handled, one_ended, put_nothing}
use Rattle.alog_pool.proofs.SharedSharing.{each2_length}
use Rattle.alog_pool.proofs.SharedWorked.{moved_gots, moved_puts}
use Rattle.alog_registry.specs.BlockPort.{block_note}
use Rattle.alog_ring.specs.Known.{Known, Member}
use Rattle.alog_ring.specs.Share.{IsWhole}
use Rattle.alog_ring.specs.declared.TheConstants.{ALL_PARTS}
use Rattle.alog_ring.proofs.SharedLists.{prefix_through}

abbrev Deed : Type 0
Deed = Entry Item block_note

abbrev One : Type 0
One = Member Item block_note

pub no_stops : (ps : List ProducerView) → AreAccounts ps → AllByRecursion PutNoStop (map pass_member ps)
no_stops [] all = tt
no_stops (p ∷ ps) all = (all.0.no_stop, no_stops ps all.1)

pub counted : (ps : List ProducerView) → AreAccounts ps → AreCounted (map pass_member ps) (map loss_member ps)
counted [] all = tt
counted (p ∷ ps) all = (all.0.counted, counted ps all.1)

pub overran : (ps : List ProducerView) → AreAccounts ps → sum_by (λ (p : ProducerView). items_in p.losses.known.own) ps ≡ sum_by took_out ps
overran [] all = refl
overran (p ∷ ps) all =
    let f : ProducerView → ℕ = λ q. items_in q.losses.known.own in
    let one : sum_by f (p ∷ ps) ≡ f p + sum_by f ps = sum_by-cons f p ps in
    let two : sum_by took_out (p ∷ ps) ≡ took_out p + sum_by took_out ps = sum_by-cons took_out p ps in
    let same = all.0.counted in
    omega (arith, one, two, same, overran ps all.1)

-- both summed modulo 2^64
pub two_mods : (a b m n : ℕ) → a ≡ m % 2 ^ 64 → b ≡ n % 2 ^ 64 → (a + b) % 2 ^ 64 ≡ (m + n) % 2 ^ 64
two_mods a b m n first second =
    let swap : m + b ≡ b + m = omega arith in
    let back : n + m ≡ m + n = omega arith in
    ap (λ k. (k + b) % 2 ^ 64) first ∙ mod-add-mod m (2 ^ 64) b ∙ ap (λ k. k % 2 ^ 64) swap
    ∙ ap (λ k. (k + m) % 2 ^ 64) second ∙ mod-add-mod n (2 ^ 64) m ∙ ap (λ k. k % 2 ^ 64) back

-- The pool's pass before any came back, then when the producers had, when stops were posted, and when the workers had come back.
module _ {S : Type 0} (a j k l : Known Item block_note) (producers : List ProducerView) (starts crew : List (Worker S)) (count : ℕ)
    (own : a.own ≡ []) (none : a.joined ≡ []) (gather : HasBack a j (map pass_member producers)) (accounts : AreAccounts producers)
    (stops : PutsStops j k count) (collect : HasBack k l (map (λ (h : Worker S). worker_member h) crew))
    (worked : Each2 HasWorked starts crew) (some : 1 ≤ length starts) where
  abbrev workers : List One
  workers = map (λ (h : Worker S). worker_member h) crew

  abbrev made_by : List One
  made_by = map pass_member producers

  unused : j.own ≡ []
  unused = gather.own ∙ own

  gathered_are : j.joined ≡ made_by
  gathered_are = gather.joined ∙ ap (λ (ms : List One). ms ++ made_by) none

  gathered : HasGathered j
  gathered = record {
    faithful = gather.faithful;
    own = ap (λ (h : List Deed). claims h) unused;
    members = subst (λ (ms : List One). AllByRecursion PutNoStop ms) (sym gathered_are) (no_stops producers accounts);
  }

  posted : IsEndingFrom j k []
  posted = ending_moved (ending_starts j) stops.moved (no_work_in_stops stops.puts stops.stops)

  ended : HasEndedFrom j l
  ended = record {
    workers = workers;
    since = record {
      actor = collect.actor ∙ posted.actor;
      seen = prefix_through j.seen k.seen l.seen posted.seen collect.seen;
      stops = posted.stops;
      own = collect.own ∙ posted.own;
      only_stops = posted.only_stops;
      joined = collect.joined ∙ ap (λ (ms : List One). ms ++ workers) (posted.joined ∙ append-nil j.joined);
      no_claims = put_nothing starts crew worked;
    };
    ended = one_ended starts crew some worked;
  }

  pub members : l.joined ≡ made_by ++ workers
  unfolding ended
  members = ended.since.joined ∙ ap (λ (ms : List One). ms ++ workers) gathered_are

  pub took_none : takes l.own ≡ []
  took_none = ap (λ (h : List Deed). takes h) collect.own ∙ moved_gots j k stops.puts [] stops.moved
      ∙ append-nil (takes j.own) ∙ ap (λ (h : List Deed). takes h) unused

  put_stops : claims l.own ≡ stops.puts
  put_stops = ap (λ (h : List Deed). claims h) collect.own ∙ moved_puts j k stops.puts [] stops.moved
      ∙ ap (λ (h : List Deed). claims h ++ stops.puts) unused

  pub only_stops : AreStops (claims l.own) × AreEnough count (claims l.own) l.own
  only_stops = (
    subst (λ (ps : List (ℕ × Item)). AreStops ps) (sym put_stops) stops.stops,
    subst (λ (z : List (ℕ × Item) × List Deed). AreEnough count z.0 z.1) (λ i. (sym put_stops i, sym collect.own i)) stops.enough,
  )

  -- all parts are here
  pub all_parts : l.parts ≡ a.parts + (length producers + length crew)
  all_parts =
      let one = gather.parts in
      let two = stops.moved.made.parts in
      let three = collect.parts in
      let first : length made_by ≡ length producers = length-map producers pass_member in
      let second : length workers ≡ length crew = length-map crew (λ (h : Worker S). worker_member h) in
      omega (arith, one, two, three, first, second)

  -- where no fewer came back than were made, just as many did: more would have brought more parts than all
  pub all_came_back : (made : ℕ) → a.parts + (made + length starts) ≡ ALL_PARTS → made ≤ length producers → l.parts ≤ ALL_PARTS
      → length producers ≡ made
  all_came_back made before enough most =
      let all = all_parts in
      let many = each2_length HasWorked starts crew worked in
      omega (arith, all, many, before, enough, most)

  module _ (whole : IsWhole l) (places : 1 ≤ l.places) where
    -- no stop was put in before all producers had come back, and nothing but stops after it
    pub moment : IsEnd l
    moment = is_end j l gathered ended whole places

    pub out : AllCameOut producers crew
    unfolding ended
    out w nothing =
        let c : One → ℕ = λ m. claimed w m.own in
        let t : One → ℕ = λ m. taken w m.own in
        let all : claimed_among w j.joined ≡ taken_among w j.joined + taken_among w workers =
        all_came_out ended w gathered whole places took_none nothing in
        let put : claimed_among w j.joined ≡ sum_by (λ (p : ProducerView). c (pass_member p)) producers =
        ap (λ (ms : List One). sum_by c ms) gathered_are ∙ sum_of_map pass_member c producers in
        let got : taken_among w j.joined ≡ sum_by (λ (p : ProducerView). t (pass_member p)) producers =
        ap (λ (ms : List One). sum_by t ms) gathered_are ∙ sum_of_map pass_member t producers in
        let more : taken_among w workers ≡ sum_by (λ (h : Worker S). t (worker_member h)) crew =
        sum_of_map (λ (h : Worker S). worker_member h) t crew in
        omega (arith, all, put, got, more)

    -- what the producers put in was counted as overrun, or handled
    balance : sum_by put_in producers ≡ sum_by took_out producers + sum_by (λ (h : Worker S). handled_by h) crew
    unfolding ended
    balance =
        let seats : List (lane.Member Add) = map loss_member producers in
        let f : lane.Member Add → ℕ = λ s. items_in s.own in
        let c : One → ℕ = λ m. claimed of_work m.own in
        let t : One → ℕ = λ m. taken of_work m.own in
        let counts : AreCounted j.joined seats =
        subst (λ (ms : List One). AreCounted ms seats) (sym gathered_are) (counted producers accounts) in
        let all : claimed_among of_work j.joined ≡ sum_by f seats + taken_among of_work workers =
        overrun_or_handled ended seats gathered whole places took_none counts in
        let put : claimed_among of_work j.joined ≡ sum_by put_in producers =
        ap (λ (ms : List One). sum_by c ms) gathered_are ∙ sum_of_map pass_member c producers in
        let lost : sum_by f seats ≡ sum_by took_out producers =
        sum_of_map loss_member f producers ∙ overran producers accounts in
        let more : taken_among of_work workers ≡ sum_by (λ (h : Worker S). handled_by h) crew =
        sum_of_map (λ (h : Worker S). worker_member h) t crew in
        omega (arith, all, put, lost, more)

    module _ (s u : lane.Known Add) (lost : Counts) (handled : ℕ) (t : Totals) (seat_own : s.own ≡ []) (seat_none : s.joined ≡ [])
        (seats : HasSeatsBack s u (map loss_member producers)) (closes : book.Closes u lost)
        (handled_is : handled ≡ sum_by (λ (h : Worker S). h.handled) crew % 2 ^ 64) (sums : AreSums lost handled t) where
      -- a sum over the seats of the book is one over the producers
      of_seats : (f : lane.Member Add → ℕ) → f (record { seat = u.seat; own = [] }) ≡ 0
          → sum_by f (lane.members_of u) ≡ sum_by (λ (p : ProducerView). f (loss_member p)) producers
      of_seats f nothing =
          let me : lane.Member Add = record { seat = u.seat; own = u.own } in
          let mine : f me ≡ 0 =
          ap (λ (h : List (lane.Entry Add)). f (record { seat = u.seat; own = h })) (seats.own ∙ seat_own) ∙ nothing in
          let first : sum_by f (me ∷ u.joined) ≡ f me + sum_by f u.joined = sum_by-cons f me u.joined in
          let theirs : sum_by f u.joined ≡ sum_by f (map loss_member producers) =
          ap (λ (ms : List (lane.Member Add)). sum_by f ms)
          (seats.joined ∙ ap (λ (ms : List (lane.Member Add)). ms ++ map loss_member producers) seat_none) in
          let each : sum_by f (map loss_member producers) ≡ sum_by (λ (p : ProducerView). f (loss_member p)) producers =
          sum_of_map loss_member f producers in
          omega (arith, mine, first, theirs, each)

      overrun_is : lost.overrun ≡ sum_by took_out producers % 2 ^ 64
      overrun_is = closes.overrun ∙ ap (λ n. n % 2 ^ 64) (of_seats (λ m. items_in m.own) refl ∙ overran producers accounts)

      handled_are : handled ≡ sum_by (λ (h : Worker S). handled_by h) crew % 2 ^ 64
      handled_are = handled_is
          ∙ sum_mod (λ (h : Worker S). h.handled) (λ (h : Worker S). handled_by h) crew (all_handled starts crew worked)

      pub totals : AreTotals t producers crew
      totals = record {
        posted = sums.posted ∙ two_mods lost.overrun handled _ _ overrun_is handled_are ∙ ap (λ n. n % 2 ^ 64) (sym balance);
        overrun = sums.overrun ∙ overrun_is;
        discarded = sums.discarded ∙ closes.discarded ∙ ap (λ n. n % 2 ^ 64) (of_seats (λ m. posts_in m.own) refl);
        handled = sums.handled_is ∙ handled_are;
        asked = sums.asked ∙ ap (λ n. (t.posted + n) % 2 ^ 64) (sym sums.discarded);
        balance = sums.posted ∙ (λ i. (sym sums.overrun i + sym sums.handled_is i) % 2 ^ 64);
      }
