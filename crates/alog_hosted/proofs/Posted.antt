-- What the producers of a hosted pool posted and none of them overran is what its workers took, and what was left.
use Rattle.std.proofs.Common.{◌≡◌, ℕ, ◌+◌, ◌≤◌, Bool, List, [], ◌∷◌, ◌++◌, map, Contains, inl, inr, refl, sym, ap, subst, append-nil, arith}
use Rattle.std.specs.List.{AllByRecursion, sum_by}
use Rattle.std.proofs.lemmas.List.Sums.{sum_by-append, sum_by-cons}
use Rattle.alog_core.specs.Accounts.{claimed, claims, listed, taken, takes, weigh}
use Rattle.alog_core.specs.History.{Entry, left_by}
use Rattle.alog_core.specs.Queue.{start}
use Rattle.alog_core.proofs.SharedItems.{tickets_keep_their_items}
use Rattle.alog_hosted.specs.Ends.{Disbands, HasBeen, worker_member}
use Rattle.alog_hosted.specs.Host.{HostView}
use Rattle.alog_hosted.specs.Lent.{HostedView}
use Rattle.alog_hosted.specs.Workers.{WorkerView}
use Rattle.alog_hosted.specs.Written.{works_of}
use Rattle.alog_hosted.proofs.Balanced.{none_summed}
use Rattle.alog_msg.specs.declared.item.Item.{Item}
use Rattle.alog_msg.specs.declared.item.Item.TheVariants.{Stop}
use Rattle.alog_pool.specs.Accounts.{of_stops}
use Rattle.alog_pool.specs.Back.{pass_member}
use Rattle.alog_pool.specs.Posted.{AreInARow, ArePosted, works_in}
use Rattle.alog_pool.specs.Producer.{ProducerView}
use Rattle.alog_pool.specs.Stops.{AreStops}
use Rattle.alog_pool.specs.Workers.{together}
use Rattle.alog_pool.specs.declared.report.Report.{Report}
use Rattle.alog_pool.proofs.SharedBack.{sum_of_map}
use Rattle.alog_pool.proofs.SharedContained.{at_cases}
use Rattle.alog_pool.proofs.SharedInARow.{in_a_row}
use Rattle.alog_pool.proofs.SharedPosted as any
use Rattle.alog_pool.proofs.SharedSums.{whole_claimed}
use Rattle.alog_registry.specs.BlockPort.{block_note}
use Rattle.alog_ring.specs.Known.{Member}
use Rattle.alog_sink.specs.Files.{Files}

abbrev Deed : Type 0
Deed = Entry Item block_note

abbrev One : Type 0
One = Member Item block_note

abbrev Given : Type 0
Given = ℕ × Item

module _ {S : Type 0} where
  -- what comes back of workers
  abbrev back_of : List (WorkerView S) → List One
  back_of ws = map (λ (w : WorkerView S). worker_member w) ws

  all_idle : (hosted : HostedView S) (ws : List (WorkerView S)) → AllByRecursion (HasBeen hosted) ws
      → AllByRecursion (λ (m : One). claims m.own ≡ []) (back_of ws)
  all_idle hosted [] been = tt
  all_idle hosted (w ∷ ws) been = (been.0.was.work.puts, all_idle hosted ws been.1)

  works_are : (ws : List (WorkerView S)) → map works_in (map (λ (m : One). takes m.own) (back_of ws)) ≡ map (λ (w : WorkerView S). works_of w) ws
  works_are [] = refl
  works_are (w ∷ ws) = λ i. works_of w ∷ works_are ws i

-- who claimed nothing claimed no stop
no_stop_of : (ms : List One) → AllByRecursion (λ (m : One). claims m.own ≡ []) ms → AllByRecursion (λ (m : One). claimed of_stops m.own ≡ 0) ms
no_stop_of [] idle = tt
no_stop_of (m ∷ ms) idle = (ap (λ (ps : List Given). weigh of_stops ps) idle.0, no_stop_of ms idle.1)

module _ {S : Type 0} (tells : Bool) (files : S → Files) (failures : S → ℕ) (host : HostView S) (producers : List ProducerView)
    (workers : List (WorkerView S)) (r : Report S) (ends : Disbands tells files failures host producers workers r) where
  abbrev takers : List One
  takers = back_of workers

  idle : AllByRecursion (λ (m : One). claims m.own ≡ []) (back_of workers)
  idle = all_idle host.hosted workers ends.worked

  stops : AreStops (claims ends.end.own)
  stops = subst (λ (h : List Deed). AreStops (claims h)) (sym ends.own) tt

  -- what the workers took
  abbrev took : List (List Given)
  took = map (λ (m : One). takes m.own) (back_of workers)

  here : (row : List Given) (i : Given) → Contains (ends.left ∷ took) row → Contains row i
      → Contains (claims ends.end.seen) (i.0, i.1) × ((y : Item) → Contains (claims ends.end.seen) (i.0, y) → y ≡ i.1)
  here row i at c =
      elim (at_cases row ends.left took at) [
        | inl same ↦
            let left = subst (λ (l : List Given). Contains l i) (sym same) c in
            let cell = subst (λ (l : List Given). Contains l i) ends.left_are left in
            tickets_keep_their_items Item block_note ends.end.places ends.end.first ends.end.seen i.0 i.1 ends.whole.faithful.legal (inr cell)
        | inr later ↦ any.taken_claimed producers takers ends.end ends.whole ends.members stops idle row i later c
      ]

  once : (t : ℕ) → sum_by (λ (p : ProducerView). taken (any.one t) p.pass.known.own) producers
      + sum_by (λ (row : List Given). weigh (any.one t) row) (ends.left ∷ took) ≤ 1
  once t =
      let just = any.taken_once producers takers ends.end ends.whole ends.members stops idle t in
      let all = sum_by-cons (λ (row : List Given). weigh (any.one t) row) ends.left took in
      let rest : weigh (any.one t) ends.left ≡ listed (any.one t) (left_by (start ends.end.first) ends.end.seen).cells =
      ap (λ (ps : List Given). weigh (any.one t) ps) ends.left_are in omega (arith, just, all, rest)

  came : (w : ℕ → Item → ℕ) → ((t : ℕ) → w t Stop ≡ 0) → sum_by (λ (p : ProducerView). claimed w p.pass.known.own) producers
      ≡ sum_by (λ (p : ProducerView). taken w p.pass.known.own) producers
      + sum_by (λ (row : List Given). weigh w row) (ends.left ∷ took)
  came w nothing =
      let all = ends.out w in
      let rows = sum_by-cons (λ (row : List Given). weigh w row) ends.left took in
      let theirs = any.taken_weighs producers takers ends.end ends.whole ends.members stops idle w in
      let one = sum_of_map (λ (h : WorkerView S). worker_member h) (λ (m : One). taken w m.own) workers in
      omega (arith, all, rows, theirs, one)

  pub posted : ArePosted producers (together (works_in ends.left ∷ map (λ (w : WorkerView S). works_of w) workers))
  posted =
      subst (λ (rows : List (List Given)). ArePosted producers (together (works_in ends.left ∷ rows))) (works_are workers)
      (any.posted producers takers ends.end ends.whole ends.members stops idle (ends.left ∷ took) here once came)

  -- no stop was put in by whomever
  none_stopped : claimed of_stops ends.end.seen ≡ 0
  none_stopped =
      let f : One → ℕ = λ m. claimed of_stops m.own in
      let me : One = record { actor = ends.end.actor; own = ends.end.own } in
      let made_by : List One = map pass_member producers in
      let all : claimed of_stops ends.end.seen ≡ sum_by f (me ∷ ends.end.joined) = whole_claimed of_stops ends.end ends.whole in
      let first : sum_by f (me ∷ ends.end.joined) ≡ f me + sum_by f ends.end.joined = sum_by-cons f me ends.end.joined in
      let mine : f me ≡ 0 = ap (λ (h : List Deed). claimed of_stops h) ends.own in
      let same : sum_by f ends.end.joined ≡ sum_by f (made_by ++ takers) = ap (λ (ms : List One). sum_by f ms) ends.members in
      let parts : sum_by f (made_by ++ takers) ≡ sum_by f made_by + sum_by f takers = sum_by-append f made_by takers in
      let theirs : sum_by f made_by ≡ sum_by (λ (p : ProducerView). f (pass_member p)) producers = sum_of_map pass_member f producers in
      let put : sum_by (λ (p : ProducerView). f (pass_member p)) producers ≡ 0 =
      none_summed (λ (p : ProducerView). f (pass_member p)) producers ends.no_stops in
      let work : sum_by f takers ≡ 0 = none_summed f takers (no_stop_of takers idle) in
      omega (arith, all, first, mine, same, parts, theirs, put, work)

  pub row : AreInARow host.hosted.shared.ring.ring.first producers
  row =
      subst (λ (f : ℕ). AreInARow f producers) ends.ring.1
      (in_a_row producers takers ends.end ends.whole ends.members stops idle ends.end.seen [] (sym (append-nil ends.end.seen)) none_stopped refl)
