-- What the producers of a pool posted and none of them overran is what its workers took.
use Rattle.std.proofs.Common.{◌≡◌, ℕ, ◌+◌, List, [], ◌∷◌, ◌++◌, map, refl, subst, arith}
use Rattle.std.specs.List.{AllByRecursion, sum_by}
use Rattle.alog_core.specs.Accounts.{claimed, claims, takes, taken, weigh}
use Rattle.alog_msg.specs.declared.item.Item.{Item}
use Rattle.alog_msg.specs.declared.item.Item.TheVariants.{Stop}
use Rattle.alog_pool.specs.Back.{pass_member, worker_member}
use Rattle.alog_pool.specs.Posted.{ArePosted, works_in}
use Rattle.alog_pool.specs.Producer.{ProducerView}
use Rattle.alog_pool.specs.Report.{AllCameOut}
use Rattle.alog_pool.specs.Stops.{AreStops}
use Rattle.alog_pool.specs.Workers.{together}
use Rattle.alog_pool.specs.declared.worker.Worker.{Worker}
use Rattle.alog_pool.proofs.SharedBack.{sum_of_map}
use Rattle.alog_pool.proofs.SharedPosted as any
use Rattle.alog_registry.specs.BlockPort.{block_note}
use Rattle.alog_ring.specs.Known.{Known, Member}
use Rattle.alog_ring.specs.Share.{IsWhole}

abbrev One : Type 0
One = Member Item block_note

abbrev Given : Type 0
Given = ℕ × Item

module _ {S : Type 0} where
  -- what a worker took, but for stops
  abbrev pub work_by : Worker S → List Given
  work_by h = works_in (takes h.pass.known.own)

  -- what comes back of workers
  abbrev pub back_of : List (Worker S) → List One
  back_of hs = map (λ (h : Worker S). worker_member h) hs

  pub all_idle : (hs : List (Worker S)) → AllByRecursion (λ (h : Worker S). claims h.pass.known.own ≡ []) hs
      → AllByRecursion (λ (m : One). claims m.own ≡ []) (back_of hs)
  all_idle [] idle = tt
  all_idle (h ∷ hs) idle = (idle.0, all_idle hs idle.1)

  works_of : (hs : List (Worker S)) → map works_in (map (λ (m : One). takes m.own) (back_of hs)) ≡ map (λ (h : Worker S). work_by h) hs
  works_of [] = refl
  works_of (h ∷ hs) = λ i. work_by h ∷ works_of hs i

module _ {S : Type 0} (producers : List ProducerView) (crew : List (Worker S)) (end : Known Item block_note) (whole : IsWhole end)
    (members : end.joined ≡ map pass_member producers ++ map (λ (h : Worker S). worker_member h) crew)
    (stops : AreStops (claims end.own)) (idle : AllByRecursion (λ (h : Worker S). claims h.pass.known.own ≡ []) crew)
    (out : AllCameOut producers crew) where
  came : (w : ℕ → Item → ℕ) → ((t : ℕ) → w t Stop ≡ 0) → sum_by (λ (p : ProducerView). claimed w p.pass.known.own) producers
      ≡ sum_by (λ (p : ProducerView). taken w p.pass.known.own) producers
      + sum_by (λ (r : List Given). weigh w r) (map (λ (m : One). takes m.own) (back_of crew))
  came w nothing =
      let all = out w nothing in
      let rows = any.taken_weighs producers (back_of crew) end whole members stops (all_idle crew idle) w in
      let one = sum_of_map (λ (h : Worker S). worker_member h) (λ (m : One). taken w m.own) crew in omega (arith, all, rows, one)

  pub posted : ArePosted producers (together (map (λ (h : Worker S). work_by h) crew))
  posted =
      let idlers = all_idle crew idle in
      let takers = back_of crew in
      subst (λ (rs : List (List Given)). ArePosted producers (together rs)) (works_of crew)
      (any.posted producers takers end whole members stops idlers (map (λ (m : One). takes m.own) takers)
      (any.taken_claimed producers takers end whole members stops idlers)
      (λ t. let once = any.taken_once producers takers end whole members stops idlers t in omega (arith, once)) came)
