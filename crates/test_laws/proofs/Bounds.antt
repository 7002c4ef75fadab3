-- How many items the one producer of a pool that has ended took out.
use Rattle.std.proofs.Common.{◌≡◌, ℕ, ◌+◌, ◌-◌, ◌%◌, ◌^◌, ◌<◌, ◌≤◌, cond, Bool, List, [], ◌∷◌, refl, sym, ap, subst, ◌∙◌, mod-eq_of_lt, arith}
use Rattle.std.specs.List.{sum_by}
use Rattle.std.proofs.lemmas.List.Sums.{sum_by-cons}
use Rattle.alog_core.specs.Accounts.{put_by, got_by, claims, takes, weigh, claimed, taken}
use Rattle.alog_core.specs.History.{Entry, own_of, IsLegalFrom}
use Rattle.alog_core.specs.Queue.{Queue, Event, Claim, Write, Grab, Take, Full, Front, Empty, Idle, PushBusy, PopBusy, Spent, Allows, after, last, start}
use Rattle.alog_core.proofs.SharedAccounts.{accounts_balance, weigh-append}
use Rattle.alog_core.proofs.SharedCells.{on_test}
use Rattle.alog_msg.specs.declared.item.Item.{Item}
use Rattle.alog_msg.specs.declared.item.Item.TheVariants.{Flush, Stop, Text}
use Rattle.alog_pool.specs.Accounts.{of_all, of_work}
use Rattle.alog_pool.specs.Pool.{PoolView}
use Rattle.alog_pool.specs.Producer.{ProducerView}
use Rattle.alog_pool.specs.Report.{Ends, handled_by, put_in, took_out}
use Rattle.alog_pool.specs.declared.report.Report.{Report}
use Rattle.alog_pool.specs.declared.worker.Worker.{Worker}
use Rattle.alog_registry.specs.BlockPort.{block_note}
use Rattle.alog_ring.specs.Known.{Member}
use Rattle.alog_ring.specs.Made.{AreExact}
use Rattle.alog_sink.specs.Files.{Files}

abbrev Deed : Type 0
Deed = Entry Item block_note

-- each weighs one
weigh_none : (ps : List (ℕ × Item)) → weigh of_all ps ≡ 0 → ps ≡ []
weigh_none [] none = refl
weigh_none (p ∷ ps) none = absurd (omega (arith, none))

-- and texts and flushes no more than that
work_less : (ps : List (ℕ × Item)) → weigh of_work ps ≤ weigh of_all ps
work_less [] = omega arith
work_less ((t, Text m) ∷ ps) = let rest = work_less ps in omega (arith, rest)
work_less ((t, Flush k) ∷ ps) = let rest = work_less ps in omega (arith, rest)
work_less ((t, Stop) ∷ ps) = let rest = work_less ps in omega (arith, rest)

-- a claim takes one of the tickets that are left
step_few : (n : ℕ) (q : Queue Item) (a : ℕ) (e : Event Item) → Allows n q a e
    → weigh of_all (put_by e) + (last - (after q a e).next) ≤ last - q.next
step_few n q a (Claim t x) may = omega (arith, may.0, may.1)
step_few n q a (Write t) may = omega arith
step_few n q a (Grab t) may = omega arith
step_few n q a (Take t x) may = omega arith
step_few n q a (Full t) may = omega arith
step_few n q a (Front t) may = omega arith
step_few n q a (Empty t) may = omega arith
step_few n q a (Idle t) may = omega arith
step_few n q a (PushBusy t) may = omega arith
step_few n q a (PopBusy t) may = omega arith
step_few n q a Spent may = omega arith

claims_few : (n : ℕ) (q : Queue Item) (h : List Deed) → IsLegalFrom n q h → claimed of_all h ≤ last - q.next
claims_few n q [] legal = omega arith
claims_few n q (x ∷ h) legal =
    let rest = claims_few n (after q x.actor x.event) h legal.1 in
    let first = step_few n q x.actor x.event legal.0 in
    omega (arith, weigh-append of_all (put_by x.event) (claims h), first, rest)

-- an actor takes no more than all do
own_less : (a : ℕ) (h : List Deed) → taken of_all (own_of a h) ≤ taken of_all h
own_less a [] = omega arith
own_less a (x ∷ h) =
    let rest = own_less a h in
    let got = weigh-append of_all (got_by x.event) (takes h) in
    let own_got = weigh-append of_all (got_by x.event) (takes (own_of a h)) in
    on_test (λ b. taken of_all (cond b (x ∷ own_of a h) (own_of a h)) ≤ taken of_all (x ∷ h)) x.actor a
    (λ _. omega (arith, got, own_got, rest)) (λ _. omega (arith, got, rest))

module _ {S : Type 0} (tells : Bool) (files : S → Files) (failures : S → ℕ) {pool : PoolView S} {p : ProducerView} {r : Report S}
    (ends : Ends tells files failures pool (p ∷ []) r) where
  own_is : p.pass.known.own ≡ own_of p.pass.known.actor ends.end.seen
  own_is = (subst (λ (ms : List (Member Item block_note)). AreExact ms ends.end.seen) ends.members ends.whole.faithful.joined).0

  own_few : taken of_all p.pass.known.own ≤ last
  own_few =
      let seen = ends.end.seen in
      let legal = ends.whole.faithful.legal in
      let fewer = own_less p.pass.known.actor seen in
      let all = claims_few ends.end.places (start ends.end.first) seen legal.0 in
      let balance = accounts_balance Item block_note ends.end.places ends.end.first seen of_all legal in
      let got : taken of_all p.pass.known.own ≡ taken of_all (own_of p.pass.known.actor seen) =
      ap (λ (h : List Deed). taken of_all h) own_is in
      omega (arith, fewer, all, balance, got)

  -- where the report tells that nothing was overrun, it took nothing out
  pub took_none : r.totals.overrun ≡ 0 → takes p.pass.known.own ≡ []
  took_none none =
      let low : taken of_all p.pass.known.own < 2 ^ 64 = omega (arith, own_few) in
      let single : sum_by took_out (p ∷ []) ≡ took_out p + sum_by took_out [] = sum_by-cons took_out p [] in
      let sum : sum_by took_out (p ∷ []) ≡ taken of_all p.pass.known.own = omega (arith, single) in
      let rest : taken of_all p.pass.known.own % 2 ^ 64 ≡ 0 = ap (λ n. n % 2 ^ 64) (sym sum) ∙ sym ends.totals.overrun ∙ none in
      weigh_none (takes p.pass.known.own) (sym (mod-eq_of_lt low) ∙ rest)

  -- and where it took nothing out, the report tells that nothing was overrun
  pub none_overrun : takes p.pass.known.own ≡ [] → r.totals.overrun ≡ 0
  none_overrun none =
      let single : sum_by took_out (p ∷ []) ≡ took_out p + sum_by took_out [] = sum_by-cons took_out p [] in
      let zero : took_out p ≡ 0 = ap (λ (ps : List (ℕ × Item)). weigh of_all ps) none in
      let sum : sum_by took_out (p ∷ []) ≡ 0 = omega (arith, single, zero) in
      ends.totals.overrun ∙ ap (λ n. n % 2 ^ 64) sum

  -- what it overran, as the report tells it, are texts and flushes
  pub overrun_is : r.totals.overrun ≡ taken of_work p.pass.known.own
  overrun_is =
      let crew : ℕ = sum_by (λ (h : Worker S). handled_by h) ends.crew in
      let put = sum_by-cons put_in p [] in
      let over = sum_by-cons took_out p [] in
      let own = sum_by-cons (λ (q : ProducerView). taken of_work q.pass.known.own) p [] in
      let out = ends.out of_work (λ t. refl) in
      let less = work_less (takes p.pass.known.own) in
      omega (arith, put, over, own, out, less, own_few, ends.totals.posted, ends.totals.overrun, ends.totals.handled, ends.totals.balance)
