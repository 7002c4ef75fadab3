-- What the producers of a pool posted and none of them overran is what came out of its queue otherwise: what its workers took, and, where that
-- is so, what was left.
use Rattle.std.proofs.Common.{◌≡◌, ◌≢◌, ◌⊎◌, ℕ, zero, suc, ◌+◌, ◌<◌, ◌≤◌, ◌==◌, cond, Option, List, [], ◌∷◌, ◌++◌, map, Contains}
use Rattle.std.proofs.Common.{inl, inr, refl, sym, ap, subst, ◌∙◌, arith}
use Rattle.std.specs.List.{AllByRecursion, sum_by}
use Rattle.std.proofs.lemmas.Bool.Decides.{leb_tells}
use Rattle.std.proofs.lemmas.List.Elements.{Contains-append_left, Contains-append_right, Contains-append_cases}
use Rattle.std.proofs.lemmas.List.Sums.{sum_by-cons, sum_by-append}
use Rattle.alog_core.specs.Accounts.{put_by, got_by, claims, takes, issued, weigh, claimed, taken, listed}
use Rattle.alog_core.specs.History.{Entry, left_by, own_of, IsLegalFrom}
use Rattle.alog_core.specs.Queue.{Queue, Event, Claim, Write, Grab, Take, Full, Front, Empty, Idle, PushBusy, PopBusy, Spent, Allows, after, start}
use Rattle.alog_core.proofs.SharedAccounts.{accounts_balance, weigh-append}
use Rattle.alog_core.proofs.SharedCells.{on_test}
use Rattle.alog_core.proofs.SharedItems.{tickets_keep_their_items}
use Rattle.alog_core.proofs.SharedTickets.{times, times_contained, apart_by_times, issued_once}
use Rattle.alog_msg.specs.declared.item.Item.{Item}
use Rattle.alog_msg.specs.declared.item.Item.TheVariants.{Text, Flush, Stop}
use Rattle.alog_pool.specs.Accounts.{work_tickets}
use Rattle.alog_pool.specs.Back.{pass_member}
use Rattle.alog_pool.specs.Deeds.{all_dues}
use Rattle.alog_pool.specs.Gaps.{gap_at, next_after, with_gaps}
use Rattle.alog_pool.specs.Posted.{ArePosted, IsOverrun, IsPutIn, tickets_of, works_in}
use Rattle.alog_pool.specs.Producer.{ProducerView}
use Rattle.alog_pool.specs.Report.{IsRising}
use Rattle.alog_pool.specs.Stops.{AreStops}
use Rattle.alog_pool.specs.Workers.{together}
use Rattle.alog_pool.proofs.SharedContained.{all_at, at_cases, at_map, at_together, first_at, later_at, of_map, of_together, some_of_sum, sum_at}
use Rattle.alog_pool.proofs.SharedGaps.{dues_behind, stop_gap, stop_next}
use Rattle.alog_pool.proofs.SharedBack.{sum_of_map}
use Rattle.alog_pool.proofs.SharedSums.{whole_taken}
use Rattle.alog_registry.specs.declared.logger.Logger.{Logger}
use Rattle.alog_registry.specs.BlockPort.{block_note}
use Rattle.alog_ring.specs.Known.{Member, Known, members_of, IsAmong}
use Rattle.alog_ring.specs.Made.{AreExact}
use Rattle.alog_ring.specs.Share.{IsWhole}
use Rattle.alog_ring.proofs.SharedStepping.{rises_after}

abbrev Deed : Type 0
Deed = Entry Item block_note

abbrev pub One : Type 0
One = Member Item block_note

abbrev Given : Type 0
Given = ℕ × Item

-- the weight that counts one ticket, and that which counts it where it is no stop
abbrev pub one : ℕ → ℕ → Item → ℕ
one t u x = cond (u == t) 1 0

abbrev pub at_work : ℕ → ℕ → Item → ℕ
at_work t u (Text m) = cond (u == t) 1 0
at_work t u (Flush n) = cond (u == t) 1 0
at_work t u Stop = 0

weigh_one : (t : ℕ) (ps : List Given) → weigh (one t) ps ≡ times t (tickets_of ps)
weigh_one t [] = refl
weigh_one t (p ∷ ps) = omega (arith, weigh_one t ps)

weigh_at : (ps : List Given) (i : Given) → Contains ps i → 1 ≤ weigh (one i.0) ps
weigh_at ps i c =
    let at = at_map (λ (p : Given). p.0) ps i c in
    let many = times_contained i.0 (tickets_of ps) at in omega (arith, weigh_one i.0 ps, many)

at_itself : (t : ℕ) (x : Item) → x ≢ Stop → 1 ≤ at_work t t x
at_itself t (Text m) work = on_test (λ b. 1 ≤ cond b 1 0) t t (λ _. omega arith) (λ other. absurd (other refl))
at_itself t (Flush n) work = on_test (λ b. 1 ≤ cond b 1 0) t t (λ _. omega arith) (λ other. absurd (other refl))
at_itself t Stop work = absurd (work refl)

weigh_work : (ps : List Given) (i : Given) → i.1 ≢ Stop → Contains ps i → 1 ≤ weigh (at_work i.0) ps
weigh_work [] i work c = absurd (omega (arith, c.1))
weigh_work (p ∷ ps) i work c =
    elim (at_cases i p ps c) [
      | inl same ↦
          let here : at_work i.0 p.0 p.1 ≡ at_work i.0 i.0 i.1 = ap (λ (r : Given). at_work i.0 r.0 r.1) same in
          let some = at_itself i.0 i.1 work in omega (arith, here, some)
      | inr later ↦ omega (arith, weigh_work ps i work later)
    ]

-- what weighs something is there
some_work : (t : ℕ) (ps : List Given) → 1 ≤ weigh (at_work t) ps → (x : Item) × Contains ps (t, x)
some_work t [] some = absurd (omega (arith, some))
some_work t ((u, Text m) ∷ ps) some =
    on_test (λ b. 1 ≤ cond b 1 0 + weigh (at_work t) ps → (x : Item) × Contains ((u, Text m) ∷ ps) (t, x)) u t
    (λ same _. (Text m, (0, omega arith, ap (λ v. let p : Given = (v, Text m) in p) same)))
    (λ _ rest. let is = some_work t ps (omega (arith, rest)) in (is.0, later_at (t, is.0) (u, Text m) ps is.1)) some
some_work t ((u, Flush n) ∷ ps) some =
    on_test (λ b. 1 ≤ cond b 1 0 + weigh (at_work t) ps → (x : Item) × Contains ((u, Flush n) ∷ ps) (t, x)) u t
    (λ same _. (Flush n, (0, omega arith, ap (λ v. let p : Given = (v, Flush n) in p) same)))
    (λ _ rest. let is = some_work t ps (omega (arith, rest)) in (is.0, later_at (t, is.0) (u, Flush n) ps is.1)) some
some_work t ((u, Stop) ∷ ps) some = let is = some_work t ps (omega (arith, some)) in (is.0, later_at (t, is.0) (u, Stop) ps is.1)

work_at : (ps : List Given) (i : Given) → i.1 ≢ Stop → Contains ps i → Contains (works_in ps) i
work_at [] i work c = c
work_at ((u, Text m) ∷ ps) i work c =
    elim (at_cases i (u, Text m) ps c) [
      | inl same ↦ (0, omega arith, same)
      | inr later ↦ later_at i (u, Text m) (works_in ps) (work_at ps i work later)
    ]
work_at ((u, Flush n) ∷ ps) i work c =
    elim (at_cases i (u, Flush n) ps c) [
      | inl same ↦ (0, omega arith, same)
      | inr later ↦ later_at i (u, Flush n) (works_in ps) (work_at ps i work later)
    ]
work_at ((u, Stop) ∷ ps) i work c =
    elim (at_cases i (u, Stop) ps c) [
      | inl same ↦ absurd (work (ap (λ (r : Given). r.1) (sym same)))
      | inr later ↦ work_at ps i work later
    ]

work_of : (ps : List Given) (i : Given) → Contains (works_in ps) i → Contains ps i × (i.1 ≢ Stop)
work_of [] i c = absurd (omega (arith, c.1))
work_of ((u, Text m) ∷ ps) i c =
    elim (at_cases i (u, Text m) (works_in ps) c) [
      | inl same ↦
          ((0, omega arith, same), λ e. let bad : Text m ≡ Stop = ap (λ (r : Given). r.1) same ∙ e in absurd (cc bad))
      | inr later ↦ let is = work_of ps i later in (later_at i (u, Text m) ps is.0, is.1)
    ]
work_of ((u, Flush n) ∷ ps) i c =
    elim (at_cases i (u, Flush n) (works_in ps) c) [
      | inl same ↦
          ((0, omega arith, same), λ e. let bad : Flush n ≡ Stop = ap (λ (r : Given). r.1) same ∙ e in absurd (cc bad))
      | inr later ↦ let is = work_of ps i later in (later_at i (u, Flush n) ps is.0, is.1)
    ]
work_of ((u, Stop) ∷ ps) i c = let is = work_of ps i c in (later_at i (u, Stop) ps is.0, is.1)

pub work_tickets_are : (ps : List Given) → work_tickets ps ≡ tickets_of (works_in ps)
work_tickets_are [] = refl
work_tickets_are ((u, Text m) ∷ ps) = ap (λ (us : List ℕ). u ∷ us) (work_tickets_are ps)
work_tickets_are ((u, Flush n) ∷ ps) = ap (λ (us : List ℕ). u ∷ us) (work_tickets_are ps)
work_tickets_are ((u, Stop) ∷ ps) = work_tickets_are ps

pub work_dues : (loggers : List Logger) (next : Option ℕ) (ps : List Given)
    → all_dues loggers (with_gaps next ps) ≡ all_dues loggers (with_gaps next (works_in ps))
work_dues loggers next [] = refl
work_dues loggers next ((u, Text m) ∷ ps) =
    dues_behind loggers (gap_at next u (Text m)) (u, Text m) _ _ (work_dues loggers (next_after next u (Text m)) ps)
work_dues loggers next ((u, Flush n) ∷ ps) =
    dues_behind loggers (gap_at next u (Flush n)) (u, Flush n) _ _ (work_dues loggers (next_after next u (Flush n)) ps)
work_dues loggers next ((u, Stop) ∷ ps) =
    ap (λ (l : List Given). all_dues loggers (l ++ (u, Stop) ∷ with_gaps (next_after next u Stop) ps)) (stop_gap next u)
    ∙ ap (λ (o : Option ℕ). all_dues loggers (with_gaps o ps)) (stop_next next u) ∙ work_dues loggers next ps

pub work_weighs : (w : ℕ → Item → ℕ) (ps : List Given) → ((t : ℕ) → w t Stop ≡ 0) → weigh w ps ≡ weigh w (works_in ps)
work_weighs w [] nothing = refl
work_weighs w ((u, Text m) ∷ ps) nothing = ap (λ n. w u (Text m) + n) (work_weighs w ps nothing)
work_weighs w ((u, Flush n) ∷ ps) nothing = ap (λ k. w u (Flush n) + k) (work_weighs w ps nothing)
work_weighs w ((u, Stop) ∷ ps) nothing = omega (arith, nothing u, work_weighs w ps nothing)

work_weighs_less : (w : ℕ → Item → ℕ) (ps : List Given) → weigh w (works_in ps) ≤ weigh w ps
work_weighs_less w [] = omega arith
work_weighs_less w ((u, Text m) ∷ ps) = omega (arith, work_weighs_less w ps)
work_weighs_less w ((u, Flush n) ∷ ps) = omega (arith, work_weighs_less w ps)
work_weighs_less w ((u, Stop) ∷ ps) = omega (arith, work_weighs_less w ps)

weigh_together : (w : ℕ → Item → ℕ) (rows : List (List Given)) → weigh w (together (map works_in rows)) ≤ sum_by (λ (r : List Given). weigh w r) rows
weigh_together w [] = omega arith
weigh_together w (r ∷ rows) =
    let f : List Given → ℕ = λ l. weigh w l in
    let whole : sum_by f (r ∷ rows) ≡ f r + sum_by f rows = sum_by-cons f r rows in
    let parts = weigh-append w (works_in r) (together (map works_in rows)) in
    let first = work_weighs_less w r in omega (arith, whole, parts, first, weigh_together w rows)

among : (a : ℕ) (ms : List One) → IsAmong a ms → (m : One) × Contains ms m × (a ≡ m.actor)
among a [] is = absurd is
among a (m ∷ ms) (inl same) = (m, first_at m ms, same)
among a (m ∷ ms) (inr later) = let is = among a ms later in (is.0, later_at is.0 m ms is.1, is.2)

-- What a history has of claims, or of takes, its actors have of their own.
module _ (by : Event Item → List Given) (all : List Deed → List Given) (none : all [] ≡ [])
    (more : (x : Deed) (h : List Deed) → all (x ∷ h) ≡ by x.event ++ all h) where
  now_in : (x : Deed) (h : List Deed) (i : Given) → Contains (by x.event) i → Contains (all (x ∷ h)) i
  now_in x h i c = subst (λ (l : List Given). Contains l i) (sym (more x h)) (Contains-append_left (by x.event) (all h) i c)

  later_in : (x : Deed) (h : List Deed) (i : Given) → Contains (all h) i → Contains (all (x ∷ h)) i
  later_in x h i c = subst (λ (l : List Given). Contains l i) (sym (more x h)) (Contains-append_right (by x.event) (all h) i c)

  which : (x : Deed) (h : List Deed) (i : Given) → Contains (all (x ∷ h)) i → Contains (by x.event) i ⊎ Contains (all h) i
  which x h i c = Contains-append_cases (by x.event) (all h) i (subst (λ (l : List Given). Contains l i) (more x h) c)

  pub own_in : (a : ℕ) (h : List Deed) (i : Given) → Contains (all (own_of a h)) i → Contains (all h) i
  own_in a [] i c = c
  own_in a (x ∷ h) i c =
      on_test (λ b. Contains (all (cond b (x ∷ own_of a h) (own_of a h))) i → Contains (all (x ∷ h)) i) x.actor a
      (λ _ is. elim (which x (own_of a h) i is) [
        | inl now ↦ now_in x h i now
        | inr later ↦ later_in x h i (own_in a h i later)
      ])
      (λ _ is. later_in x h i (own_in a h i is)) c

  own_now : (a : ℕ) (x : Deed) (h : List Deed) (i : Given) → x.actor ≡ a → Contains (by x.event) i → Contains (all (own_of a (x ∷ h))) i
  own_now a x h i same c =
      on_test (λ b. Contains (all (cond b (x ∷ own_of a h) (own_of a h))) i) x.actor a (λ _. now_in x (own_of a h) i c)
      (λ other. absurd (other same))

  own_later : (a : ℕ) (x : Deed) (h : List Deed) (i : Given) → Contains (all (own_of a h)) i → Contains (all (own_of a (x ∷ h))) i
  own_later a x h i c =
      on_test (λ b. Contains (all (cond b (x ∷ own_of a h) (own_of a h))) i) x.actor a (λ _. later_in x (own_of a h) i c) (λ _. c)

  pub whose : (ms : List One) (h : List Deed) (i : Given) → AllByRecursion (λ (x : Deed). IsAmong x.actor ms) h → Contains (all h) i
      → (m : One) × Contains ms m × Contains (all (own_of m.actor h)) i
  whose ms [] i each c = let bad = subst (λ (l : List Given). Contains l i) none c in absurd (omega (arith, bad.1))
  whose ms (x ∷ h) i each c =
      elim (which x h i c) [
        | inl now ↦ let m = among x.actor ms each.0 in (m.0, m.1, own_now m.0.actor x h i m.2 now)
        | inr later ↦ let m = whose ms h i each.1 later in (m.0, m.1, own_later m.0.actor x h i m.2)
      ]

-- An actor's claims are of rising tickets.
abbrev Up : ℕ → List ℕ → Type 0
Up low us = AllByRecursion (λ (u : ℕ). low ≤ u) us × IsRising us

above : (low high : ℕ) (us : List ℕ) → low ≤ high → AllByRecursion (λ (u : ℕ). high ≤ u) us → AllByRecursion (λ (u : ℕ). low ≤ u) us
above low high [] less all = tt
above low high (u ∷ us) less all = (let first = all.0 in omega (arith, less, first), above low high us less all.1)

far_above : (low : ℕ) (us : List ℕ) → AllByRecursion (λ (u : ℕ). low + 1 ≤ u) us → AllByRecursion (λ (u : ℕ). low < u) us
far_above low [] all = tt
far_above low (u ∷ us) all = (let first = all.0 in omega (arith, first), far_above low us all.1)

up_claim : (low t : ℕ) (us : List ℕ) → t ≡ low → Up (low + 1) us → Up low (t ∷ us)
up_claim low t us same up =
    let up_from : Up low (low ∷ us) =
    ((omega arith, above low (low + 1) us (omega arith) up.0), (far_above low us up.0, up.1)) in
    subst (λ u. Up low (u ∷ us)) (sym same) up_from

up_step : (n : ℕ) (q : Queue Item) (a : ℕ) (e : Event Item) (ps : List Given) → Allows n q a e → Up (after q a e).next (tickets_of ps)
    → Up q.next (tickets_of (put_by e ++ ps))
up_step n q a (Claim t x) ps may up = up_claim q.next t (tickets_of ps) may.0 up
up_step n q a (Write t) ps may up = up
up_step n q a (Grab t) ps may up = up
up_step n q a (Take t x) ps may up = up
up_step n q a (Full t) ps may up = up
up_step n q a (Front t) ps may up = up
up_step n q a (Empty t) ps may up = up
up_step n q a (Idle t) ps may up = up
up_step n q a (PushBusy t) ps may up = up
up_step n q a (PopBusy t) ps may up = up
up_step n q a Spent ps may up = up

own_up : (n : ℕ) (q : Queue Item) (h : List Deed) (a : ℕ) → IsLegalFrom n q h → Up q.next (issued (own_of a h))
own_up n q [] a legal = (tt, tt)
own_up n q (x ∷ h) a legal =
    let rest = own_up n (after q x.actor x.event) h a legal.1 in
    let further = (rises_after q x.actor x.event).0 in
    on_test (λ b. Up q.next (issued (cond b (x ∷ own_of a h) (own_of a h)))) x.actor a
    (λ _. up_step n q x.actor x.event (claims (own_of a h)) legal.0 rest)
    (λ _. (above q.next (after q x.actor x.event).next (issued (own_of a h)) further rest.0, rest.1))

all_in_order : (ps : List ProducerView) (others : List One) (h : List Deed) → ((a : ℕ) → IsRising (issued (own_of a h)))
    → AreExact (map pass_member ps ++ others) h → AllByRecursion (λ (p : ProducerView). IsRising (issued p.pass.known.own)) ps
all_in_order [] others h rise exact = tt
all_in_order (p ∷ ps) others h rise exact = (
  subst (λ (l : List Deed). IsRising (issued l)) (sym exact.0) (rise p.pass.known.actor),
  all_in_order ps others h rise exact.1,
)

-- The producers of a pool and who took beside them, when all have come back: the pool's own pass put in nothing but stops, and these put in nothing.
module _ (producers : List ProducerView) (takers : List One) (end : Known Item block_note) (whole : IsWhole end)
    (members : end.joined ≡ map pass_member producers ++ takers) (stops : AreStops (claims end.own))
    (idle : AllByRecursion (λ (m : One). claims m.own ≡ []) takers) where
  abbrev made_by : List One
  made_by = map pass_member producers

  abbrev me : One
  me = record { actor = end.actor; own = end.own }

  -- an item of a claim, which is the only one of that ticket
  abbrev pub IsClaimed : Given → Type 0
  IsClaimed i = Contains (claims end.seen) (i.0, i.1) × ((y : Item) → Contains (claims end.seen) (i.0, y) → y ≡ i.1)

  exact : (m : One) → Contains (made_by ++ takers) m → m.own ≡ own_of m.actor end.seen
  exact m at =
      all_at (λ (c : One). c.own ≡ own_of c.actor end.seen) (made_by ++ takers) m
      (subst (λ (ms : List One). AreExact ms end.seen) members whole.faithful.joined) at

  by_producer : (p : ProducerView) → Contains producers p → p.pass.known.own ≡ own_of p.pass.known.actor end.seen
  by_producer p at = exact (pass_member p) (Contains-append_left made_by takers (pass_member p) (at_map pass_member producers p at))

  by_taker : (m : One) → Contains takers m → m.own ≡ own_of m.actor end.seen
  by_taker m at = exact m (Contains-append_right made_by takers m at)

  pub put_seen : (i : Given) → IsPutIn producers i → Contains (claims end.seen) i
  put_seen i put =
      own_in put_by (λ (h : List Deed). claims h) refl (λ x h. refl) put.0.pass.known.actor end.seen i
      (subst (λ (h : List Deed). Contains (claims h) i) (by_producer put.0 put.1) put.2)

  overrun_seen : (p : ProducerView) (i : Given) → Contains producers p → Contains (takes p.pass.known.own) i → Contains (takes end.seen) i
  overrun_seen p i at c =
      own_in got_by (λ (h : List Deed). takes h) refl (λ x h. refl) p.pass.known.actor end.seen i
      (subst (λ (h : List Deed). Contains (takes h) i) (by_producer p at) c)

  took_seen : (m : One) (i : Given) → Contains takers m → Contains (takes m.own) i → Contains (takes end.seen) i
  took_seen m i at c =
      own_in got_by (λ (g : List Deed). takes g) refl (λ x g. refl) m.actor end.seen i
      (subst (λ (g : List Deed). Contains (takes g) i) (by_taker m at) c)

  of_taker : (m : One) (i : Given) → Contains takers m → ¬ Contains (claims m.own) i
  of_taker m i at c =
      let none = all_at (λ (k : One). claims k.own ≡ []) takers m idle at in
      let bad = subst (λ (l : List Given). Contains l i) none c in absurd (omega (arith, bad.1))

  of_member : (m : One) (i : Given) → Contains (made_by ++ takers) m → Contains (claims m.own) i → IsPutIn producers i
  of_member m i at c =
      elim (Contains-append_cases made_by takers m at) [
        | inl made ↦
            let p = of_map pass_member producers m made in
            (p.0, p.1, subst (λ (v : One). Contains (claims v.own) i) (sym p.2) c)
        | inr took ↦ absurd (of_taker m i took c)
      ]

  pub seen_put : (i : Given) → i.1 ≢ Stop → Contains (claims end.seen) i → IsPutIn producers i
  seen_put i work c =
      let m = whose put_by (λ (h : List Deed). claims h) refl (λ x h. refl) (members_of end) end.seen i whole.actors c in
      elim (at_cases m.0 me end.joined m.1) [
        | inl same ↦
            let mine = subst (λ (v : One). Contains (claims (own_of v.actor end.seen)) i) (sym same) m.2 in
            let put = subst (λ (h : List Deed). Contains (claims h) i) (sym whole.faithful.own) mine in
            absurd (work (all_at (λ (p : Given). p.1 ≡ Stop) (claims end.own) i stops put))
        | inr joined ↦
            let at = subst (λ (ms : List One). Contains ms m.0) members joined in
            of_member m.0 i at (subst (λ (h : List Deed). Contains (claims h) i) (sym (exact m.0 at)) m.2)
      ]

  -- what each of them took
  abbrev pub taken_rows : List (List Given)
  taken_rows = map (λ (m : One). takes m.own) takers

  pub taken_claimed : (r : List Given) (i : Given) → Contains taken_rows r → Contains r i → IsClaimed i
  taken_claimed r i at c =
      let m = of_map (λ (k : One). takes k.own) takers r at in
      let got = took_seen m.0 i m.1 (subst (λ (l : List Given). Contains l i) (sym m.2) c) in
      tickets_keep_their_items Item block_note end.places end.first end.seen i.0 i.1 whole.faithful.legal (inl got)

  pub taken_weighs : (w : ℕ → Item → ℕ) → sum_by (λ (r : List Given). weigh w r) taken_rows
      ≡ sum_by (λ (m : One). taken w m.own) takers
  taken_weighs w = sum_of_map (λ (m : One). takes m.own) (λ (r : List Given). weigh w r) takers

  -- no ticket is taken twice, by whomever, nor left where it was taken
  pub taken_once : (t : ℕ) → sum_by (λ (p : ProducerView). taken (one t) p.pass.known.own) producers
      + sum_by (λ (r : List Given). weigh (one t) r) taken_rows + listed (one t) (left_by (start end.first) end.seen).cells ≤ 1
  taken_once t =
      let f : One → ℕ = λ m. taken (one t) m.own in
      let all : taken (one t) end.seen ≡ sum_by f (me ∷ end.joined) = whole_taken (one t) end whole in
      let first : sum_by f (me ∷ end.joined) ≡ f me + sum_by f end.joined = sum_by-cons f me end.joined in
      let same : sum_by f end.joined ≡ sum_by f (made_by ++ takers) = ap (λ (ms : List One). sum_by f ms) members in
      let parts : sum_by f (made_by ++ takers) ≡ sum_by f made_by + sum_by f takers = sum_by-append f made_by takers in
      let theirs : sum_by f made_by ≡ sum_by (λ (p : ProducerView). f (pass_member p)) producers = sum_of_map pass_member f producers in
      let rows = taken_weighs (one t) in
      let balance = accounts_balance Item block_note end.places end.first end.seen (one t) whole.faithful.legal in
      let once = issued_once end.places end.first end.seen t whole.faithful.legal in
      omega (arith, all, first, same, parts, theirs, rows, balance, once, weigh_one t (claims end.seen))

  -- What came out otherwise, by rows: each of it was claimed, none of it twice or overrun, too, and by whatever weight it is all that was put in and
  -- not overrun.
  module _ (rows : List (List Given)) (here : (r : List Given) (i : Given) → Contains rows r → Contains r i → IsClaimed i)
      (once : (t : ℕ) → sum_by (λ (p : ProducerView). taken (one t) p.pass.known.own) producers
      + sum_by (λ (r : List Given). weigh (one t) r) rows ≤ 1)
      (out : (w : ℕ → Item → ℕ) → ((t : ℕ) → w t Stop ≡ 0) → sum_by (λ (p : ProducerView). claimed w p.pass.known.own) producers
      ≡ sum_by (λ (p : ProducerView). taken w p.pass.known.own) producers + sum_by (λ (r : List Given). weigh w r) rows) where
    never_both : (r : List Given) (i : Given) → Contains rows r → Contains r i → ¬ IsOverrun producers i
    never_both r i at c lost =
        let f : ProducerView → ℕ = λ p. taken (one i.0) p.pass.known.own in
        let g : List Given → ℕ = λ l. weigh (one i.0) l in
        let just = once i.0 in
        let a = weigh_at r i c in
        let b = weigh_at (takes lost.0.pass.known.own) i lost.2 in
        let low : f lost.0 ≤ sum_by f producers = sum_at f producers lost.0 lost.1 in
        let more : g r ≤ sum_by g rows = sum_at g rows r at in absurd (omega (arith, just, a, b, low, more))

    came_out : (i : Given) → i.1 ≢ Stop → IsPutIn producers i → ¬ IsOverrun producers i → Contains (together (map works_in rows)) i
    came_out i work put kept =
        let w : ℕ → Item → ℕ = at_work i.0 in
        let c : ProducerView → ℕ = λ p. claimed w p.pass.known.own in
        let f : ProducerView → ℕ = λ p. taken w p.pass.known.own in
        let g : List Given → ℕ = λ r. weigh w r in
        let all : sum_by c producers ≡ sum_by f producers + sum_by g rows = out w (λ t. refl) in
        let some : 1 ≤ c put.0 = weigh_work (claims put.0.pass.known.own) i work put.2 in
        let low : c put.0 ≤ sum_by c producers = sum_at c producers put.0 put.1 in
        let seen = put_seen i put in
        elim (leb_tells 1 (sum_by f producers)) [
          | inl lost ↦
              let p = some_of_sum f producers lost.1 in
              let x = some_work i.0 (takes p.0.pass.known.own) p.2 in
              let got = overrun_seen p.0 (i.0, x.0) p.1 x.1 in
              let is = tickets_keep_their_items Item block_note end.places end.first end.seen i.0 x.0 whole.faithful.legal (inl got) in
              let at = subst (λ (y : Item). Contains (takes p.0.pass.known.own) (i.0, y)) (sym (is.1 i.1 seen)) x.1 in
              absurd (kept (p.0, p.1, at))
          | inr none ↦
              let r = some_of_sum g rows (omega (arith, all, some, low, none.1)) in
              let x = some_work i.0 r.0 r.2 in
              let same = (here r.0 (i.0, x.0) r.1 x.1).1 i.1 seen in
              let at = subst (λ (y : Item). Contains r.0 (i.0, y)) (sym same) x.1 in
              at_together works_in rows r.0 i r.1 (work_at r.0 i work at)
        ]

    was_put : (i : Given) → Contains (together (map works_in rows)) i → (i.1 ≢ Stop) × IsPutIn producers i × ¬ IsOverrun producers i
    was_put i c =
        let r = of_together works_in rows i c in
        let is = work_of r.0 i r.2 in (is.1, seen_put i is.1 (here r.0 i r.1 is.0).0, never_both r.0 i r.1 is.0)

    pub posted : ArePosted producers (together (map works_in rows))
    posted = record {
      each = λ i. (λ c. was_put i c, λ is. came_out i is.0 is.1 is.2);
      once = apart_by_times (tickets_of (together (map works_in rows)))
          (λ t.
          let just = once t in
          let less = weigh_together (one t) rows in
          omega (arith, just, less, weigh_one t (together (map works_in rows))));
      in_order = all_in_order producers takers end.seen (λ a. (own_up end.places (start end.first) end.seen a whole.faithful.legal.0).1)
          (subst (λ (ms : List One). AreExact ms end.seen) members whole.faithful.joined);
    }
