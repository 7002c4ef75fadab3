-- Each ticket keeps its item, from its claim to its take.
use Rattle.std.proofs.Common.{◌≡◌, ◌⊎◌, ℕ, zero, suc, ◌+◌, ◌≤◌, cond, Some, List, [], ◌∷◌, ◌++◌, map, Contains, inl, inr}
use Rattle.std.proofs.Common.{refl, sym, ap, subst, ◌∙◌, arith}
use Rattle.std.proofs.lemmas.List.Elements.{Contains-append_left, Contains-append_right, Contains-append_cases}
use Rattle.alog_core.specs.Queue.{Cell, Queue, Event, Claim, Write, Grab, Take, Full, Front, Empty, Idle, PushBusy, PopBusy}
use Rattle.alog_core.specs.Queue.{Spent, start}
use Rattle.alog_core.specs.Queue.{cell_of, without, Allows, after}
use Rattle.alog_core.specs.History.{Entry, left_by, IsLegalFrom}
use Rattle.alog_core.specs.Accounts.{put_by, got_by, claims, takes, held}
use Rattle.alog_core.specs.Accounts.{TicketsKeepTheirItems, TakesFollowTheirClaims}
use Rattle.alog_core.specs.declared.mark.Mark.TheVariants.{Claimed, Written, Emptying}
use Rattle.alog_core.proofs.SharedCells.{on_test}
use Rattle.alog_core.proofs.SharedHistories.{legal_second}
use Rattle.alog_core.proofs.SharedAccounts.{held-marked}
use Rattle.alog_core.proofs.SharedTickets.{times, times_contained, issued_once}

-- a list of one more
contains_first : {X : Type 0} (x : X) (xs : List X) → Contains (x ∷ xs) x
contains_first x xs = (0, omega arith, refl)

contains_more : {X : Type 0} (x y : X) (xs : List X) → Contains xs x → Contains (y ∷ xs) x
contains_more x y xs c = Contains-append_right (y ∷ []) xs x c

-- the cell that a look-up finds holds its ticket and its item
found_held : {T : Type 0} (t : ℕ) (cs : List (Cell T)) (c : Cell T) → cell_of t cs ≡ Some c
    → Contains (held cs) (c.ticket, c.item)
found_held t [] c h = absurd (cc)
found_held {T} t (d ∷ cs) c h =
    on_test
    (λ b. cond b (Some d) (cell_of t cs) ≡ Some c → Contains (held (d ∷ cs)) (c.ticket, c.item))
    d.ticket
    t
    (λ _ found.
    let same : d ≡ c = cc in
    subst (λ (k : Cell T). Contains (held (d ∷ cs)) (k.ticket, k.item)) same (contains_first (d.ticket, d.item) (held cs)))
    (λ _ found. contains_more (c.ticket, c.item) (d.ticket, d.item) (held cs) (found_held t cs c found))
    h

-- what is held after a claim and a removal was held before, or claimed
held-append : {T : Type 0} (cs : List (Cell T)) (c : Cell T) → held (cs ++ c ∷ []) ≡ held cs ++ (c.ticket, c.item) ∷ []
held-append [] c = refl
held-append (d ∷ cs) c = ap (λ ps. (d.ticket, d.item) ∷ ps) (held-append cs c)

held-without : {T : Type 0} (t : ℕ) (cs : List (Cell T)) (p : ℕ × T) → Contains (held (without t cs)) p
    → Contains (held cs) p
held-without t [] p h = h
held-without {T} t (d ∷ cs) p h =
    on_test
    (λ b. Contains (held (cond b cs (d ∷ without t cs))) p → Contains (held (d ∷ cs)) p)
    d.ticket
    t
    (λ _ rest. contains_more p (d.ticket, d.item) (held cs) rest)
    (λ _ all.
    elim (Contains-append_cases ((d.ticket, d.item) ∷ []) (held (without t cs)) p all) [
      | inl first ↦ Contains-append_left ((d.ticket, d.item) ∷ []) (held cs) p first
      | inr rest ↦ contains_more p (d.ticket, d.item) (held cs) (held-without t cs p rest)
    ])
    h

-- one event that is allowed
held_step : {T : Type 0} (q : Queue T) (a : ℕ) (e : Event T) (p : ℕ × T) → Contains (held (after q a e).cells) p
    → Contains (put_by e) p ⊎ Contains (held q.cells) p
held_step {T} q a (Claim t x) p h =
    let c : Cell T = record { ticket = t; mark = Claimed; item = x; actor = a } in
    elim (Contains-append_cases (held q.cells) ((t, x) ∷ []) p
    (subst (λ ps. Contains ps p) (held-append q.cells c) h)) [ inl old ↦ inr old | inr new ↦ inl new ]
held_step q a (Write t) p h = inr (subst (λ ps. Contains ps p) (held-marked t Written a q.cells) h)
held_step q a (Grab t) p h = inr (subst (λ ps. Contains ps p) (held-marked t Emptying a q.cells) h)
held_step q a (Take t x) p h = inr (held-without t q.cells p h)
held_step q a (Full t) p h = inr h
held_step q a (Front t) p h = inr h
held_step q a (Empty t) p h = inr h
held_step q a (Idle t) p h = inr h
held_step q a (PushBusy t) p h = inr h
held_step q a (PopBusy t) p h = inr h
held_step q a Spent p h = inr h

got_step : {T : Type 0} (n : ℕ) (q : Queue T) (a : ℕ) (e : Event T) (p : ℕ × T) → Allows n q a e → Contains (got_by e) p
    → Contains (held q.cells) p
got_step n q a (Claim t x) p may h = absurd (omega (arith, h.1))
got_step n q a (Write t) p may h = absurd (omega (arith, h.1))
got_step n q a (Grab t) p may h = absurd (omega (arith, h.1))
got_step {T} n q a (Take t x) p may (zero, l, e) =
    subst (λ (r : ℕ × T). Contains (held q.cells) r) e (found_held t q.cells _ may)
got_step n q a (Take t x) p may (suc k, l, e) = absurd (omega (arith, l))
got_step n q a (Full t) p may h = absurd (omega (arith, h.1))
got_step n q a (Front t) p may h = absurd (omega (arith, h.1))
got_step n q a (Empty t) p may h = absurd (omega (arith, h.1))
got_step n q a (Idle t) p may h = absurd (omega (arith, h.1))
got_step n q a (PushBusy t) p may h = absurd (omega (arith, h.1))
got_step n q a (PopBusy t) p may h = absurd (omega (arith, h.1))
got_step n q a Spent p may h = absurd (omega (arith, h.1))

-- a claim or a cell of the queue after the first event of a history, seen from the queue before it
earlier : {T N : Type 0} (q : Queue T) (x : Entry T N) (h : List (Entry T N)) (p : ℕ × T)
    → Contains (claims h) p ⊎ Contains (held (after q x.actor x.event).cells) p
    → Contains (claims (x ∷ h)) p ⊎ Contains (held q.cells) p
earlier q x h p (inl c) = inl (Contains-append_right (put_by x.event) (claims h) p c)
earlier q x h p (inr c) =
    elim (held_step q x.actor x.event p c) [
      | inl new ↦ inl (Contains-append_left (put_by x.event) (claims h) p new)
      | inr old ↦ inr old
    ]

-- what is held at the end was claimed, or held at the start; and so was what was taken
held_from : {T N : Type 0} (q : Queue T) (h : List (Entry T N)) (p : ℕ × T) → Contains (held (left_by q h).cells) p
    → Contains (claims h) p ⊎ Contains (held q.cells) p
held_from q [] p c = inr c
held_from q (x ∷ h) p c = earlier q x h p (held_from (after q x.actor x.event) h p c)

taken_from : {T N : Type 0} (n : ℕ) (q : Queue T) (h : List (Entry T N)) (p : ℕ × T) → IsLegalFrom n q h
    → Contains (takes h) p → Contains (claims h) p ⊎ Contains (held q.cells) p
taken_from n q [] p legal c = absurd (omega (arith, c.1))
taken_from n q (x ∷ h) p legal c =
    elim (Contains-append_cases (got_by x.event) (takes h) p c) [
      | inl now ↦ inr (got_step n q x.actor x.event p legal.0 now)
      | inr later ↦ earlier q x h p (taken_from n (after q x.actor x.event) h p legal.1 later)
    ]

-- in a history from the start nothing was held before
was_claimed : {T N : Type 0} (f : ℕ) (h : List (Entry T N)) (p : ℕ × T)
    → Contains (claims h) p ⊎ Contains (held (start {T = T} f).cells) p → Contains (claims h) p
was_claimed f h p (inl c) = c
was_claimed f h p (inr c) = absurd (omega (arith, c.1))

-- one item under a ticket that stands once
ticket_contained : {T : Type 0} (ps : List (ℕ × T)) (t : ℕ) (x : T) → Contains ps (t, x) → 1 ≤ times t (map (λ p. p.0) ps)
ticket_contained [] t x c = absurd (omega (arith, c.1))
ticket_contained {T} (p ∷ ps) t x (zero, l, e) =
    times_contained t (map (λ r. r.0) (p ∷ ps)) (0, omega arith, ap (λ (r : ℕ × T). r.0) e)
ticket_contained (p ∷ ps) t x (suc k, l, e) =
    omega (arith, ticket_contained ps t x (k, omega (arith, l), e))

counted_first : {T : Type 0} (p : ℕ × T) (ps : List (ℕ × T)) (t : ℕ) (x : T) → p ≡ (t, x)
    → times t (map (λ r. r.0) (p ∷ ps)) ≡ 1 + times t (map (λ r. r.0) ps)
counted_first {T} p ps t x e =
    on_test (λ b. cond b 1 0 + times t (map (λ r. r.0) ps) ≡ 1 + times t (map (λ r. r.0) ps)) p.0 t (λ _. refl)
    (λ other. absurd (other (ap (λ (r : ℕ × T). r.0) e)))

one_item : {T : Type 0} (ps : List (ℕ × T)) (t : ℕ) (x y : T) → times t (map (λ p. p.0) ps) ≤ 1 → Contains ps (t, x)
    → Contains ps (t, y) → y ≡ x
one_item [] t x y once c d = absurd (omega (arith, c.1))
one_item {T} (p ∷ ps) t x y once (zero, l, e) (zero, m, g) = ap (λ (r : ℕ × T). r.1) (sym g ∙ e)
one_item (p ∷ ps) t x y once (zero, l, e) (suc j, m, g) =
    absurd (omega (arith, once, counted_first p ps t x e, ticket_contained ps t y (j, omega (arith, m), g)))
one_item (p ∷ ps) t x y once (suc k, l, e) (zero, m, g) =
    absurd (omega (arith, once, counted_first p ps t y g, ticket_contained ps t x (k, omega (arith, l), e)))
one_item (p ∷ ps) t x y once (suc k, l, e) (suc j, m, g) =
    one_item ps t x y (omega (arith, once)) (k, omega (arith, l), e) (j, omega (arith, m), g)

pub tickets_keep_their_items : (T N : Type 0) → TicketsKeepTheirItems T N
tickets_keep_their_items T N n f h t x legal is =
    let c : Contains (claims h) (t, x) =
    elim is [
      | inl out ↦ was_claimed f h (t, x) (taken_from n (start f) h (t, x) legal.0 out)
      | inr in' ↦ was_claimed f h (t, x) (held_from (start f) h (t, x) in')
    ]
    in (c, λ y d. one_item (claims h) t x y (issued_once n f h t legal) c d)

pub takes_follow_their_claims : (T N : Type 0) → TakesFollowTheirClaims T N
takes_follow_their_claims T N n f before later e t x legal is =
    let q : Queue T = left_by (start f) before in
    let may : Allows n q e.actor (Take t x) =
    subst (λ (v : Event T). Allows n q e.actor v) is (legal_second n (start f) before (e ∷ later) legal.0).0 in
    was_claimed f before (t, x) (held_from (start f) before (t, x) (found_held t q.cells _ may))
