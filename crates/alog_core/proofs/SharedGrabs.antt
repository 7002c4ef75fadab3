-- Tickets are grabbed in order, so each actor grabs rising ones.
use Rattle.std.proofs.Common.{◌≡◌, ℕ, ◌+◌, ◌-◌, ◌<◌, ◌≤◌, cond, List, [], ◌∷◌, ◌++◌, length, All, AllPairs, refl, sym, ap}
use Rattle.std.proofs.Common.{subst, ◌∙◌, arith, get_or}
use Rattle.std.specs.List.{range_with_len}
use Rattle.std.proofs.lemmas.List.{length-append, get_or_append_left}
use Rattle.std.proofs.lemmas.List.Elements.{All-nil, All-cons, All-weaker}
use Rattle.std.proofs.lemmas.List.Kept.{AllPairs-cons}
use Rattle.alog_core.specs.Queue.{Queue, Event, Claim, Write, Grab, Take, Full, Front, Empty, Idle, PushBusy, PopBusy}
use Rattle.alog_core.specs.Queue.{Spent, start}
use Rattle.alog_core.specs.Queue.{Allows, after}
use Rattle.alog_core.specs.History.{Entry, left_by, own_of, IsLegalFrom}
use Rattle.alog_core.specs.Accounts.{grabbed_by, grabbed, handed_out, TicketsAreGrabbedInOrder, AnActorsTicketsRise}
use Rattle.alog_core.proofs.SharedCells.{on_test}

-- these grabs are of the tickets from low on, each once, up to high
record Grabs (low : ℕ) (us : List ℕ) (high : ℕ) : Type 0 where
  pub tickets : us ≡ range_with_len low (length us)
  pub front : high ≡ low + length us

-- one event that is allowed
grabs_step : {T : Type 0} (n : ℕ) (q : Queue T) (a : ℕ) (e : Event T) (us : List ℕ) (high : ℕ) → Allows n q a e
    → Grabs (after q a e).front us high → Grabs q.front (grabbed_by e ++ us) high
grabs_step n q a (Grab t) us high may g =
    record {
      tickets = ap (λ u. u ∷ us) may.0 ∙ ap (λ vs. q.front ∷ vs) g.tickets;
      front = omega (arith, g.front);
    }
grabs_step n q a (Claim t x) us high may g = g
grabs_step n q a (Write t) us high may g = g
grabs_step n q a (Take t x) us high may g = g
grabs_step n q a (Full t) us high may g = g
grabs_step n q a (Front t) us high may g = g
grabs_step n q a (Empty t) us high may g = g
grabs_step n q a (Idle t) us high may g = g
grabs_step n q a (PushBusy t) us high may g = g
grabs_step n q a (PopBusy t) us high may g = g
grabs_step n q a Spent us high may g = g

grabs_from : {T N : Type 0} (n : ℕ) (q : Queue T) (h : List (Entry T N)) → IsLegalFrom n q h
    → Grabs q.front (grabbed h) (left_by q h).front
grabs_from n q [] legal = record { tickets = refl; front = omega arith }
grabs_from n q (x ∷ h) legal =
    grabs_step n q x.actor x.event (grabbed h) (left_by q (x ∷ h)).front legal.0
    (grabs_from n (after q x.actor x.event) h legal.1)

pub tickets_are_grabbed_in_order : (T N : Type 0) → TicketsAreGrabbedInOrder T N
tickets_are_grabbed_in_order T N n f h legal =
    let g = grabs_from n (start f) h legal.0 in
    let many : length (grabbed h) ≡ (left_by (start f) h).front - f = omega (arith, g.front) in
    (omega (arith, g.front), g.tickets ∙ ap (λ m. range_with_len f m) many)

-- tickets that rise, from low on
record Rise (low : ℕ) (us : List ℕ) : Type 0 where
  pub from : All (λ u. low ≤ u) us
  pub rising : AllPairs (λ t u. t < u) us

rise_later : (low higher : ℕ) (us : List ℕ) → low ≤ higher → Rise higher us → Rise low us
rise_later low higher us w r =
    record { from = All-weaker (λ u. higher ≤ u) (λ u. low ≤ u) (λ u h. omega (arith, w, h)) us r.from; rising = r.rising }

rise_cons : (low : ℕ) (us : List ℕ) → Rise (low + 1) us → Rise low (low ∷ us)
rise_cons low us r =
    record {
      from = All-cons (λ u. low ≤ u) low us (omega arith)
          (All-weaker (λ u. low + 1 ≤ u) (λ u. low ≤ u) (λ u h. omega (arith, h)) us r.from);
      rising = AllPairs-cons (λ t u. t < u) low us
          (All-weaker (λ u. low + 1 ≤ u) (λ u. low < u) (λ u h. omega (arith, h)) us r.from) r.rising;
    }

-- one event that is allowed: another actor's moves the front or leaves it, and an actor's own grab is of the front
front_stays : {T : Type 0} (q : Queue T) (a : ℕ) (e : Event T) → q.front ≤ (after q a e).front
front_stays q a (Grab t) = omega arith
front_stays q a (Claim t x) = omega arith
front_stays q a (Write t) = omega arith
front_stays q a (Take t x) = omega arith
front_stays q a (Full t) = omega arith
front_stays q a (Front t) = omega arith
front_stays q a (Empty t) = omega arith
front_stays q a (Idle t) = omega arith
front_stays q a (PushBusy t) = omega arith
front_stays q a (PopBusy t) = omega arith
front_stays q a Spent = omega arith

rise_step : {T : Type 0} (n : ℕ) (q : Queue T) (a : ℕ) (e : Event T) (us : List ℕ) → Allows n q a e
    → Rise (after q a e).front us → Rise q.front (grabbed_by e ++ us)
rise_step n q a (Grab t) us may r = subst (λ u. Rise q.front (u ∷ us)) (sym may.0) (rise_cons q.front us r)
rise_step n q a (Claim t x) us may r = r
rise_step n q a (Write t) us may r = r
rise_step n q a (Take t x) us may r = r
rise_step n q a (Full t) us may r = r
rise_step n q a (Front t) us may r = r
rise_step n q a (Empty t) us may r = r
rise_step n q a (Idle t) us may r = r
rise_step n q a (PushBusy t) us may r = r
rise_step n q a (PopBusy t) us may r = r
rise_step n q a Spent us may r = r

rise_from : {T N : Type 0} (n : ℕ) (q : Queue T) (h : List (Entry T N)) (a : ℕ) → IsLegalFrom n q h
    → Rise q.front (grabbed (own_of a h))
rise_from n q [] a legal =
    record { from = All-nil (λ u. q.front ≤ u); rising = λ i j d less within. absurd (omega (arith, within)) }
rise_from n q (x ∷ h) a legal =
    let rest : Rise (after q x.actor x.event).front (grabbed (own_of a h)) =
    rise_from n (after q x.actor x.event) h a legal.1 in
    on_test
    (λ b. Rise q.front (grabbed (cond b (x ∷ own_of a h) (own_of a h))))
    x.actor
    a
    (λ _. rise_step n q x.actor x.event (grabbed (own_of a h)) legal.0 rest)
    (λ _. rise_later q.front (after q x.actor x.event).front (grabbed (own_of a h)) (front_stays q x.actor x.event) rest)

-- the first of tickets that rise
rising_front : (us vs : List ℕ) → AllPairs (λ t u. t < u) (us ++ vs) → AllPairs (λ t u. t < u) us
rising_front us vs rising = λ i j d less within.
    let both : get_or (us ++ vs) i d < get_or (us ++ vs) j d =
    rising i j d less (omega (arith, within, length-append us vs)) in
    omega
    (arith, both, get_or_append_left us vs d i (omega (arith, less, within)), get_or_append_left us vs d j within)

pub an_actors_tickets_rise : (T N : Type 0) → AnActorsTicketsRise T N
an_actors_tickets_rise T N n f h a legal =
    let rising = (rise_from n (start f) h a legal.0).rising in (
      rising,
      λ yet same. rising_front (handed_out (own_of a h)) yet (subst (λ us. AllPairs (λ t u. t < u) us) same rising),
    )
