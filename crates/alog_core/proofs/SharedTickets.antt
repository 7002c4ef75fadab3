-- Which tickets a legal history issues, and which of them it hands out.
use Rattle.std.proofs.Common.{◌≡◌, ◌≢◌, ◌⊎◌, ℕ, zero, suc, ◌+◌, ◌-◌, ◌<◌, ◌≤◌, ◌==◌, cond, Some, List, [], ◌∷◌, ◌++◌, length}
use Rattle.std.proofs.Common.{map, All, AllPairs, Contains, inl, inr, refl, sym, ap, ◌∙◌, arith}
use Rattle.std.specs.List.{range_with_len}
use Rattle.std.proofs.lemmas.Bool.Decides.{leb_tells}
use Rattle.std.proofs.lemmas.List.Elements.{All-nil, All-cons}
use Rattle.std.proofs.lemmas.List.Kept.{AllPairs-cons}
use Rattle.alog_core.specs.Queue.{Cell, Queue, Event, Claim, Write, Grab, Take, Full, Front, Empty, Idle, PushBusy, PopBusy}
use Rattle.alog_core.specs.Queue.{Spent, start}
use Rattle.alog_core.specs.Queue.{cell_of, IsListed, Allows, after}
use Rattle.alog_core.specs.History.{Entry, left_by, IsLegalFrom, IsLegal}
use Rattle.alog_core.specs.Accounts.{put_by, claims, takes, weigh, listed, issued, handed_out}
use Rattle.alog_core.specs.Accounts.{TicketsAreIssuedInOrder, NoTicketIsHandedOutTwice, TicketsAreHandedOutOrListed}
use Rattle.alog_core.proofs.SharedCells.{on_test}
use Rattle.alog_core.proofs.SharedAccounts.{accounts_balance}

-- these claims are of the tickets from low on, each once, up to high
record Issues {T : Type 0} (low : ℕ) (ps : List (ℕ × T)) (high : ℕ) : Type 0 where
  pub tickets : map (λ p. p.0) ps ≡ range_with_len low (length ps)
  pub next : high ≡ low + length ps

-- one event that is allowed
issues_step : {T : Type 0} (n : ℕ) (q : Queue T) (a : ℕ) (e : Event T) (ps : List (ℕ × T)) (high : ℕ) → Allows n q a e
    → Issues (after q a e).next ps high → Issues q.next (put_by e ++ ps) high
issues_step n q a (Claim t x) ps high may i =
    record {
      tickets = ap (λ u. u ∷ map (λ p. p.0) ps) may.0 ∙ ap (λ us. q.next ∷ us) i.tickets;
      next = omega (arith, i.next);
    }
issues_step n q a (Write t) ps high may i = i
issues_step n q a (Grab t) ps high may i = i
issues_step n q a (Take t x) ps high may i = i
issues_step n q a (Full t) ps high may i = i
issues_step n q a (Front t) ps high may i = i
issues_step n q a (Empty t) ps high may i = i
issues_step n q a (Idle t) ps high may i = i
issues_step n q a (PushBusy t) ps high may i = i
issues_step n q a (PopBusy t) ps high may i = i
issues_step n q a Spent ps high may i = i

issues_from : {T N : Type 0} (n : ℕ) (q : Queue T) (h : List (Entry T N)) → IsLegalFrom n q h
    → Issues q.next (claims h) (left_by q h).next
issues_from n q [] legal = record { tickets = refl; next = omega arith }
issues_from n q (x ∷ h) legal =
    issues_step n q x.actor x.event (claims h) (left_by q (x ∷ h)).next legal.0
    (issues_from n (after q x.actor x.event) h legal.1)

pub tickets_are_issued_in_order : (T N : Type 0) → TicketsAreIssuedInOrder T N
tickets_are_issued_in_order T N n f h legal =
    let i = issues_from n (start f) h legal.0 in
    let many : length (claims h) ≡ (left_by (start f) h).next - f = omega (arith, i.next) in
    (omega (arith, i.next), i.tickets ∙ ap (λ m. range_with_len f m) many)

-- how many times a ticket stands in a list
abbrev pub times : ℕ → List ℕ → ℕ
times t [] = 0
times t (u ∷ us) = cond (u == t) 1 0 + times t us

-- a ticket that stands in a list stands there at least once, and the other way round
pub times_contained : (t : ℕ) (us : List ℕ) → Contains us t → 1 ≤ times t us
times_contained t [] c = absurd (omega (arith, c.1))
times_contained t (u ∷ us) (zero, l, e) =
    on_test (λ b. 1 ≤ cond b 1 0 + times t us) u t (λ _. omega arith) (λ other. absurd (other e))
times_contained t (u ∷ us) (suc k, l, e) = omega (arith, times_contained t us (k, omega (arith, l), e))

contained_times : (t : ℕ) (us : List ℕ) → 1 ≤ times t us → Contains us t
contained_times t [] h = absurd (omega (arith, h))
contained_times t (u ∷ us) h =
    on_test
    (λ b. 1 ≤ cond b 1 0 + times t us → Contains (u ∷ us) t)
    u
    t
    (λ same _. (0, omega arith, same))
    (λ _ some. let c = contained_times t us (omega (arith, some)) in (suc c.0, omega (arith, c.1), c.2))
    h

-- a list in which no ticket stands twice
pub none_by_times : (t : ℕ) (us : List ℕ) → times t us ≡ 0 → All (λ u. t ≢ u) us
none_by_times t [] h = All-nil (λ u. t ≢ u)
none_by_times t (u ∷ us) h =
    on_test
    (λ b. cond b 1 0 + times t us ≡ 0 → All (λ v. t ≢ v) (u ∷ us))
    u
    t
    (λ _ bad. absurd (omega (arith, bad)))
    (λ other none. All-cons (λ v. t ≢ v) u us (λ e. other (sym e)) (none_by_times t us (omega (arith, none))))
    h

pub apart_by_times : (us : List ℕ) → ((t : ℕ) → times t us ≤ 1) → AllPairs (λ t u. t ≢ u) us
apart_by_times [] once = λ i j d less within. absurd (omega (arith, within))
apart_by_times (u ∷ us) once =
    let first : times u us ≡ 0 =
    on_test (λ b. cond b 1 0 + times u us ≤ 1 → times u us ≡ 0) u u (λ _ h. omega (arith, h)) (λ other _. absurd (other refl))
    (once u)
    in AllPairs-cons (λ t v. t ≢ v) u us (none_by_times u us first)
    (apart_by_times us (λ t. omega (arith, once t)))

-- in a row of numbers each stands once
times_below : (t a n : ℕ) → t < a → times t (range_with_len a n) ≡ 0
times_below t a zero h = refl
times_below t a (suc n) h =
    on_test (λ b. cond b 1 0 + times t (range_with_len (a + 1) n) ≡ 0) a t (λ same. absurd (omega (arith, h)))
    (λ _. omega (arith, times_below t (a + 1) n (omega (arith, h))))

times_in_row : (t a n : ℕ) → times t (range_with_len a n) ≤ 1
times_in_row t a zero = omega arith
times_in_row t a (suc n) =
    on_test (λ b. cond b 1 0 + times t (range_with_len (a + 1) n) ≤ 1) a t
    (λ same. omega (arith, times_below t (a + 1) n (omega arith)))
    (λ _. omega (arith, times_in_row t (a + 1) n))

-- the weight that counts one ticket
abbrev one : {T : Type 0} → ℕ → ℕ → T → ℕ
one t u x = cond (u == t) 1 0

weigh_one : {T : Type 0} (t : ℕ) (ps : List (ℕ × T)) → weigh (one t) ps ≡ times t (map (λ p. p.0) ps)
weigh_one t [] = refl
weigh_one t (p ∷ ps) = omega (arith, weigh_one t ps)

listed_counted : {T : Type 0} (t : ℕ) (cs : List (Cell T)) → IsListed t cs → 1 ≤ listed (one t) cs
listed_counted t [] l = let bad = l.1 in absurd (cc)
listed_counted {T} t (c ∷ cs) l =
    on_test (λ b. cond b (Some c) (cell_of t cs) ≡ Some l.0 → 1 ≤ cond b 1 0 + listed (one t) cs) c.ticket t
    (λ _ _. omega arith) (λ _ found. omega (arith, listed_counted t cs (l.0, found))) l.1

counted_listed : {T : Type 0} (t : ℕ) (cs : List (Cell T)) → 1 ≤ listed (one t) cs → IsListed t cs
counted_listed t [] h = absurd (omega (arith, h))
counted_listed {T} t (c ∷ cs) h =
    on_test
    (λ b. 1 ≤ cond b 1 0 + listed (one t) cs → (d : Cell T) × (cond b (Some c) (cell_of t cs) ≡ Some d))
    c.ticket
    t
    (λ _ _. (c, refl))
    (λ _ some. counted_listed t cs (omega (arith, some)))
    h

pub issued_once : {T N : Type 0} (n f : ℕ) (h : List (Entry T N)) (t : ℕ) → IsLegal n f h → times t (issued h) ≤ 1
issued_once {T} {N} n f h t legal =
    let row = (tickets_are_issued_in_order T N n f h legal).1 in
    let all : times t (issued h) ≡ times t (range_with_len f ((left_by (start f) h).next - f)) = ap (λ us. times t us) row in
    omega (arith, all, times_in_row t f ((left_by (start f) h).next - f))

-- each ticket, counted: it was issued at most once, and as often as it was handed out and is listed
record Counts {T N : Type 0} (q : Queue T) (h : List (Entry T N)) (t : ℕ) : Type 0 where
  pub once : times t (issued h) ≤ 1
  pub balance : times t (issued h) ≡ times t (handed_out h) + listed (one t) q.cells

counts : {T N : Type 0} (n f : ℕ) (h : List (Entry T N)) (t : ℕ) → IsLegal n f h → Counts (left_by (start f) h) h t
counts {T} {N} n f h t legal =
    record {
      once = issued_once n f h t legal;
      balance =
          omega
          (arith, weigh_one t (claims h), weigh_one t (takes h), accounts_balance T N n f h (one t) legal);
    }

pub no_ticket_is_handed_out_twice : (T N : Type 0) → NoTicketIsHandedOutTwice T N
no_ticket_is_handed_out_twice T N n f h legal =
    apart_by_times (handed_out h) (λ t. let c = counts n f h t legal in omega (arith, c.once, c.balance))

pub tickets_are_handed_out_or_listed : (T N : Type 0) → TicketsAreHandedOutOrListed T N
tickets_are_handed_out_or_listed T N n f h t legal =
    let c = counts n f h t legal in
    let cells = (left_by (start f) h).cells in
    let goes : Contains (issued h) t → Contains (handed_out h) t ⊎ IsListed t cells =
    λ was. elim (leb_tells 1 (times t (handed_out h))) [
      | inl l ↦ inl (contained_times t (handed_out h) l.1)
      | inr l ↦ inr (counted_listed t cells (omega (arith, l.1, c.balance, times_contained t (issued h) was)))
    ]
    in let came : Contains (handed_out h) t ⊎ IsListed t cells → Contains (issued h) t =
    λ is. elim is [
      | inl out ↦ contained_times t (issued h) (omega (arith, c.balance, times_contained t (handed_out h) out))
      | inr in' ↦ contained_times t (issued h) (omega (arith, c.balance, listed_counted t cells in'))
    ]
    in (
      (goes, came),
      λ out in'. omega (arith, c.once, c.balance, times_contained t (handed_out h) out, listed_counted t cells in'),
    )
