-- The accounts of a queue balance, by whatever weight.
use Rattle.std.proofs.Common.{◌≡◌, ℕ, ◌+◌, cond, Some, List, [], ◌∷◌, ◌++◌, refl, sym, ap, arith}
use Rattle.alog_core.specs.Queue.{Cell, Queue, Event, Claim, Write, Grab, Take, Full, Front, Empty, Idle, PushBusy, PopBusy}
use Rattle.alog_core.specs.Queue.{Spent, start}
use Rattle.alog_core.specs.Queue.{cell_of, marked, without, Allows, after}
use Rattle.alog_core.specs.History.{Entry, left_by, IsLegalFrom}
use Rattle.alog_core.specs.Accounts.{put_by, got_by, claims, takes, held, weigh, claimed, taken, listed, AccountsBalance}
use Rattle.alog_core.specs.declared.mark.Mark.{Mark}
use Rattle.alog_core.specs.declared.mark.Mark.TheVariants.{Claimed, Written, Emptying}
use Rattle.alog_core.proofs.SharedCells.{on_test, remarked}

pub weigh-append : {T : Type 0} (w : ℕ → T → ℕ) (ps qs : List (ℕ × T)) → weigh w (ps ++ qs) ≡ weigh w ps + weigh w qs
weigh-append w [] qs = omega arith
weigh-append w (p ∷ ps) qs = omega (arith, weigh-append w ps qs)

-- the cells after a claim, a mark and a removal
listed-append : {T : Type 0} (w : ℕ → T → ℕ) (cs : List (Cell T)) (c : Cell T)
    → listed w (cs ++ c ∷ []) ≡ w c.ticket c.item + listed w cs
listed-append w [] c = refl
listed-append w (d ∷ cs) c = omega (arith, listed-append w cs c)

pub held-marked : {T : Type 0} (t : ℕ) (m : Mark) (a : ℕ) (cs : List (Cell T)) → held (marked t m a cs) ≡ held cs
held-marked t m a [] = refl
held-marked t m a (d ∷ cs) =
    on_test
    (λ b. held (cond b (remarked d m a ∷ cs) (d ∷ marked t m a cs)) ≡ held (d ∷ cs))
    d.ticket
    t
    (λ _. refl)
    (λ _. ap (λ ps. (d.ticket, d.item) ∷ ps) (held-marked t m a cs))

listed-without : {T : Type 0} (w : ℕ → T → ℕ) (t : ℕ) (cs : List (Cell T)) (c : Cell T) → cell_of t cs ≡ Some c
    → listed w cs ≡ w c.ticket c.item + listed w (without t cs)
listed-without w t [] c h = absurd (cc)
listed-without {T} w t (d ∷ cs) c h =
    on_test
    (λ b. cond b (Some d) (cell_of t cs) ≡ Some c
    → listed w (d ∷ cs) ≡ w c.ticket c.item + listed w (cond b cs (d ∷ without t cs)))
    d.ticket
    t
    (λ _ found. let same : d ≡ c = cc in ap (λ (k : Cell T). w k.ticket k.item + listed w cs) same)
    (λ _ found. omega (arith, listed-without w t cs c found))
    h

-- one event that is allowed
balance_step : {T : Type 0} (n : ℕ) (q : Queue T) (a : ℕ) (e : Event T) (w : ℕ → T → ℕ) → Allows n q a e
    → weigh w (put_by e) + listed w q.cells ≡ weigh w (got_by e) + listed w (after q a e).cells
balance_step {T} n q a (Claim t x) w may =
    let c : Cell T = record { ticket = t; mark = Claimed; item = x; actor = a } in
    omega (arith, listed-append w q.cells c)
balance_step n q a (Write t) w may = ap (λ ps. 0 + weigh w ps) (sym (held-marked t Written a q.cells))
balance_step n q a (Grab t) w may = ap (λ ps. 0 + weigh w ps) (sym (held-marked t Emptying a q.cells))
balance_step n q a (Take t x) w may = omega (arith, listed-without w t q.cells _ may)
balance_step n q a (Full t) w may = refl
balance_step n q a (Front t) w may = refl
balance_step n q a (Empty t) w may = refl
balance_step n q a (Idle t) w may = refl
balance_step n q a (PushBusy t) w may = refl
balance_step n q a (PopBusy t) w may = refl
balance_step n q a Spent w may = refl

pub balance_from : {T N : Type 0} (n : ℕ) (q : Queue T) (h : List (Entry T N)) (w : ℕ → T → ℕ) → IsLegalFrom n q h
    → claimed w h + listed w q.cells ≡ taken w h + listed w (left_by q h).cells
balance_from n q [] w legal = refl
balance_from n q (x ∷ h) w legal =
    omega (
      arith,
      weigh-append w (put_by x.event) (claims h),
      weigh-append w (got_by x.event) (takes h),
      balance_step n q x.actor x.event w legal.0,
      balance_from n (after q x.actor x.event) h w legal.1,
    )

pub accounts_balance : (T N : Type 0) → AccountsBalance T N
accounts_balance T N n f h w legal = omega (arith, balance_from n (start f) h w legal.0)
