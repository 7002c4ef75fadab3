-- What holds of every machine that calls lead to stays true.
use Rattle.std.proofs.Common.{◌≡◌, ◌≢◌, ℕ, ◌+◌, ◌<◌, ◌≤◌, Option, None, Some, List, length}
use Rattle.std.proofs.Common.{get_or, set, inl, inr, refl, sym, ap, subst, ◌∙◌, arith, length-set, get_or-set_other, true}
use Rattle.std.proofs.Common.{get_or-set_same}
use Rattle.std.proofs.lemmas.Bool.Decides.{eqb_tells}
use Rattle.alog_core.specs.Queue.{Queue, Event, Allows, IsSound}
use Rattle.alog_core.specs.Round.{after_event}
use Rattle.std.proofs.Common.{set-set}
use Rattle.std.proofs.lemmas.List.{get_or_read}
use Rattle.alog_core.specs.Table.{places_of, queue_in, Shows, IsTable, Advances}
use Rattle.alog_core.specs.World.{is_size, Machine, round_of, began, next_move, stepped}
use Rattle.alog_core.specs.declared.TheConstants.{ACTORS}
use Rattle.alog_core.specs.declared.said.Said.{Said}
use Rattle.alog_core.specs.declared.table.Table.{Table}
use Rattle.alog_core.specs.Staged.{IsStaged, IsReached}
use Rattle.alog_core.specs.declared.round.Round.{Round}
use Rattle.alog_core.specs.declared.round.Round.TheVariants as round
use Rattle.alog_core.proofs.SharedSound.{sound_after}
use Rattle.alog_core.proofs.Steps.{IsFine, fine_move}
use Rattle.alog_core.proofs.Others.{issued_step, others_staged}

-- each actor's round is one that may be there
abbrev pub EachStaged : {T : Type 0} → ℕ → Queue T → List (Round T) → Type 0
EachStaged n q rounds = (b : ℕ) → b < ACTORS → IsStaged n q b (get_or rounds b round.Idle)

-- a fact of each actor's round, where one round is replaced
staged_set : {T : Type 0} (n : ℕ) (q : Queue T) (rounds : List (Round T)) {a : ℕ} (r : Round T) → length rounds ≡ ACTORS
    → a < ACTORS → IsStaged n q a r → ((b : ℕ) → a ≢ b → b < ACTORS → IsStaged n q b (get_or rounds b round.Idle))
    → EachStaged n q (set rounds a r)
staged_set {T} n q rounds {a} r all lt st others = λ b below.
    elim (eqb_tells a b) [
      | inl h ↦
          let P : ℕ → Type 0 = λ u. IsStaged n q u (get_or (set rounds a r) u round.Idle) in
          let at : a < length rounds = omega (arith, all, lt) in
          let here : get_or (set rounds a r) a round.Idle ≡ r = get_or-set_same rounds a r round.Idle at in
          subst P h.1 (subst (λ (x : Round T). IsStaged n q a x) (sym here) st)
      | inr h ↦
          let other : b ≢ a = λ e. h.1 (sym e) in
          let there : get_or (set rounds a r) b round.Idle ≡ get_or rounds b round.Idle =
          get_or-set_other rounds a b r round.Idle other in
          subst (λ (x : Round T). IsStaged n q b x) (sym there) (others b h.1 below)
    ]

pub reached_began : {T : Type 0} (m : Machine T) (a : ℕ) (r : Round T) → IsReached m → a < ACTORS
    → IsStaged m.places m.queue a r → IsReached (began m a r)
reached_began m a r h lt st =
    record {
      small = h.small;
      sound = h.sound;
      issued = h.issued;
      actors = length-set m.rounds a r ∙ h.actors;
      staged = staged_set m.places m.queue m.rounds {a = a} r h.actors lt st (λ b _ below. h.staged b below);
    }

sound_step : {T : Type 0} (n : ℕ) (q : Queue T) (a : ℕ) (o : Option (Event T)) → 1 ≤ n → IsSound n q
    → ((e : Event T) → o ≡ Some e → Allows n q a e) → IsSound n (after_event q a o)
sound_step n q a None some s may = s
sound_step n q a (Some e) some s may = sound_after n q a e some s (may e refl)

pub fine_step : {T : Type 0} (m : Machine T) (a : ℕ) → IsReached m → a < ACTORS → IsFine m.places m.queue a (next_move m a)
fine_step m a h lt = fine_move m.places m.queue a (round_of m a) h.sound h.issued (h.staged a lt)

pub reached_stepped : {T : Type 0} (m : Machine T) (a : ℕ) → IsReached m → a < ACTORS → IsReached (stepped m a)
reached_stepped m a h lt =
    let fine = fine_step m a h lt in
    let e = (next_move m a).event in
    record {
      small = h.small;
      sound = sound_step m.places m.queue a e h.small h.sound fine.allowed;
      issued = issued_step m.places m.queue a e h.issued fine.allowed;
      actors = length-set m.rounds a (next_move m a).round ∙ h.actors;
      staged = staged_set m.places (after_event m.queue a e) m.rounds {a = a} (next_move m a).round h.actors lt fine.staged
          (λ b other below.
          others_staged (round_of m b) h.small h.sound other fine.allowed (h.staged b below));
    }

-- the machine that a table and rounds keep
abbrev pub kept : {T : Type 0} → Table T → List (Round T) → Machine T
kept t rounds = record { places = places_of t; queue = queue_in t; rounds = rounds }

-- the round that was taken out is the actor's
pub taken_round : {T : Type 0} (rounds : List (Round T)) (a : ℕ) (lent r : Round T) → a < length rounds
    → lent ≡ get_or rounds a lent → r ≡ lent → r ≡ get_or rounds a round.Idle
taken_round rounds a lent r lt e f = f ∙ get_or_read rounds a lent lt e round.Idle

-- the table of a world holds what each step asks of it, and a round what its step asks
pub table_of : {T : Type 0} (t : Table T) (rounds : List (Round T)) → is_size (places_of t) ≡ true → IsReached (kept t rounds)
    → Shows t → IsTable t
table_of t rounds size h shows = record { size = size; sound = h.sound; issued = h.issued; shows = shows }

pub staged_in : {T : Type 0} (t : Table T) (rounds : List (Round T)) (a : ℕ) (r : Round T) → IsReached (kept t rounds)
    → a < ACTORS → r ≡ get_or rounds a round.Idle → IsStaged (places_of t) (queue_in t) a r
staged_in {T} t rounds a r h lt e =
    subst (λ (s : Round T). IsStaged (places_of t) (queue_in t) a s) (sym e) (h.staged a lt)

machine_is : {T : Type 0} (m k : Machine T) → m.places ≡ k.places → m.queue ≡ k.queue → m.rounds ≡ k.rounds → m ≡ k
machine_is {T} m k e f g =
    let M : ℕ → Queue T → List (Round T) → Machine T = λ n q rs. record { places = n; queue = q; rounds = rs } in
    ap (λ n. M n m.queue m.rounds) e ∙ (ap (λ q. M k.places q m.rounds) f ∙ ap (λ rs. M k.places k.queue rs) g)

-- after the table's step, with the actor's new round in place, the machine is stepped
pub stepped_in : {T : Type 0} {t new : Table T} (rounds : List (Round T)) {a : ℕ} (spare : Round T) {r : Round T}
    {answer : Said T × Round T} → r ≡ get_or rounds a round.Idle → Advances t new a r answer
    → kept new (set (set rounds a spare) a answer.1) ≡ stepped (kept t rounds) a
stepped_in {T} {t} {new} rounds {a} spare {answer} e adv =
    let made : Advances t new a (get_or rounds a round.Idle) answer =
    subst (λ (s : Round T). Advances t new a s answer) e adv in
    machine_is
    (kept new (set (set rounds a spare) a answer.1))
    (stepped (kept t rounds) a)
    (ap (λ k. k + 1) made.mask)
    made.queue
    (set-set rounds a spare answer.1 ∙ ap (λ (s : Round T). set rounds a s) made.round)
