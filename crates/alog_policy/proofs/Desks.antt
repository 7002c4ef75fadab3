-- What a desk keeps, and what a step of a post needs.
use Rattle.std.proofs.Common.{◌≡◌, ℕ, ◌<◌, Option, None, Some, Result, Ok, Err, List, length}
use Rattle.std.proofs.Common.{refl, sym, ap, subst, ◌∙◌, arith, get_or, set, get_or-set_same, get_or-set_other, length-set}
use Rattle.std.proofs.lemmas.List.{set-get_or}
use Rattle.std.specs.Prelude.{IfOk}
use Rattle.alog_core.specs.Queue.{Event, Claim, Write, Grab, Take, Full, Front, Empty, Idle, PushBusy, PopBusy, Spent}
use Rattle.alog_core.specs.Round.{Move}
use Rattle.alog_core.specs.World.{Machine, round_of, said_of, brought}
use Rattle.alog_core.specs.declared.TheConstants.{ACTORS}
use Rattle.alog_core.specs.declared.round.Round.{Round}
use Rattle.alog_core.specs.declared.round.Round.TheVariants as round
use Rattle.alog_core.specs.declared.said.Said.{Said}
use Rattle.alog_core.specs.declared.said.Said.TheVariants as said
use Rattle.alog_core.proofs.SharedCells.{on_test}
use Rattle.alog_policy.specs.Progress.{IsKept}
use Rattle.alog_policy.specs.Desk.{DeskView, post_of, Follows, Stays, Ends, Leads, follows, call_of, hand_of, turn_to}
use Rattle.alog_policy.specs.DeskInside.{IsPushing, IsPopping, FitsRound, Fits, IsKeptDesk}
use Rattle.alog_policy.specs.Following.{IsThere, HasValue}
use Rattle.alog_policy.specs.declared.counts.Counts.{Counts}
use Rattle.alog_policy.specs.declared.post.Post.{Post}
use Rattle.alog_policy.specs.declared.progress.Side.{Side}
use Rattle.alog_policy.specs.declared.progress.Side.TheVariants.{Push, Pop}
use Rattle.alog_policy.specs.declared.progress.Progress.{Progress}
use Rattle.alog_policy.specs.declared.progress.Lost.{Lost}
use Rattle.alog_policy.proofs.SharedStepKinds.{PushHas, PopSeeks, Kind, IsIdle, Pushes, Claims, FindsFull, PushIsBusy, IsSpent, Writes}
use Rattle.alog_policy.proofs.SharedStepKinds.{Pops, Grabs, FindsFront, FindsEmpty, FindsIdle, PopIsBusy, Takes, brought_push}
use Rattle.alog_policy.proofs.SharedStepKinds.{brought_pop}

-- a desk in which one actor's round and post were set
pub kept_set : {T : Type 0} {d e : DeskView T} (a : ℕ) (r : Round T) (p : Option (Post T)) → IsKeptDesk d → a < ACTORS
    → Fits p r → e.world.rounds ≡ set d.world.rounds a r → e.posts ≡ set d.posts a p → IsKeptDesk e
kept_set {T} {d} {e} a r p kept lt fits rounds posts =
    let in_rounds : a < length d.world.rounds = omega (arith, lt, kept.actors) in
    let in_posts : a < length d.posts = omega (arith, lt, kept.posts) in
    let at : (b : ℕ) → b < ACTORS → Fits (post_of e b) (round_of e.world b) =
    λ b below.
    on_test (λ _. Fits (post_of e b) (round_of e.world b)) b a
    (λ same.
    let there : post_of e b ≡ p =
    ap (λ (ps : List (Option (Post T))). get_or ps b None) posts
    ∙ (ap (λ c. get_or (set d.posts a p) c None) same ∙ get_or-set_same d.posts a p None in_posts) in
    let here : round_of e.world b ≡ r =
    ap (λ (rs : List (Round T)). get_or rs b round.Idle) rounds
    ∙ (ap (λ c. get_or (set d.world.rounds a r) c round.Idle) same
    ∙ get_or-set_same d.world.rounds a r round.Idle in_rounds) in
    subst (λ (q : Option (Post T)). Fits q (round_of e.world b)) (sym there)
    (subst (λ (s : Round T). Fits p s) (sym here) fits))
    (λ other.
    let there : post_of e b ≡ post_of d b =
    ap (λ (ps : List (Option (Post T))). get_or ps b None) posts ∙ get_or-set_other d.posts a b p None other in
    let here : round_of e.world b ≡ round_of d.world b =
    ap (λ (rs : List (Round T)). get_or rs b round.Idle) rounds
    ∙ get_or-set_other d.world.rounds a b r round.Idle other in
    subst (λ (q : Option (Post T)). Fits q (round_of e.world b)) (sym there)
    (subst (λ (s : Round T). Fits (post_of d b) s) (sym here) (kept.fit b below))) in
    record {
      actors = ap length rounds ∙ (length-set d.world.rounds a r ∙ kept.actors);
      posts = ap length posts ∙ (length-set d.posts a p ∙ kept.posts);
      fit = at;
    }

-- the side of a post, from the round of its actor
pub push_side : {T : Type 0} (p : Post T) (x : T) (r : Round T) → PushHas x r → FitsRound p r → IsPushing p
push_side p x round.Idle h f = absurd h
push_side p x (round.Push y) h f = f
push_side p x (round.PushRead t y) h f = f
push_side p x (round.PushFree t y) h f = f
push_side p x (round.PushClaimed t) h f = absurd h
push_side p x round.Pop h f = absurd h
push_side p x (round.PopRead t) h f = absurd h
push_side p x (round.PopReady t) h f = absurd h
push_side p x (round.PopGrabbed t) h f = absurd h
push_side p x (round.PopFronted t) h f = absurd h

pub pop_side : {T : Type 0} (p : Post T) (r : Round T) → PopSeeks r → FitsRound p r → IsPopping p
pop_side p round.Idle h f = absurd h
pop_side p (round.Push y) h f = absurd h
pop_side p (round.PushRead t y) h f = absurd h
pop_side p (round.PushFree t y) h f = absurd h
pop_side p (round.PushClaimed t) h f = absurd h
pop_side p round.Pop h f = f
pop_side p (round.PopRead t) h f = f
pop_side p (round.PopReady t) h f = f
pop_side p (round.PopGrabbed t) h f = absurd h
pop_side p (round.PopFronted t) h f = absurd h

pub fits_push : {T : Type 0} (p : Post T) (x : T) (r : Round T) → PushHas x r → IsPushing p → FitsRound p r
fits_push p x round.Idle h f = absurd h
fits_push p x (round.Push y) h f = f
fits_push p x (round.PushRead t y) h f = f
fits_push p x (round.PushFree t y) h f = f
fits_push p x (round.PushClaimed t) h f = absurd h
fits_push p x round.Pop h f = absurd h
fits_push p x (round.PopRead t) h f = absurd h
fits_push p x (round.PopReady t) h f = absurd h
fits_push p x (round.PopGrabbed t) h f = absurd h
fits_push p x (round.PopFronted t) h f = absurd h

pub fits_pop : {T : Type 0} (p : Post T) (r : Round T) → PopSeeks r → IsPopping p → FitsRound p r
fits_pop p round.Idle h f = absurd h
fits_pop p (round.Push y) h f = absurd h
fits_pop p (round.PushRead t y) h f = absurd h
fits_pop p (round.PushFree t y) h f = absurd h
fits_pop p (round.PushClaimed t) h f = absurd h
fits_pop p round.Pop h f = f
fits_pop p (round.PopRead t) h f = f
fits_pop p (round.PopReady t) h f = f
fits_pop p (round.PopGrabbed t) h f = absurd h
fits_pop p (round.PopFronted t) h f = absurd h

-- what the step says
abbrev pub saying : {T : Type 0} → Round T → Move T → Said T
saying r m = said_of (brought r) m.event

pub push_says : {T : Type 0} (x : T) (r : Round T) (m : Move T) (o : Option (Event T)) → PushHas x r → m.event ≡ o
    → saying r m ≡ said_of (Some x) o
push_says {T} x r m o h e =
    ap (λ (b : Option T). said_of b m.event) (brought_push x r h) ∙ ap (λ (w : Option (Event T)). said_of (Some x) w) e

pub pop_says : {T : Type 0} (r : Round T) (m : Move T) (o : Option (Event T)) → PopSeeks r → m.event ≡ o
    → saying r m ≡ said_of None o
pop_says {T} r m o h e =
    ap (λ (b : Option T). said_of b m.event) (brought_pop r h) ∙ ap (λ (w : Option (Event T)). said_of None w) e

-- where the side does not matter
pub says : {T : Type 0} (r : Round T) (m : Move T) (o : Option (Event T)) → m.event ≡ o → saying r m ≡ said_of (brought r) o
says {T} r m o e = ap (λ (w : Option (Event T)). said_of (brought r) w) e

hand_there : {T : Type 0} (p : Post T) → IsPopping p → IsThere p.hand
hand_there p pops = pops.1

module _ {T : Type 0} (p : Post T) (r : Round T) (m : Move T) where
  -- the post has its value again, wherever the step ends the round
  pub has_value : Kind T r m → FitsRound p r → HasValue p (saying r m)
  has_value (IsIdle e) f = absurd (subst (λ (s : Round T). FitsRound p s) e f)
  has_value (Pushes x h e n less) f = subst (HasValue p) (sym (push_says x r m None h e)) tt
  has_value (Claims x t h e n) f = subst (HasValue p) (sym (push_says x r m (Some (Claim t x)) h e)) tt
  has_value (FindsFull x t h e n) f = subst (HasValue p) (sym (push_says x r m (Some (Full t)) h e)) (x, refl)
  has_value (PushIsBusy x t h e n) f = subst (HasValue p) (sym (push_says x r m (Some (PushBusy t)) h e)) (x, refl)
  has_value (IsSpent x h e n) f = subst (HasValue p) (sym (push_says x r m (Some Spent) h e)) (x, refl)
  has_value (Writes t h e n) f = subst (HasValue p) (sym (says r m (Some (Write t)) e)) tt
  has_value (Pops h e n less) f = subst (HasValue p) (sym (pop_says r m None h e)) tt
  has_value (Grabs t h e n) f = subst (HasValue p) (sym (pop_says r m (Some (Grab t)) h e)) tt
  has_value (FindsFront t h e n) f = subst (HasValue p) (sym (pop_says r m (Some (Front t)) h e)) tt
  has_value (FindsEmpty t h e n) f =
      subst (HasValue p) (sym (says r m (Some (Empty t)) e)) (hand_there p (subst (λ (s : Round T). FitsRound p s) h f))
  has_value (FindsIdle t h e n) f =
      subst (HasValue p) (sym (says r m (Some (Idle t)) e)) (hand_there p (subst (λ (s : Round T). FitsRound p s) h f))
  has_value (PopIsBusy t h e n) f =
      subst (HasValue p) (sym (pop_says r m (Some (PopBusy t)) h e)) (hand_there p (pop_side p r h f))
  has_value (Takes t y h e n) f =
      let pops : IsPopping p = subst (λ (s : Round T). FitsRound p s) h f in
      subst (HasValue p) (sym (says r m (Some (Take t y)) e)) (pops.1, pops.0)

  no_lead : (s : Said T) (next : Result Progress Lost) → saying r m ≡ s → follows p.progress s ≡ Stays
      → follows p.progress (saying r m) ≡ Leads next → ⊥
  no_lead s next e stays leads =
      let bad : Stays ≡ Leads next = sym stays ∙ (ap (follows p.progress) (sym e) ∙ leads) in cc

  -- and then the actor is in no round
  pub led_is_idle : Kind T r m → FitsRound p r → (next : Result Progress Lost)
      → follows p.progress (saying r m) ≡ Leads next → m.round ≡ round.Idle
  led_is_idle (IsIdle e) f next leads = absurd (subst (λ (s : Round T). FitsRound p s) e f)
  led_is_idle (Pushes x h e n less) f next leads = absurd (no_lead said.Nothing next (push_says x r m None h e) refl leads)
  led_is_idle (Claims x t h e n) f next leads =
      absurd (no_lead (said.Claim t) next (push_says x r m (Some (Claim t x)) h e) refl leads)
  led_is_idle (FindsFull x t h e n) f next leads = n
  led_is_idle (PushIsBusy x t h e n) f next leads = n
  led_is_idle (IsSpent x h e n) f next leads = n
  led_is_idle (Writes t h e n) f next leads = n
  led_is_idle (Pops h e n less) f next leads = absurd (no_lead said.Nothing next (pop_says r m None h e) refl leads)
  led_is_idle (Grabs t h e n) f next leads =
      absurd (no_lead (said.Grab t) next (pop_says r m (Some (Grab t)) h e) refl leads)
  led_is_idle (FindsFront t h e n) f next leads =
      absurd (no_lead (said.Front t) next (pop_says r m (Some (Front t)) h e) refl leads)
  led_is_idle (FindsEmpty t h e n) f next leads = n
  led_is_idle (FindsIdle t h e n) f next leads = n
  led_is_idle (PopIsBusy t h e n) f next leads = n
  led_is_idle (Takes t y h e n) f next leads = n

-- the round of an actor that was set
pub round_set : {T : Type 0} (w : Machine T) (rs : List (Round T)) (a : ℕ) (r : Round T) → a < length rs
    → w.rounds ≡ set rs a r → round_of w a ≡ r
round_set {T} w rs a r lt e =
    ap (λ (ss : List (Round T)). get_or ss a round.Idle) e ∙ get_or-set_same rs a r round.Idle lt

-- a post that goes on fits its round
led_fits : {T : Type 0} (g : Progress) (x : T) (s : Side) → s ≡ g.side → IsKept g
    → Fits (Some (record { progress = g; hand = hand_of s (Some x) })) (call_of s (Some x))
led_fits g x Push e kept = (kept, (sym e, refl))
led_fits g x Pop e kept = (kept, (sym e, (x, refl)))

-- what was led to fits, whatever the machine that the step left
pub turn_led_fits : {T : Type 0} (w : Machine T) (a : ℕ) (p : Post T) (c : Counts) (x : T) (next : Result Progress Lost)
    → a < length w.rounds → IfOk next IsKept
    → Fits (turn_to w a p c (Some x) (Leads next)).post (round_of (turn_to w a p c (Some x) (Leads next)).world a)
turn_led_fits {T} w a p c x (Ok g) lt kept =
    subst (λ (s : Round T). Fits (Some (record { progress = g; hand = hand_of g.side (Some x) })) s)
    (sym (get_or-set_same w.rounds a (call_of g.side (Some x)) round.Idle lt)) (led_fits g x g.side refl kept)
turn_led_fits w a p c x (Err l) lt kept = tt

-- the rounds that a turn leaves: those before it, with the actor's
pub turn_rounds : {T : Type 0} (w : Machine T) (a : ℕ) (p : Post T) (c : Counts) (v : Option T) (f : Follows) → a < length w.rounds
    → (turn_to w a p c v f).world.rounds ≡ set w.rounds a (round_of (turn_to w a p c v f).world a)
turn_rounds w a p c v Stays lt = sym (set-get_or w.rounds a round.Idle)
turn_rounds w a p c v (Ends t) lt = sym (set-get_or w.rounds a round.Idle)
turn_rounds {T} w a p c v (Leads (Ok g)) lt =
    ap (λ (u : Round T). set w.rounds a u) (sym (get_or-set_same w.rounds a (call_of g.side v) round.Idle lt))
turn_rounds w a p c v (Leads (Err l)) lt = sym (set-get_or w.rounds a round.Idle)
