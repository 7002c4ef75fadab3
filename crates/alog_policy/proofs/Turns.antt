-- What a post is after a step of it: by the definition the beginning of a post, or a whole one.
use Rattle.std.proofs.Common.{◌≡◌, ℕ, ◌<◌, Option, None, Some, Result, Ok, Err, List, [], ◌∷◌, ◌++◌, length}
use Rattle.std.proofs.Common.{refl, sym, subst, ◌∙◌, get_or-set_same, append-nil}
use Rattle.std.specs.Prelude.{IfOk}
use Rattle.alog_core.specs.Queue.{Event, Claim, Write, Grab, Take, Full, Front, Empty, Idle, PushBusy, PopBusy, Spent}
use Rattle.alog_core.specs.Round.{Move}
use Rattle.alog_core.specs.World.{Machine, round_of}
use Rattle.alog_core.specs.declared.round.Round.{Round}
use Rattle.alog_core.specs.declared.round.Round.TheVariants as round
use Rattle.alog_core.specs.declared.said.Said.{Said}
use Rattle.alog_core.specs.declared.said.Said.TheVariants as said
use Rattle.alog_policy.specs.Post.{IsPost, Part, Pushing, Claimed, Popping, Grabbed, Fronted, PushBeaten, PopBeaten, Wrote}
use Rattle.alog_policy.specs.Post.{OutOfTickets, NothingToTake, AllGrabbed}
use Rattle.alog_policy.specs.Post as post
use Rattle.alog_policy.specs.Progress.{IsKept, IsFresh, IsSoFar, Agrees, again, after_full, after_take}
use Rattle.alog_policy.specs.Desk.{Leads, call_of, hand_of, Turn, turn_to, turn_of, with_said, event_of, IsAt}
use Rattle.alog_policy.specs.DeskInside.{IsPopping, FitsRound, Fits}
use Rattle.alog_policy.specs.declared.counts.Counts.{Counts}
use Rattle.alog_policy.specs.declared.policy.Policy.{Policy}
use Rattle.alog_policy.specs.declared.policy.Why.TheVariants as why
use Rattle.alog_policy.specs.declared.policy.Outcome.{Outcome}
use Rattle.alog_policy.specs.declared.post.Post.{Post}
use Rattle.alog_policy.specs.declared.progress.Side.{Side}
use Rattle.alog_policy.specs.declared.progress.Side.TheVariants.{Push, Pop}
use Rattle.alog_policy.specs.declared.progress.Progress.{Progress}
use Rattle.alog_policy.specs.declared.progress.Lost.{Lost}
use Rattle.alog_policy.proofs.Posts.{part_agrees, end_agrees, again_agrees, take_agrees, full_agrees}
use Rattle.alog_policy.proofs.Keeping.{kept_again, kept_full, kept_take}
use Rattle.alog_policy.proofs.SharedStepKinds.{PushHas, PopSeeks, Kind, IsIdle, Pushes, Claims, FindsFull, PushIsBusy, IsSpent, Writes}
use Rattle.alog_policy.proofs.SharedStepKinds.{Pops, Grabs, FindsFront, FindsEmpty, FindsIdle, PopIsBusy, Takes}
use Rattle.alog_policy.proofs.Desks.{push_side, pop_side, fits_push, fits_pop, saying, push_says, pop_says, says, turn_led_fits}

-- The post of an actor fits its round after the step too.
module _ {T : Type 0} (w : Machine T) (a : ℕ) (p : Post T) (c : Counts) (r : Round T) (m : Move T) (kept : IsKept p.progress)
    (lt : a < length w.rounds) (here : round_of w a ≡ m.round) where
  abbrev FitsAfter : Said T → Type 0
  FitsAfter s = Fits (turn_of w a p c s).post (round_of (turn_of w a p c s).world a)

  stays_fit : FitsRound p m.round → Fits (Some p) (round_of w a)
  stays_fit f = (kept, subst (λ (s : Round T). FitsRound p s) (sym here) f)

  -- the value in hand
  led_in_hand : (d : Counts) (next : Result Progress Lost) → IsPopping p → IfOk next IsKept
      → Fits (turn_to w a p d p.hand (Leads next)).post (round_of (turn_to w a p d p.hand (Leads next)).world a)
  led_in_hand d next pops keeps =
      subst
      (λ (v : Option T). Fits (turn_to w a p d v (Leads next)).post (round_of (turn_to w a p d v (Leads next)).world a))
      (sym pops.1.1) (turn_led_fits w a p d pops.1.0 next lt keeps)

  pub turn_fits : Kind T r m → FitsRound p r → FitsAfter (saying r m)
  turn_fits (IsIdle e) f = absurd (subst (λ (s : Round T). FitsRound p s) e f)
  turn_fits (Pushes x h e n less) f =
      subst FitsAfter (sym (push_says x r m None h e)) (stays_fit (fits_push p x m.round n (push_side p x r h f)))
  turn_fits (Claims x t h e n) f =
      subst FitsAfter (sym (push_says x r m (Some (Claim t x)) h e))
      (stays_fit (subst (λ (s : Round T). FitsRound p s) (sym n) (push_side p x r h f)))
  turn_fits (FindsFull x t h e n) f =
      subst FitsAfter (sym (push_says x r m (Some (Full t)) h e))
      (turn_led_fits w a p c x (after_full p.progress) lt (kept_full p.progress kept))
  turn_fits (PushIsBusy x t h e n) f =
      subst FitsAfter (sym (push_says x r m (Some (PushBusy t)) h e))
      (turn_led_fits w a p c x (again p.progress) lt (kept_again p.progress kept))
  turn_fits (IsSpent x h e n) f = subst FitsAfter (sym (push_says x r m (Some Spent) h e)) tt
  turn_fits (Writes t h e n) f = subst FitsAfter (sym (says r m (Some (Write t)) e)) tt
  turn_fits (Pops h e n less) f =
      subst FitsAfter (sym (pop_says r m None h e)) (stays_fit (fits_pop p m.round n (pop_side p r h f)))
  turn_fits (Grabs t h e n) f =
      subst FitsAfter (sym (pop_says r m (Some (Grab t)) h e))
      (stays_fit (subst (λ (s : Round T). FitsRound p s) (sym n) (pop_side p r h f)))
  turn_fits (FindsFront t h e n) f =
      subst FitsAfter (sym (pop_says r m (Some (Front t)) h e))
      (stays_fit (subst (λ (s : Round T). FitsRound p s) (sym n) (pop_side p r h f)))
  turn_fits (FindsEmpty t h e n) f = subst FitsAfter (sym (says r m (Some (Empty t)) e)) tt
  turn_fits (FindsIdle t h e n) f = subst FitsAfter (sym (says r m (Some (Idle t)) e)) tt
  turn_fits (PopIsBusy t h e n) f =
      subst FitsAfter (sym (pop_says r m (Some (PopBusy t)) h e))
      (led_in_hand c (again p.progress) (pop_side p r h f) (kept_again p.progress kept))
  turn_fits (Takes t y h e n) f =
      let pops : IsPopping p = subst (λ (s : Round T). FitsRound p s) h f in
      subst FitsAfter (sym (says r m (Some (Take t y)) e))
      (led_in_hand (with_said c (said.Take t y)) (after_take p.progress) pops (kept_take p.progress kept pops.0))

-- where a post stands that pushes, and one that pops
at_push : {T : Type 0} (x y : T) (h : Option T) (s : Side) (r : Round T) (b : Part) → PushHas y r → IsAt x h s r b
    → (s ≡ Push) × (h ≡ None) × (y ≡ x) × (b ≡ Pushing)
at_push x y h s round.Idle b has at = absurd has
at_push x y h s (round.Push z) b has at = (at.0, at.1, sym has ∙ at.2, at.3)
at_push x y h s (round.PushRead t z) b has at = (at.0, at.1, sym has ∙ at.2, at.3)
at_push x y h s (round.PushFree t z) b has at = (at.0, at.1, sym has ∙ at.2, at.3)
at_push x y h s (round.PushClaimed t) b has at = absurd has
at_push x y h s round.Pop b has at = absurd has
at_push x y h s (round.PopRead t) b has at = absurd has
at_push x y h s (round.PopReady t) b has at = absurd has
at_push x y h s (round.PopGrabbed t) b has at = absurd has
at_push x y h s (round.PopFronted t) b has at = absurd has

at_pop : {T : Type 0} (x : T) (h : Option T) (s : Side) (r : Round T) (b : Part) → PopSeeks r → IsAt x h s r b
    → (s ≡ Pop) × (h ≡ Some x) × ((f : ℕ) × (b ≡ Popping f))
at_pop x h s round.Idle b has at = absurd has
at_pop x h s (round.Push z) b has at = absurd has
at_pop x h s (round.PushRead t z) b has at = absurd has
at_pop x h s (round.PushFree t z) b has at = absurd has
at_pop x h s (round.PushClaimed t) b has at = absurd has
at_pop x h s round.Pop b has at = at
at_pop x h s (round.PopRead t) b has at = at
at_pop x h s (round.PopReady t) b has at = at
at_pop x h s (round.PopGrabbed t) b has at = absurd has
at_pop x h s (round.PopFronted t) b has at = absurd has

push_at : {T : Type 0} (x : T) {h : Option T} {s : Side} (r : Round T) {b : Part} → PushHas x r → s ≡ Push → h ≡ None
    → b ≡ Pushing → IsAt x h s r b
push_at x round.Idle has side none part = absurd has
push_at x (round.Push z) has side none part = (side, none, has, part)
push_at x (round.PushRead t z) has side none part = (side, none, has, part)
push_at x (round.PushFree t z) has side none part = (side, none, has, part)
push_at x (round.PushClaimed t) has side none part = absurd has
push_at x round.Pop has side none part = absurd has
push_at x (round.PopRead t) has side none part = absurd has
push_at x (round.PopReady t) has side none part = absurd has
push_at x (round.PopGrabbed t) has side none part = absurd has
push_at x (round.PopFronted t) has side none part = absurd has

pop_at : {T : Type 0} (x : T) (h : Option T) (s : Side) (r : Round T) (b : Part) → PopSeeks r
    → (s ≡ Pop) × (h ≡ Some x) × ((f : ℕ) × (b ≡ Popping f)) → IsAt x h s r b
pop_at x h s round.Idle b has at = absurd has
pop_at x h s (round.Push z) b has at = absurd has
pop_at x h s (round.PushRead t z) b has at = absurd has
pop_at x h s (round.PushFree t z) b has at = absurd has
pop_at x h s (round.PushClaimed t) b has at = absurd has
pop_at x h s round.Pop b has at = at
pop_at x h s (round.PopRead t) b has at = at
pop_at x h s (round.PopReady t) b has at = at
pop_at x h s (round.PopGrabbed t) b has at = absurd has
pop_at x h s (round.PopFronted t) b has at = absurd has

-- after these events the post is under way, or has ended with its outcome
pub record StandsAt {T : Type 0} (q : Policy) (x : T) (es : List (Event T)) (o : Option (Post T)) (r : Round T) : Type 0 where
  pub post : Post T
  pub there : o ≡ Some post
  pub under : post.progress.policy ≡ q
  pub part : Part
  pub at : IsAt x post.hand post.progress.side r part
  pub so_far : IsSoFar post.progress x part es

abbrev pub CameTo : {T : Type 0} → Policy → T → List (Event T) → Option (Post T) → Round T → Option (Outcome T) → Type 0
CameTo q x es o r None = StandsAt q x es o r
CameTo q x es o r (Some out) = IsPost q x x es out × (o ≡ None)

-- a fresh part of a round is where the next call begins
fresh_at : {T : Type 0} (x : T) (s : Side) (b : Part) → IsFresh s b → IsAt x (hand_of s (Some x)) s (call_of s (Some x)) b
fresh_at x Push b e = (refl, refl, refl, e)
fresh_at x Pop b e = (refl, refl, e)

module _ {T : Type 0} (w : Machine T) (a : ℕ) (p : Post T) (c : Counts) (x : T) (es : List (Event T))
    (lt : a < length w.rounds) where
  abbrev Comes : Turn T → List (Event T) → Type 0
  Comes t fs = CameTo p.progress.policy x fs t.post (round_of t.world a) t.outcome

  led_comes : (d : Counts) (next : Result Progress Lost) (fs : List (Event T)) → Agrees p.progress.policy x x fs next
      → Comes (turn_to w a p d (Some x) (Leads next)) fs
  led_comes d (Ok g) fs agrees =
      let s = g.side in
      let now : Post T = record { progress = g; hand = hand_of s (Some x) } in
      record {
        post = now;
        there = refl;
        under = agrees.0;
        part = agrees.1.0;
        at = subst (λ (u : Round T). IsAt x (hand_of s (Some x)) s u agrees.1.0)
            (sym (get_or-set_same w.rounds a (call_of s (Some x)) round.Idle lt)) (fresh_at x s agrees.1.0 agrees.1.1);
        so_far = agrees.1.2;
      }
  led_comes d (Err l) fs agrees = (agrees, refl)

  led_hand_comes : (d : Counts) (next : Result Progress Lost) (fs : List (Event T)) → p.hand ≡ Some x
      → Agrees p.progress.policy x x fs next → Comes (turn_to w a p d p.hand (Leads next)) fs
  led_hand_comes d next fs hand agrees =
      subst (λ (v : Option T). Comes (turn_to w a p d v (Leads next)) fs) (sym hand) (led_comes d next fs agrees)

  module _ (r : Round T) (m : Move T) (b : Part) (here : round_of w a ≡ m.round) (kept : IsKept p.progress)
      (at : IsAt x p.hand p.progress.side r b) (way : IsSoFar p.progress x b es) where
    -- the turn of this saying, after the events with those of the step
    abbrev After : Said T → Option (Event T) → Type 0
    After s o = Comes (turn_of w a p c s) (es ++ event_of o)

    told_after : (s : Said T) (o : Option (Event T)) → saying r m ≡ s → m.event ≡ o → After s o → After (saying r m) m.event
    told_after s o e f h =
        subst (λ (t : Said T). After t m.event) (sym e) (subst (λ (u : Option (Event T)). After s u) (sym f) h)

    way_at : (d : Part) → b ≡ d → IsSoFar p.progress x d es
    way_at d e = subst (λ (k : Part). IsSoFar p.progress x k es) e way

    stays_at : (d : Part) (fs : List (Event T)) → IsAt x p.hand p.progress.side m.round d → IsSoFar p.progress x d fs
        → StandsAt p.progress.policy x fs (Some p) (round_of w a)
    stays_at d fs stands so_far =
        record {
          post = p;
          there = refl;
          under = refl;
          part = d;
          at = subst (λ (u : Round T). IsAt x p.hand p.progress.side u d) (sym here) stands;
          so_far = so_far;
        }

    same_events : IsSoFar p.progress x b (es ++ [])
    same_events = subst (λ (fs : List (Event T)). IsSoFar p.progress x b fs) (sym (append-nil es)) way

    pushes : (y : T) → PushHas y r → PushHas y m.round → After said.Nothing None
    pushes y h n =
        let k = at_push x y p.hand p.progress.side r b h at in
        stays_at b (es ++ [])
        (push_at x m.round (subst (λ (z : T). PushHas z m.round) k.2 n) k.0 k.1 k.3) same_events

    claims : (y : T) (t : ℕ) → PushHas y r → m.round ≡ round.PushClaimed t → After (said.Claim t) (Some (Claim t y))
    claims y t h n =
        let k = at_push x y p.hand p.progress.side r b h at in
        subst (λ (z : T). After (said.Claim t) (Some (Claim t z))) (sym k.2)
        (stays_at (Claimed t) (es ++ Claim t x ∷ [])
        (subst (λ (u : Round T). IsAt x p.hand p.progress.side u (Claimed t)) (sym n) (k.0, k.1, refl))
        (part_agrees p.progress.policy x p.progress.rounds p.progress.overran Pushing es (Claim t x ∷ []) (way_at Pushing k.3)
        (Claimed t) tt refl refl))

    finds_full : (y : T) (t : ℕ) → PushHas y r → After (said.Full t (Some y)) (Some (Full t))
    finds_full y t h =
        let k = at_push x y p.hand p.progress.side r b h at in
        subst (λ (z : T). After (said.Full t (Some z)) (Some (Full t))) (sym k.2)
        (led_comes c (after_full p.progress) (es ++ Full t ∷ []) (full_agrees p.progress x x es t (way_at Pushing k.3)))

    push_is_busy : (y : T) (t : ℕ) → PushHas y r → After (said.Busy t (Some y)) (Some (PushBusy t))
    push_is_busy y t h =
        let k = at_push x y p.hand p.progress.side r b h at in
        subst (λ (z : T). After (said.Busy t (Some z)) (Some (PushBusy t))) (sym k.2)
        (led_comes c (again p.progress) (es ++ PushBusy t ∷ [])
        (again_agrees p.progress x (PushBusy t ∷ []) (PushBeaten t) (way_at Pushing k.3) tt refl refl))

    is_spent : (y : T) → PushHas y r → After (said.Spent (Some y)) (Some Spent)
    is_spent y h =
        let k = at_push x y p.hand p.progress.side r b h at in
        subst (λ (z : T). After (said.Spent (Some z)) (Some Spent)) (sym k.2) (
          end_agrees p.progress.policy x p.progress.rounds p.progress.overran Pushing es (Spent ∷ []) (way_at Pushing k.3) x
              OutOfTickets kept.within refl refl,
          refl,
        )

    writes : (t : ℕ) → r ≡ round.PushClaimed t → After (said.Write t) (Some (Write t))
    writes t h =
        let k = subst (λ (u : Round T). IsAt x p.hand p.progress.side u b) h at in (
          end_agrees p.progress.policy x p.progress.rounds p.progress.overran (Claimed t) es (Write t ∷ []) (way_at (Claimed t) k.2)
              x (Wrote t) kept.within refl refl,
          refl,
        )

    pops : PopSeeks r → PopSeeks m.round → After said.Nothing None
    pops h n =
        stays_at b (es ++ [])
        (pop_at x p.hand p.progress.side m.round b n (at_pop x p.hand p.progress.side r b h at)) same_events

    grabs : (t : ℕ) → PopSeeks r → m.round ≡ round.PopGrabbed t → After (said.Grab t) (Some (Grab t))
    grabs t h n =
        let k = at_pop x p.hand p.progress.side r b h at in
        let f = k.2.0 in
        stays_at (Grabbed f t) (es ++ Grab t ∷ [])
        (subst (λ (u : Round T). IsAt x p.hand p.progress.side u (Grabbed f t)) (sym n) (k.0, k.1, (f, refl)))
        (part_agrees p.progress.policy x p.progress.rounds p.progress.overran (Popping f) es (Grab t ∷ [])
        (way_at (Popping f) k.2.1) (Grabbed f t) (kept.pops k.0) refl refl)

    finds_front : (t : ℕ) → PopSeeks r → m.round ≡ round.PopFronted t → After (said.Front t) (Some (Front t))
    finds_front t h n =
        let k = at_pop x p.hand p.progress.side r b h at in
        let f = k.2.0 in
        stays_at (Fronted f t) (es ++ Front t ∷ [])
        (subst (λ (u : Round T). IsAt x p.hand p.progress.side u (Fronted f t)) (sym n) (k.0, k.1, (f, refl)))
        (part_agrees p.progress.policy x p.progress.rounds p.progress.overran (Popping f) es (Front t ∷ [])
        (way_at (Popping f) k.2.1) (Fronted f t) (kept.pops k.0) refl refl)

    finds_empty : (t : ℕ) → r ≡ round.PopFronted t → After (said.Empty t) (Some (Empty t))
    finds_empty t h =
        let k = subst (λ (u : Round T). IsAt x p.hand p.progress.side u b) h at in
        let f = k.2.0 in
        led_hand_comes c (Err (record { why = why.Stalled; overran = p.progress.overran })) (es ++ Empty t ∷ []) k.1
        (end_agrees p.progress.policy x p.progress.rounds p.progress.overran (Fronted f t) es (Empty t ∷ [])
        (way_at (Fronted f t) k.2.1) x (NothingToTake f t) (kept.within, kept.pops k.0) refl refl)

    finds_idle : (t : ℕ) → r ≡ round.PopFronted t → After (said.Idle t) (Some (Idle t))
    finds_idle t h =
        let k = subst (λ (u : Round T). IsAt x p.hand p.progress.side u b) h at in
        let f = k.2.0 in
        led_hand_comes c (Err (record { why = why.Stalled; overran = p.progress.overran })) (es ++ Idle t ∷ []) k.1
        (end_agrees p.progress.policy x p.progress.rounds p.progress.overran (Fronted f t) es (Idle t ∷ [])
        (way_at (Fronted f t) k.2.1) x (AllGrabbed f t) (kept.within, kept.pops k.0) refl refl)

    pop_is_busy : (t : ℕ) → PopSeeks r → After (said.Busy t None) (Some (PopBusy t))
    pop_is_busy t h =
        let k = at_pop x p.hand p.progress.side r b h at in
        let f = k.2.0 in
        led_hand_comes c (again p.progress) (es ++ PopBusy t ∷ []) k.1
        (again_agrees p.progress x (PopBusy t ∷ []) (PopBeaten f t) (way_at (Popping f) k.2.1) (kept.pops k.0) refl refl)

    takes : (t : ℕ) (y : T) → r ≡ round.PopGrabbed t → After (said.Take t y) (Some (Take t y))
    takes t y h =
        let k = subst (λ (u : Round T). IsAt x p.hand p.progress.side u b) h at in
        let f = k.2.0 in
        led_hand_comes (with_said c (said.Take t y)) (after_take p.progress) (es ++ Take t y ∷ []) k.1
        (take_agrees p.progress x (Take t y ∷ []) (post.Overran f t y) (way_at (Grabbed f t) k.2.1) (kept.pops k.0) refl refl)

    -- whatever kind of step it was
    pub turn_comes : Kind T r m → After (saying r m) m.event
    turn_comes (IsIdle e) = absurd (subst (λ (u : Round T). IsAt x p.hand p.progress.side u b) e at)
    turn_comes (Pushes y h e n less) = told_after said.Nothing None (push_says y r m None h e) e (pushes y h n)
    turn_comes (Claims y t h e n) =
        told_after (said.Claim t) (Some (Claim t y)) (push_says y r m (Some (Claim t y)) h e) e (claims y t h n)
    turn_comes (FindsFull y t h e n) =
        told_after (said.Full t (Some y)) (Some (Full t)) (push_says y r m (Some (Full t)) h e) e (finds_full y t h)
    turn_comes (PushIsBusy y t h e n) =
        told_after (said.Busy t (Some y)) (Some (PushBusy t)) (push_says y r m (Some (PushBusy t)) h e) e (push_is_busy y t h)
    turn_comes (IsSpent y h e n) =
        told_after (said.Spent (Some y)) (Some Spent) (push_says y r m (Some Spent) h e) e (is_spent y h)
    turn_comes (Writes t h e n) = told_after (said.Write t) (Some (Write t)) (says r m (Some (Write t)) e) e (writes t h)
    turn_comes (Pops h e n less) = told_after said.Nothing None (pop_says r m None h e) e (pops h n)
    turn_comes (Grabs t h e n) =
        told_after (said.Grab t) (Some (Grab t)) (pop_says r m (Some (Grab t)) h e) e (grabs t h n)
    turn_comes (FindsFront t h e n) =
        told_after (said.Front t) (Some (Front t)) (pop_says r m (Some (Front t)) h e) e (finds_front t h n)
    turn_comes (FindsEmpty t h e n) =
        told_after (said.Empty t) (Some (Empty t)) (says r m (Some (Empty t)) e) e (finds_empty t h)
    turn_comes (FindsIdle t h e n) =
        told_after (said.Idle t) (Some (Idle t)) (says r m (Some (Idle t)) e) e (finds_idle t h)
    turn_comes (PopIsBusy t h e n) =
        told_after (said.Busy t None) (Some (PopBusy t)) (pop_says r m (Some (PopBusy t)) h e) e (pop_is_busy t h)
    turn_comes (Takes t y h e n) =
        told_after (said.Take t y) (Some (Take t y)) (says r m (Some (Take t y)) e) e (takes t y h)
