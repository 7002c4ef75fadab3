-- How many posts an actor of a desk has begun, and how many have ended.
use Rattle.std.proofs.Common.{◌≡◌, ℕ, ◌+◌, ◌<◌, Option, None, Some, Ok, Err, List, [], ◌∷◌, ◌++◌, length, refl, ap, subst, ◌∙◌, arith, true}
use Rattle.std.proofs.Common.{length-set}
use Rattle.std.proofs.lemmas.List.{length_push, length-replicate}
use Rattle.alog_core.specs.Queue.{Event}
use Rattle.alog_core.specs.World.{Machine, is_size, is_idle, round_of}
use Rattle.alog_core.specs.declared.TheConstants.{ACTORS}
use Rattle.alog_core.specs.declared.round.Round.{Round}
use Rattle.alog_core.specs.declared.round.Round.TheVariants as round
use Rattle.alog_policy.specs.Desk.{DeskView, IsAt, fresh_desk, post_of, after_step, Follows, Stays, Ends, Leads as GoesTo, turn_to}
use Rattle.alog_policy.specs.Runs.{Call, CallMade, ToPush, ToPop, ToPost, StepMade, Plays, starts as plays_start, pushes, pops, posts, steps_on, AreWhole, no_call, and_push, and_pop, and_post, IsBegun, IsCut, calls_made, events_made, outcomes_made}
use Rattle.alog_policy.specs.declared.counts.Counts.{Counts}
use Rattle.alog_policy.specs.declared.policy.Outcome.{Outcome}
use Rattle.alog_policy.specs.declared.post.Post.{Post}
use Rattle.alog_policy.proofs.SharedMaking.{idle_is}
use Rattle.alog_policy.proofs.SharedRunning.{runs_are_cut}
use Rattle.alog_system.specs.Asked.{posts_in}

-- the actors' rounds of a desk stay as many
turn_rounds : {T : Type 0} (m : Machine T) (a : ℕ) (p : Post T) (c : Counts) (v : Option T) (f : Follows)
    → length (turn_to m a p c v f).world.rounds ≡ length m.rounds
turn_rounds m a p c v Stays = refl
turn_rounds m a p c v (Ends t) = refl
turn_rounds m a p c v (GoesTo (Ok g)) = length-set m.rounds a _
turn_rounds m a p c v (GoesTo (Err l)) = refl

step_rounds : {T : Type 0} (d : DeskView T) (a : ℕ) (o : Option (Post T)) → length (after_step d a o).world.rounds ≡ length d.world.rounds
step_rounds d a None = length-set d.world.rounds a _
step_rounds d a (Some p) = turn_rounds _ a p _ _ _ ∙ length-set d.world.rounds a _

pub rounds_stay : {T : Type 0} (n f : ℕ) (calls : List (CallMade T)) (made : List (StepMade T)) (d : DeskView T) → Plays (fresh_desk n f) calls made d
    → length d.world.rounds ≡ ACTORS
rounds_stay {T} n f calls made d plays_start = length-replicate ACTORS (let r : Round T = round.Idle in r)
rounds_stay n f calls made d (pushes {calls = cs} {steps = ss} {e = e} a x plays lt idle) =
    length-set e.world.rounds a _ ∙ rounds_stay n f cs ss e plays
rounds_stay n f calls made d (pops {calls = cs} {steps = ss} {e = e} a plays lt idle) =
    length-set e.world.rounds a _ ∙ rounds_stay n f cs ss e plays
rounds_stay n f calls made d (posts {calls = cs} {steps = ss} {e = e} a p x plays lt idle) =
    length-set e.world.rounds a _ ∙ rounds_stay n f cs ss e plays
rounds_stay n f calls made d (steps_on {calls = cs} {steps = ss} {e = e} a plays lt busy) =
    step_rounds e a (post_of e a) ∙ rounds_stay n f cs ss e plays

module _ {T : Type 0} where
  pub posts_append : (xs ys : List (Call T)) → posts_in (xs ++ ys) ≡ posts_in xs + posts_in ys
  posts_append [] ys = omega arith
  posts_append (ToPush x ∷ xs) ys = posts_append xs ys
  posts_append (ToPop ∷ xs) ys = posts_append xs ys
  posts_append (ToPost p x ∷ xs) ys = let more = posts_append xs ys in omega (arith, more)

  whole_posts : (cs : List (Call T)) (es : List (Event T)) (os : List (Outcome T)) → AreWhole cs es os → length os ≡ posts_in cs
  whole_posts cs es os no_call = refl
  whole_posts cs es os (and_push {cs = ds} {es = fs} {os = us} x made whole is) =
      let h = whole_posts ds fs us whole in
      let more : posts_in (ds ++ ToPush x ∷ []) ≡ posts_in ds + 0 = posts_append ds (ToPush x ∷ []) in
      omega (arith, h, more)
  whole_posts cs es os (and_pop {cs = ds} {es = fs} {os = us} made whole is) =
      let h = whole_posts ds fs us whole in
      let more : posts_in (ds ++ ToPop ∷ []) ≡ posts_in ds + 0 = posts_append ds (ToPop ∷ []) in
      omega (arith, h, more)
  whole_posts cs es os (and_post {cs = ds} {es = fs} {os = us} p x made o whole is) =
      let h = whole_posts ds fs us whole in
      let more : posts_in (ds ++ ToPost p x ∷ []) ≡ posts_in ds + 1 = posts_append ds (ToPost p x ∷ []) in
      let ended = length_push us o in
      omega (arith, h, more, ended)

  begun_posts : (r : Round T) (cs : List (Call T)) (es : List (Event T)) → IsBegun r cs es → posts_in cs ≡ 0
  begun_posts round.Idle cs es h = ap posts_in h.0
  begun_posts (round.Push y) cs es h = ap posts_in h.0
  begun_posts (round.PushRead t y) cs es h = ap posts_in h.0
  begun_posts (round.PushFree t y) cs es h = ap posts_in h.0
  begun_posts (round.PushClaimed t) cs es h = ap posts_in h.1
  begun_posts round.Pop cs es h = ap posts_in h.0
  begun_posts (round.PopRead t) cs es h = ap posts_in h.0
  begun_posts (round.PopReady t) cs es h = ap posts_in h.0
  begun_posts (round.PopGrabbed t) cs es h = ap posts_in h.0
  begun_posts (round.PopFronted t) cs es h = ap posts_in h.0

  -- an actor has as many outcomes as posts, but for the one that it is in
  abbrev pub Ahead : Option (Post T) → ℕ → ℕ → Type 0
  Ahead None many ended = many ≡ ended
  Ahead (Some p) many ended = many ≡ ended + 1

  ahead : (o : Option (Post T)) (r : Round T) (cs : List (Call T)) (es : List (Event T)) (os : List (Outcome T)) → IsCut o r cs es os
      → Ahead o (posts_in cs) (length os)
  ahead None r cs es os h =
      let whole = whole_posts h.ended h.whole os h.calls in
      let current = begun_posts r h.current h.rest h.begun in
      let all : posts_in cs ≡ posts_in h.ended + posts_in h.current = ap posts_in h.order ∙ posts_append h.ended h.current in
      omega (arith, whole, current, all)
  ahead (Some p) r cs es os h =
      let whole = whole_posts h.ended h.whole os h.calls in
      let current : posts_in h.current ≡ 1 = ap posts_in h.begun.4 in
      let all : posts_in cs ≡ posts_in h.ended + posts_in h.current = ap posts_in h.order ∙ posts_append h.ended h.current in
      omega (arith, whole, current, all)

  some_by : (o : Option (Post T)) (many ended : ℕ) → Ahead o many ended → many ≡ ended + 1 → (p : Post T) × (o ≡ Some p)
  some_by None many ended h e = absurd (omega (arith, h, e))
  some_by (Some p) many ended h e = (p, refl)

  none_idle : (o : Option (Post T)) (r : Round T) (cs : List (Call T)) (es : List (Event T)) (os : List (Outcome T)) → r ≡ round.Idle
      → IsCut o r cs es os → o ≡ None
  none_idle None r cs es os is h = refl
  none_idle (Some p) r cs es os is h =
      absurd (subst (λ (s : Round T). IsAt h.begun.0 p.hand p.progress.side s h.begun.1) is h.begun.2)

  -- What is known of an actor of a desk that these calls and steps lead to.
  module _ (n : ℕ) (size : is_size n ≡ true) (calls : List (CallMade T)) (steps : List (StepMade T)) (d : DeskView T)
      (plays : Plays (fresh_desk n 0) calls steps d) (a : ℕ) (lt : a < ACTORS) where
    cut : IsCut (post_of d a) (round_of d.world a) (calls_made a calls) (events_made a steps) (outcomes_made a steps)
    cut = (runs_are_cut T n 0 calls steps d size (omega arith) plays).actors a lt

    pub ahead_of : (o : Option (Post T)) → post_of d a ≡ o → Ahead o (posts_in (calls_made a calls)) (length (outcomes_made a steps))
    ahead_of o is =
        subst (λ (p : Option (Post T)). Ahead p (posts_in (calls_made a calls)) (length (outcomes_made a steps))) is
        (ahead (post_of d a) (round_of d.world a) (calls_made a calls) (events_made a steps) (outcomes_made a steps) cut)

    pub none_where_idle : is_idle (round_of d.world a) ≡ true → post_of d a ≡ None
    none_where_idle idle =
        none_idle (post_of d a) (round_of d.world a) (calls_made a calls) (events_made a steps) (outcomes_made a steps)
        (idle_is (round_of d.world a) idle) cut

    pub some_where_ahead : posts_in (calls_made a calls) ≡ length (outcomes_made a steps) + 1 → (p : Post T) × (post_of d a ≡ Some p)
    some_where_ahead more = some_by (post_of d a) (posts_in (calls_made a calls)) (length (outcomes_made a steps)) (ahead_of (post_of d a) refl) more
