-- A whole run of a desk, step by step.
use Rattle.std.proofs.Common.{◌≡◌, ◌≢◌, ℕ, ◌+◌, ◌<◌, ◌==◌, cond, true, false, Option, None, Some, Ok, Err}
use Rattle.std.proofs.Common.{List, [], ◌∷◌, ◌++◌, length, refl, sym, ap, subst, ◌∙◌, arith, get_or, set, get_or-set_other}
use Rattle.std.proofs.Common.{get_or-set_same, length-set}
use Rattle.std.proofs.Common.{append_assoc, append-nil}
use Rattle.std.proofs.lemmas.List.{set-get_or, get_or-replicate, length-replicate}
use Rattle.alog_core.specs.Queue.{Event, start, last}
use Rattle.alog_core.specs.History.{Entry}
use Rattle.alog_core.specs.Run.{LeadsTo, GoesOn, HasItsCell}
use Rattle.alog_core.specs.Staged.{IsStaged, IsReached}
use Rattle.alog_core.specs.World.{Machine, fresh, is_size, round_of, is_idle, next_move, stepped, told}
use Rattle.alog_core.specs.World.{entries_of}
use Rattle.alog_core.specs.declared.TheConstants.{ACTORS}
use Rattle.alog_core.specs.declared.round.Round.{Round}
use Rattle.alog_core.specs.declared.round.Round.TheVariants as round
use Rattle.alog_core.proofs.SharedCells.{on_test}
use Rattle.alog_core.proofs.SharedFronts.{goes_began, goes_step, leads_start}
use Rattle.alog_core.proofs.SharedReached.{reached_began, reached_stepped}
use Rattle.alog_core.proofs.SharedRuns.{has_its_cell}
use Rattle.alog_core.proofs.SharedSizes.{size_facts}
use Rattle.alog_core.proofs.SharedSound.{sound_start}
use Rattle.alog_policy.specs.Progress.{begun}
use Rattle.alog_policy.specs.Desk.{DeskView, fresh_desk, post_of, call_began, post_began, Follows, Stays, Ends, Leads, follows}
use Rattle.alog_policy.specs.Desk.{value_in, with_said, turn_to, turn_of, answer_of, after_step, event_of, call_of}
use Rattle.alog_policy.specs.DeskInside.{Fits, FitsRound, IsKeptDesk}
use Rattle.alog_policy.specs.DeskOutlet.{with_losses}
use Rattle.alog_policy.specs.Runs.{Call, ToPush, ToPop, ToPost, CallMade, called, calls_made}
use Rattle.alog_policy.specs.Runs.{StepMade, overruns_in, Plays, starts, pushes, pops, posts, steps_on, entries_made}
use Rattle.alog_policy.specs.Runs.{events_made, outcome_in, outcomes_made, overruns_made, discards_of, discards_made, no_call}
use Rattle.alog_policy.specs.Runs.{IsBegun, IsUnderWayIn, IsCut, IsRun, RunsAreCut}
use Rattle.alog_policy.specs.Together.{with_losses-add}
use Rattle.alog_policy.specs.declared.counts.Counts.{Counts}
use Rattle.alog_policy.specs.declared.policy.Policy.{Policy}
use Rattle.alog_policy.specs.declared.policy.Outcome.{Outcome}
use Rattle.alog_policy.specs.declared.post.Post.{Post}
use Rattle.alog_policy.specs.declared.progress.Side.{Side}
use Rattle.alog_policy.specs.declared.progress.Side.TheVariants as side
use Rattle.alog_policy.proofs.SharedStepKinds.{Kind}
use Rattle.alog_policy.proofs.Losses.{turn_counts}
use Rattle.alog_policy.proofs.Desks.{kept_set, has_value, round_set}
use Rattle.alog_policy.proofs.Turns.{turn_comes}
use Rattle.alog_policy.proofs.SharedDeskSteps.{post_begins, kept_fresh, kept_after, rounds_after, turn_goes}
use Rattle.alog_policy.proofs.SharedMaking.{idle_is, kind_here}
use Rattle.alog_policy.proofs.Cutting.{plain_cut, post_cut, begins_cut, post_begins_cut, ended_leaves}

-- lists of steps taken from the back
module _ {T : Type 0} (s : StepMade T) where
  entries_made-last : (ss : List (StepMade T))
      → entries_made (ss ++ s ∷ []) ≡ entries_made ss ++ entries_of s.actor tt s.event
  entries_made-last [] = append-nil (entries_of s.actor tt s.event)
  entries_made-last (r ∷ ss) =
      ap (λ (h : List (Entry T (Unit {0}))). entries_of r.actor tt r.event ++ h) (entries_made-last ss)
      ∙ sym (append_assoc (entries_of r.actor tt r.event) (entries_made ss) (entries_of s.actor tt s.event))

  events_made-last : (b : ℕ) (ss : List (StepMade T))
      → events_made b (ss ++ s ∷ []) ≡ events_made b ss ++ cond (s.actor == b) (event_of s.event) []
  events_made-last b [] = append-nil (cond (s.actor == b) (event_of s.event) [])
  events_made-last b (r ∷ ss) =
      ap (λ (h : List (Event T)). cond (r.actor == b) (event_of r.event) [] ++ h) (events_made-last b ss)
      ∙ sym (append_assoc (cond (r.actor == b) (event_of r.event) []) (events_made b ss)
      (cond (s.actor == b) (event_of s.event) []))

  pub outcomes_made-last : (b : ℕ) (ss : List (StepMade T))
      → outcomes_made b (ss ++ s ∷ []) ≡ outcomes_made b ss ++ cond (s.actor == b) (outcome_in s.outcome) []
  outcomes_made-last b [] = append-nil (cond (s.actor == b) (outcome_in s.outcome) [])
  outcomes_made-last b (r ∷ ss) =
      ap (λ (h : List (Outcome T)). cond (r.actor == b) (outcome_in r.outcome) [] ++ h) (outcomes_made-last b ss)
      ∙ sym (append_assoc (cond (r.actor == b) (outcome_in r.outcome) []) (outcomes_made b ss)
      (cond (s.actor == b) (outcome_in s.outcome) []))

  overruns_made-last : (ss : List (StepMade T)) → overruns_made (ss ++ s ∷ []) ≡ overruns_made ss + s.overran
  overruns_made-last [] = omega arith
  overruns_made-last (r ∷ ss) = let more = overruns_made-last ss in omega (arith, more)

  discards_made-last : (ss : List (StepMade T)) → discards_made (ss ++ s ∷ []) ≡ discards_made ss + discards_of s.outcome
  discards_made-last [] = omega arith
  discards_made-last (r ∷ ss) = let more = discards_made-last ss in omega (arith, more)

pub calls_made-last : {T : Type 0} (c : CallMade T) (b : ℕ) (cs : List (CallMade T))
    → calls_made b (cs ++ c ∷ []) ≡ calls_made b cs ++ cond (c.actor == b) (c.call ∷ []) []
calls_made-last c b [] = append-nil (cond (c.actor == b) (c.call ∷ []) [])
calls_made-last {T} c b (d ∷ cs) =
    ap (λ (h : List (Call T)). cond (d.actor == b) (d.call ∷ []) [] ++ h) (calls_made-last c b cs)
    ∙ sym (append_assoc (cond (d.actor == b) (d.call ∷ []) []) (calls_made b cs) (cond (c.actor == b) (c.call ∷ []) []))

-- an actor that did nothing, and the one that did
pub not_mine : {T : Type 0} (a b : ℕ) (xs : List T) → b ≢ a → cond (a == b) xs [] ≡ []
not_mine {T} a b xs other =
    on_test (λ t. cond t xs [] ≡ []) a b (λ e. absurd (other (sym e))) (λ _. refl)

pub mine_is : {T : Type 0} (a b : ℕ) (xs : List T) → b ≡ a → cond (a == b) xs [] ≡ xs
mine_is {T} a b xs same = on_test (λ t. cond t xs [] ≡ xs) a b (λ _. refl) (λ other. absurd (other (sym same)))

-- one more call of an actor, and what it is for another
my_call : {T : Type 0} (a b : ℕ) (c : Call T) (cs : List (CallMade T)) → b ≡ a
    → calls_made b (cs ++ called a c ∷ []) ≡ calls_made b cs ++ c ∷ []
my_call {T} a b c cs same =
    calls_made-last (called a c) b cs
    ∙ ap (λ (ds : List (Call T)). calls_made b cs ++ ds) (mine_is a b (c ∷ []) same)

others_call : {T : Type 0} (a b : ℕ) (c : Call T) (cs : List (CallMade T)) → b ≢ a
    → calls_made b (cs ++ called a c ∷ []) ≡ calls_made b cs
others_call {T} a b c cs other =
    calls_made-last (called a c) b cs
    ∙ (ap (λ (ds : List (Call T)). calls_made b cs ++ ds) (not_mine a b (c ∷ []) other) ∙ append-nil (calls_made b cs))

fits_idle : {T : Type 0} (o : Option (Post T)) (r : Round T) → r ≡ round.Idle → Fits o r → o ≡ None
fits_idle None r e f = refl
fits_idle {T} (Some p) r e f = absurd (subst (λ (s : Round T). FitsRound p s) e f.1)

-- What is known after a run.
record After {T : Type 0} (n f : ℕ) (calls : List (CallMade T)) (steps : List (StepMade T)) (e : DeskView T) : Type 0 where
  pub reached : IsReached e.world
  pub kept : IsKeptDesk e
  pub run : IsRun n f calls steps e

abbrev CutOf : {T : Type 0} → DeskView T → List (CallMade T) → List (StepMade T) → ℕ → Type 0
CutOf e calls steps b =
    IsCut (post_of e b) (round_of e.world b) (calls_made b calls) (events_made b steps) (outcomes_made b steps)

-- an actor whose post and round are as they were
same_cut : {T : Type 0} {o p : Option (Post T)} {r s : Round T} {cs ds : List (Call T)} {es fs : List (Event T)}
    {os us : List (Outcome T)} → p ≡ o → s ≡ r → ds ≡ cs → fs ≡ es → us ≡ os → IsCut o r cs es os → IsCut p s ds fs us
same_cut {T} {o} {r} {s} {cs} {ds} {es} {fs} {us} e f d g h c =
    subst (λ (q : Option (Post T)). IsCut q s ds fs us) (sym e)
    (subst (λ (t : Round T). IsCut o t ds fs us) (sym f)
    (subst (λ (ks : List (Call T)). IsCut o r ks fs us) (sym d)
    (subst (λ (gs : List (Event T)). IsCut o r cs gs us) (sym g)
    (subst (λ (vs : List (Outcome T)). IsCut o r cs es vs) (sym h) c))))

reached_fresh : {T : Type 0} (n f : ℕ) → is_size n ≡ true → f < last → IsReached (fresh {T = T} n f)
reached_fresh {T} n f size below =
    let facts = size_facts n size in
    record {
      small = omega (arith, facts.1);
      sound = sound_start n f;
      issued = omega (arith, below);
      actors = length-replicate ACTORS (let r : Round T = round.Idle in r);
      staged = λ a lt.
          subst (λ (r : Round T). IsStaged n (start f) a r) (sym (get_or-replicate ACTORS a round.Idle round.Idle lt)) tt;
    }

-- a machine to which the same histories lead
leads_still : {T : Type 0} (f : ℕ) (h : List (Entry T (Unit {0}))) (m k : Machine T) → GoesOn {N = Unit {0}} m [] k
    → LeadsTo f h m → LeadsTo f h k
leads_still {T} f h m k goes leads =
    subst (λ (g : List (Entry T (Unit {0}))). LeadsTo f g k) (append-nil h) (goes f h leads)

after_start : {T : Type 0} (n f : ℕ) → is_size n ≡ true → f < last → After {T = T} n f [] [] (fresh_desk n f)
after_start {T} n f size below =
    record {
      reached = reached_fresh n f size below;
      kept = kept_fresh (fresh_desk n f) n f refl;
      run = record {
        places = refl;
        history = leads_start n f;
        actors = λ a lt.
            same_cut {cs = []} {ds = []} {es = []} {fs = []} {os = []} {us = []}
            (get_or-replicate ACTORS a None None lt) (get_or-replicate ACTORS a round.Idle round.Idle lt) refl refl refl
            (record {
              ended = [];
              current = [];
              order = refl;
              whole = [];
              rest = [];
              cut = refl;
              calls = no_call;
              begun = (refl, refl);
            });
        counts = refl;
      };
    }

module _ {T : Type 0} (n f : ℕ) (calls : List (CallMade T)) (steps : List (StepMade T)) (e : DeskView T)
    (after : After n f calls steps e) (a : ℕ) (lt : a < ACTORS) where
  same_posts : e.posts ≡ set e.posts a (post_of e a)
  same_posts = sym (set-get_or e.posts a None)

  -- the cut of an actor, of which this is known
  abbrev cut_with : Option (Post T) → Round T → List (Call T) → ℕ → Type 0
  cut_with o r cs b = IsCut o r cs (events_made b steps) (outcomes_made b steps)

  -- what was told of an actor that is in no call
  idle_cut : (b : ℕ) → b < ACTORS → b ≡ a → round_of e.world a ≡ round.Idle
      → cut_with (post_of e b) round.Idle (calls_made b calls) b
  idle_cut b below same before =
      subst (λ (s : Round T). cut_with (post_of e b) s (calls_made b calls) b) (ap (λ k. round_of e.world k) same ∙ before)
      (after.run.actors b below)

  -- a push or a pop begins
  after_call : (r : Round T) (c : Call T) → is_idle (round_of e.world a) ≡ true → IsStaged e.world.places e.world.queue a r
      → ((t : ℕ) → r ≢ round.PopFronted t) → IsBegun r (c ∷ []) []
      → After n f (calls ++ called a c ∷ []) steps (call_began e a r)
  after_call r c idle staged first begun =
      let new : DeskView T = call_began e a r in
      let more : List (CallMade T) = calls ++ called a c ∷ [] in
      let before : round_of e.world a ≡ round.Idle = idle_is (round_of e.world a) idle in
      let no_post : post_of e a ≡ None = fits_idle (post_of e a) (round_of e.world a) before (after.kept.fit a lt) in
      let in_rounds : a < length e.world.rounds = omega (arith, lt, after.kept.actors) in
      record {
        reached = reached_began e.world a r after.reached lt staged;
        kept = kept_set {e = new} a r (post_of e a) after.kept lt (subst (λ (o : Option (Post T)). Fits o r) (sym no_post) tt) refl
            same_posts;
        run = record {
          places = after.run.places;
          history = leads_still f (entries_made steps) e.world new.world
              (goes_began e.world a r after.kept.actors lt first) after.run.history;
          actors = λ b below.
              on_test (λ _. CutOf new more steps b) b a
              (λ same.
              let none : post_of e b ≡ None = ap (λ k. post_of e k) same ∙ no_post in
              same_cut
              {fs = events_made b steps} {us = outcomes_made b steps} none
              (ap (λ k. round_of new.world k) same ∙ round_set new.world e.world.rounds a r in_rounds refl)
              (my_call a b c calls same) refl refl
              (begins_cut {r = r} c none (idle_cut b below same before) begun))
              (λ other.
              same_cut {p = post_of e b} {fs = events_made b steps} {us = outcomes_made b steps} refl
              (get_or-set_other e.world.rounds a b r round.Idle other) (others_call a b c calls other) refl refl
              (after.run.actors b below));
          counts = after.run.counts;
        };
      }

  -- a post begins
  after_post : (p : Policy) (x : T) → is_idle (round_of e.world a) ≡ true
      → After n f (calls ++ called a (ToPost p x) ∷ []) steps (post_began e a p x)
  after_post p x idle =
      let new : DeskView T = post_began e a p x in
      let c : Call T = ToPost p x in
      let more : List (CallMade T) = calls ++ called a c ∷ [] in
      let before : round_of e.world a ≡ round.Idle = idle_is (round_of e.world a) idle in
      let no_post : post_of e a ≡ None = fits_idle (post_of e a) (round_of e.world a) before (after.kept.fit a lt) in
      let both = post_begins {e = new} {a = a} {p = p} {x = x} after.kept lt refl refl in
      let posting = both.1 in
      record {
        reached = reached_began e.world a (round.Push x) after.reached lt tt;
        kept = both.0;
        run = record {
          places = after.run.places;
          history = leads_still f (entries_made steps) e.world new.world
              (goes_began e.world a (round.Push x) after.kept.actors lt (λ t is. cc)) after.run.history;
          actors = λ b below.
              on_test (λ _. CutOf new more steps b) b a
              (λ same.
              same_cut
              {fs = events_made b steps}
              {us = outcomes_made b steps} (ap (λ k. post_of new k) same ∙ posting.there)
              (ap (λ k. round_of new.world k) same) (my_call a b c calls same) refl refl
              (post_begins_cut {p = posting.post} {r = round_of new.world a} (ap (λ k. post_of e k) same ∙ no_post)
              (idle_cut b below same before) posting.under posting.at posting.so_far))
              (λ other.
              same_cut {fs = events_made b steps} {us = outcomes_made b steps}
              (get_or-set_other e.posts a b (Some (record { progress = begun p; hand = None })) None other)
              (get_or-set_other e.world.rounds a b (round.Push x) round.Idle other) (others_call a b c calls other) refl refl
              (after.run.actors b below));
          counts = after.run.counts;
        };
      }

-- the queue and the rounds that a turn leaves are reached too
turn_reached : {T : Type 0} (w : Machine T) (a : ℕ) (p : Post T) (c : Counts) (v : Option T) (f : Follows) → IsReached w
    → a < ACTORS → IsReached (turn_to w a p c v f).world
turn_reached w a p c v Stays h lt = h
turn_reached w a p c v (Ends t) h lt = h
turn_reached {T} w a p c v (Leads (Ok g)) h lt =
    reached_began w a (call_of g.side v) h lt (call_staged g.side v)
  where
    call_staged : (s : Side) (u : Option T) → IsStaged w.places w.queue a (call_of s u)
    call_staged side.Push None = tt
    call_staged side.Push (Some x) = tt
    call_staged side.Pop u = tt
turn_reached w a p c v (Leads (Err l)) h lt = h

turn_places : {T : Type 0} (w : Machine T) (a : ℕ) (p : Post T) (c : Counts) (v : Option T) (f : Follows)
    → (turn_to w a p c v f).world.places ≡ w.places
turn_places w a p c v Stays = refl
turn_places w a p c v (Ends t) = refl
turn_places w a p c v (Leads (Ok g)) = refl
turn_places w a p c v (Leads (Err l)) = refl

-- one more step's losses
more_losses : {T : Type 0} (c : Counts) (ss : List (StepMade T)) (s : StepMade T) (k : Counts)
    → c ≡ with_losses (record { overrun = 0; discarded = 0 }) (overruns_made ss) (discards_made ss)
    → k ≡ with_losses c s.overran (discards_of s.outcome)
    → k ≡ with_losses (record { overrun = 0; discarded = 0 }) (overruns_made (ss ++ s ∷ [])) (discards_made (ss ++ s ∷ []))
more_losses {T} c ss s k e g =
    let zero_counts : Counts = record { overrun = 0; discarded = 0 } in
    g
    ∙ (ap (λ d. with_losses d s.overran (discards_of s.outcome)) e
    ∙ (with_losses-add zero_counts (overruns_made ss) (discards_made ss) s.overran (discards_of s.outcome)
    ∙ (ap (λ m. with_losses zero_counts m (discards_made ss + discards_of s.outcome)) (sym (overruns_made-last s ss))
    ∙ ap (λ m. with_losses zero_counts (overruns_made (ss ++ s ∷ [])) m) (sym (discards_made-last s ss)))))

module _ {T : Type 0} (n f : ℕ) (calls : List (CallMade T)) (steps : List (StepMade T)) (e : DeskView T)
    (after : After n f calls steps e) (a : ℕ) (lt : a < ACTORS) (busy : round_of e.world a ≢ round.Idle) where
  -- the step, where the actor's post is this
  abbrev made_by : Option (Post T) → StepMade T
  made_by o =
      record {
        actor = a;
        event = (next_move e.world a).event;
        overran = overruns_in o (next_move e.world a).event;
        outcome = (answer_of e a o).outcome;
      }

  cell : HasItsCell e.world a
  cell = has_its_cell e.world a after.reached lt

  in_rounds : a < length e.world.rounds
  in_rounds = omega (arith, lt, after.kept.actors)

  kind : Kind T (round_of e.world a) (next_move e.world a)
  kind = kind_here e.world a cell

  led : (s : StepMade T) → s.actor ≡ a → s.event ≡ (next_move e.world a).event
      → LeadsTo f (entries_made (steps ++ s ∷ [])) (stepped e.world a)
  led s actor event =
      subst (λ (h : List (Entry T (Unit {0}))). LeadsTo f h (stepped e.world a))
      (ap (λ (u : Option (Event T)). entries_made steps ++ entries_of a tt u) (sym event)
      ∙ (ap (λ b. entries_made steps ++ entries_of b tt s.event) (sym actor) ∙ sym (entries_made-last s steps)))
      (goes_step e.world a after.reached lt f (entries_made steps) after.run.history)

  -- the events and outcomes of an actor with one more step
  others_cut : (new : DeskView T) (s : StepMade T) (b : ℕ) → s.actor ≡ a → b ≢ a → post_of new b ≡ post_of e b
      → round_of new.world b ≡ round_of e.world b → CutOf e calls steps b → CutOf new calls (steps ++ s ∷ []) b
  others_cut new s b actor other post here c =
      same_cut
      {ds = calls_made b calls}
      post here refl
      (events_made-last s b steps
      ∙ (ap (λ (xs : List (Event T)). events_made b steps ++ xs)
      (ap (λ k. cond (k == b) (event_of s.event) []) actor ∙ not_mine a b (event_of s.event) other)
      ∙ append-nil (events_made b steps)))
      (outcomes_made-last s b steps
      ∙ (ap (λ (xs : List (Outcome T)). outcomes_made b steps ++ xs)
      (ap (λ k. cond (k == b) (outcome_in s.outcome) []) actor ∙ not_mine a b (outcome_in s.outcome) other)
      ∙ append-nil (outcomes_made b steps)))
      c

  my_cut : (new : DeskView T) (s : StepMade T) {b : ℕ} {o : Option (Post T)} {r : Round T} → s.actor ≡ a → b ≡ a
      → post_of new a ≡ o → round_of new.world a ≡ r
      → IsCut o r (calls_made a calls) (events_made a steps ++ event_of s.event) (outcomes_made a steps ++ outcome_in s.outcome)
      → CutOf new calls (steps ++ s ∷ []) b
  my_cut new s {o} {r} actor same post here c =
      subst (λ k. CutOf new calls (steps ++ s ∷ []) k) (sym same)
      (same_cut {ds = calls_made a calls}
      post here refl
      (events_made-last s a steps
      ∙ ap (λ (xs : List (Event T)). events_made a steps ++ xs)
      (ap (λ k. cond (k == a) (event_of s.event) []) actor ∙ mine_is a a (event_of s.event) refl))
      (outcomes_made-last s a steps
      ∙ ap (λ (xs : List (Outcome T)). outcomes_made a steps ++ xs)
      (ap (λ k. cond (k == a) (outcome_in s.outcome) []) actor ∙ mine_is a a (outcome_in s.outcome) refl))
      c)

  -- a step of a push or of a pop
  after_plain : post_of e a ≡ None → After n f calls (steps ++ made_by None ∷ []) (after_step e a None)
  after_plain no_post =
      let new : DeskView T = after_step e a None in
      let r : Round T = (next_move e.world a).round in
      let posts : e.posts ≡ set e.posts a (post_of e a) = sym (set-get_or e.posts a None) in
      record {
        reached = reached_stepped e.world a after.reached lt;
        kept = kept_set {e = new} a r (post_of e a) after.kept lt (subst (λ (o : Option (Post T)). Fits o r) (sym no_post) tt) refl posts;
        run = record {
          places = after.run.places;
          history = led (made_by None) refl refl;
          actors = λ b below.
              on_test (λ _. CutOf new calls (steps ++ made_by None ∷ []) b) b a
              (λ same.
              let mine : IsCut None (round_of e.world a) (calls_made a calls) (events_made a steps) (outcomes_made a steps) =
              subst
              (λ (o : Option (Post T)). IsCut o (round_of e.world a) (calls_made a calls) (events_made a steps) (outcomes_made a steps))
              no_post (after.run.actors a lt) in
              my_cut new (made_by None) refl same no_post (round_set new.world e.world.rounds a r in_rounds refl)
              (subst
              (λ (os : List (Outcome T)).
              IsCut None r (calls_made a calls) (events_made a steps ++ event_of (next_move e.world a).event) os)
              (sym (append-nil (outcomes_made a steps)))
              (plain_cut (round_of e.world a) (next_move e.world a) (calls_made a calls) (events_made a steps)
              (outcomes_made a steps) busy kind mine)))
              (λ other.
              others_cut new (made_by None) b refl other refl (get_or-set_other e.world.rounds a b r round.Idle other)
              (after.run.actors b below));
          counts = more_losses e.counts steps (made_by None) e.counts after.run.counts refl;
        };
      }

  -- a step of a post
  after_posting : (p : Post T) → post_of e a ≡ Some p → After n f calls (steps ++ made_by (Some p) ∷ [])
      (after_step e a (Some p))
  after_posting p there =
      let new : DeskView T = after_step e a (Some p) in
      let r : Round T = round_of e.world a in
      let m = next_move e.world a in
      let s = told e.world a in
      let w = stepped e.world a in
      let t = turn_of w a p e.counts s in
      let fits : Fits (Some p) r = subst (λ (o : Option (Post T)). Fits o r) there (after.kept.fit a lt) in
      let here : round_of w a ≡ m.round = round_set w e.world.rounds a m.round in_rounds refl in
      let in_left : a < length w.rounds =
      (let same = length-set e.world.rounds a m.round in omega (arith, lt, after.kept.actors, same)) in
      let in_posts : a < length e.posts = omega (arith, lt, after.kept.posts) in
      let kept = kept_after e a p after.kept lt there cell new refl refl in
      let rounds = rounds_after e a p after.kept lt there cell in
      let value = has_value p r m kind fits.1 in
      let d = with_said e.counts s in
      let v = value_in p.hand s in
      record {
        reached = turn_reached w a p d v (follows p.progress s) (reached_stepped e.world a after.reached lt) lt;
        kept = kept;
        run = record {
          places = turn_places w a p d v (follows p.progress s) ∙ after.run.places;
          history = leads_still f (entries_made (steps ++ made_by (Some p) ∷ [])) w new.world
              (turn_goes w a p d v (follows p.progress s) (length-set e.world.rounds a m.round ∙ after.kept.actors) lt)
              (led (made_by (Some p)) refl refl);
          actors = λ b below.
              on_test (λ _. CutOf new calls (steps ++ made_by (Some p) ∷ []) b) b a
              (λ same.
              let mine = after.run.actors a lt in
              let begun = subst (λ (o : Option (Post T)). IsUnderWayIn o r mine.current mine.rest) there mine.begun in
              let came =
              turn_comes w a p e.counts begun.0 mine.rest in_left r m begun.1 here fits.0 begun.2 begun.3 kind in
              my_cut new (made_by (Some p)) refl same
              (get_or-set_same e.posts a t.post None in_posts) refl
              (post_cut {q = p.progress.policy} {x = begun.0} (event_of m.event) mine.rest {o = t.post} mine.order begun.4 mine.cut mine.calls came
              (ended_leaves w a p e.counts r m kind fits.1 here)))
              (λ other.
              others_cut new (made_by (Some p)) b refl other (get_or-set_other e.posts a b t.post None other)
              (ap (λ (rs : List (Round T)). get_or rs b round.Idle) rounds
              ∙ get_or-set_other e.world.rounds a b (round_of t.world a) round.Idle other)
              (after.run.actors b below));
          counts = more_losses e.counts steps (made_by (Some p)) t.counts after.run.counts (turn_counts w a p e.counts r m value);
        };
      }

  after_any : (o : Option (Post T)) → post_of e a ≡ o → After n f calls (steps ++ made_by o ∷ []) (after_step e a o)
  after_any None there = after_plain there
  after_any (Some p) there = after_posting p there

not_idle : {T : Type 0} (r : Round T) → is_idle r ≡ false → r ≢ round.Idle
not_idle {T} r e h = let bad : true ≡ false = sym (ap (λ (s : Round T). is_idle s) h) ∙ e in cc

after_run : {T : Type 0} (n f : ℕ) (calls : List (CallMade T)) (steps : List (StepMade T)) (e : DeskView T) → is_size n ≡ true
    → f < last → Plays (fresh_desk n f) calls steps e → After n f calls steps e
after_run n f calls steps e size below starts = after_start n f size below
after_run n f calls steps e size below (pushes {calls = cs} {steps = ss} {e = d} a x plays lt idle) =
    after_call n f cs ss d (after_run n f cs ss d size below plays) a lt (round.Push x) (ToPush x) idle tt (λ t is. cc)
    (refl, refl)
after_run n f calls steps e size below (pops {calls = cs} {steps = ss} {e = d} a plays lt idle) =
    after_call n f cs ss d (after_run n f cs ss d size below plays) a lt round.Pop ToPop idle tt (λ t is. cc) (refl, refl)
after_run n f calls steps e size below (posts {calls = cs} {steps = ss} {e = d} a p x plays lt idle) =
    after_post n f cs ss d (after_run n f cs ss d size below plays) a lt p x idle
after_run n f calls steps e size below (steps_on {calls = cs} {steps = ss} {e = d} a plays lt busy) =
    after_any n f cs ss d (after_run n f cs ss d size below plays) a lt (not_idle (round_of d.world a) busy) (post_of d a) refl

pub runs_are_cut : (T : Type 0) → RunsAreCut T
runs_are_cut T n f calls steps e size below plays = (after_run n f calls steps e size below plays).run
