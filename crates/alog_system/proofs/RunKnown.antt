-- What is known of the calls and the turns of a system's actors after a run.
use Rattle.std.proofs.Common.{◌≡◌, ◌≢◌, ℕ, zero, suc, ◌+◌, ◌<◌, ◌==◌, Bool, true, false, cond, Option, None, Some, List, [], ◌∷◌, ◌++◌, length, drop, refl, sym, ap, subst, ◌∙◌, arith}
use Rattle.std.proofs.Common.{append-nil}
use Rattle.std.proofs.lemmas.Bool.{ltb-false}
use Rattle.std.proofs.lemmas.List.{length-replicate, get_or-replicate, drop_all}
use Rattle.std.specs.Prelude.{◌&&◌, not, slice_get, unwrap_or}
use Rattle.alog_core.specs.World.{is_size, is_idle, round_of}
use Rattle.alog_core.specs.declared.TheConstants.{ACTORS}
use Rattle.alog_core.specs.declared.round.Round.{Round}
use Rattle.alog_core.specs.declared.round.Round.TheVariants as round
use Rattle.alog_core.proofs.SharedCells.{on_test}
use Rattle.alog_msg.specs.declared.item.Item.{Item}
use Rattle.alog_msg.specs.declared.item.Item.TheVariants.{Text, Flush}
use Rattle.alog_msg.specs.declared.level.Level.{Level}
use Rattle.alog_msg.specs.declared.level.Level.TheVariants.{Off}
use Rattle.alog_msg.specs.declared.message.Message.{Message}
use Rattle.alog_policy.specs.Desk.{fresh_desk, post_of}
use Rattle.alog_policy.specs.Runs.{Call, CallMade, ToPost, StepMade, Plays, starts as plays_start, calls_made, step_of}
use Rattle.alog_policy.specs.declared.policy.Policy.{Policy}
use Rattle.alog_policy.specs.declared.post.Post.{Post}
use Rattle.alog_registry.specs.Dumping.{posted_of}
use Rattle.alog_registry.specs.Listed.{spec_at}
use Rattle.alog_registry.specs.declared.logger.Logger.{Logger}
use Rattle.alog_registry.specs.declared.work.SinkTurn.{SinkTurn}
use Rattle.alog_sink.specs.Files.{Files}
use Rattle.alog_sink.specs.declared.sink.Sink.{Sink}
use Rattle.alog_system.specs.Acts.{Did, InQueue, OnSink, Keeping, Emptying, Made, Act, BeginsDeed, MakesStep, SetsLevel, steps_in, in_queue, queue_steps, policy_in, backtrace_in, turns_by, logger_of, policy, most, level_after, kept_after, is_below}
use Rattle.alog_system.specs.Asked.{message_by, posts_of, on_sinks, calls_by_deed, calls_by_step, calls_by, calls_asked, turns_by_deed, turns_by_step, turns_by_act, turns_asked, beside, turn_in, turns_made}
use Rattle.alog_system.specs.Begin.{MayBegin, begun, posting_unless}
use Rattle.alog_system.specs.Roster.{RosterView, turns_for, level_at, policy_at, backtrace_at, emptied, keeping}
use Rattle.alog_system.specs.Runs.{Leads, starts, begins, steps, sets}
use Rattle.alog_system.specs.Step.{dumped_by}
use Rattle.alog_system.specs.System.{SystemView, fresh_system, duty_of, is_free, owes, with_duty, with_outputs, with_roster}
use Rattle.alog_system.specs.declared.deed.Deed.{Deed}
use Rattle.alog_system.specs.declared.deed.Deed.TheVariants as deed
use Rattle.alog_system.specs.declared.duty.Duty.{Duty}
use Rattle.alog_system.specs.declared.duty.Duty.TheVariants.{Free, Keeps, Dumps, Posts, Works, Serves}
use Rattle.alog_system.specs.declared.stepped.Stepped.{Stepped}
use Rattle.alog_system.proofs.RunCases.{Case, queued, kept, dumped, served, case_of}
use Rattle.alog_system.proofs.RunGoes.{calls_left, turns_left, Stance, Stands, stands_rest, Goes, rests_goes, MayCall, post_goes, pop_begins, posting_goes, round_goes}
use Rattle.alog_system.proofs.RunKept.{IsKept, is_kept, kept_messages}
use Rattle.alog_policy.proofs.SharedRunning.{mine_is, not_mine}
use Rattle.alog_system.proofs.RunLists.{along_last, flat_map_last, steps_begun, steps_made, steps_set, queue_last, stays_even}
use Rattle.alog_system.proofs.RunOthers.{set_duty, IsMine, mine_begun, mine_case}
use Rattle.alog_system.proofs.RunPosts.{none_where_idle, rounds_stay}

pub and_first : (a b : Bool) → (a && b) ≡ true → a ≡ true
and_first true b e = refl
and_first false b e = absurd (cc)

pub and_second : (a b : Bool) → (a && b) ≡ true → b ≡ true
and_second true b e = e
and_second false b e = absurd (cc)

not_true : (b : Bool) → not b ≡ true → b ≡ false
not_true true e = absurd (cc)
not_true false e = refl

drop_next : {X : Type 0} (n : ℕ) (xs : List X) (x : X) → slice_get xs n ≡ Some x → drop n xs ≡ x ∷ drop (n + 1) xs
drop_next n [] x e = absurd (cc)
drop_next zero (y ∷ xs) x e = (let same : y ≡ x = cc in ap (λ z. z ∷ xs) same)
drop_next (suc n) (y ∷ xs) x e =
    (let moved : suc (n + 1) ≡ suc n + 1 = omega arith in
    drop_next n xs x e ∙ ap (λ k. x ∷ drop k (y ∷ xs)) moved)

-- nothing is left of what an actor in no call did
free_turns : (r : RosterView) (d : Duty) → owes r d ≡ false → turns_left r.loggers d ≡ []
free_turns r Free e = refl
free_turns r (Keeps m) e = absurd (cc)
free_turns r (Dumps d) e = absurd (cc)
free_turns r (Posts p ms) e = refl
free_turns r Works e = refl
free_turns r (Serves t i done) e = ap (on_sinks i) (drop_all done (turns_for r t i) (ltb-false done (length (turns_for r t i)) e))

pub free_left : {S : Type 0} (ls : List Logger) (run : List Act) (v : SystemView S) → IsKept ls run v → (a : ℕ) → is_free v a ≡ true
    → turns_left ls (duty_of v a) ≡ []
free_left ls run v kept_so a free =
    subst (λ (l : List Logger). turns_left l (duty_of v a) ≡ []) kept_so.loggers
    (free_turns v.roster (duty_of v a) (not_true (owes v.roster (duty_of v a)) (and_second (is_idle (round_of v.desk.world a)) _ free)))

-- What an act of an actor asks of it, and what it made beside the queue; of others it asks nothing.
record Brings (ls : List Logger) (run : List Act) (x : Act) (a : ℕ) (more : List (Call Item)) (asks made : List Did) : Type 0 where
  pub calls : calls_by ls a run x ≡ more
  pub no_calls : (b : ℕ) → b ≢ a → calls_by ls b run x ≡ []
  pub turns : turns_by_act ls a x ≡ asks
  pub no_turns : (b : ℕ) → b ≢ a → turns_by_act ls b x ≡ []
  pub makes : turn_in a x ≡ made
  pub none_made : (b : ℕ) → b ≢ a → turn_in b x ≡ []

deed_brings : (ls : List Logger) (run : List Act) (a : ℕ) (d : Deed)
    → Brings ls run (BeginsDeed a d) a (calls_by_deed ls run a d) (turns_by_deed ls a d) []
deed_brings ls run a d = record {
  calls = mine_is a a (calls_by_deed ls run a d) refl;
  no_calls = λ b other. not_mine a b (calls_by_deed ls run b d) other;
  turns = mine_is a a (turns_by_deed ls a d) refl;
  no_turns = λ b other. not_mine a b (turns_by_deed ls b d) other;
  makes = refl;
  none_made = λ b other. refl;
}

step_brings : (ls : List Logger) (run : List Act) (m : Made)
    → Brings ls run (MakesStep m) m.actor (calls_by_step ls run m.did) (turns_by_step ls m.did) (beside m.did)
step_brings ls run m = record {
  calls = mine_is m.actor m.actor (calls_by_step ls run m.did) refl;
  no_calls = λ b other. not_mine m.actor b (calls_by_step ls run m.did) other;
  turns = mine_is m.actor m.actor (turns_by_step ls m.did) refl;
  no_turns = λ b other. not_mine m.actor b (turns_by_step ls m.did) other;
  makes = mine_is m.actor m.actor (beside m.did) refl;
  none_made = λ b other. not_mine m.actor b (beside m.did) other;
}

module _ {S : Type 0} (n : ℕ) (size : is_size n ≡ true) (ls : List Logger) where
  -- What is known after some acts: the calls of the queue that were begun, which with those that are left are those asked for, and so
  -- are the turns beside it.
  pub record Known (run : List Act) (v : SystemView S) : Type 0 where
    pub calls : List (CallMade Item)
    pub plays : Plays (fresh_desk n 0) calls (queue_steps (steps_in run)) v.desk
    pub many : length v.duties ≡ ACTORS
    pub asked : (b : ℕ) → b < ACTORS → calls_asked ls b run ≡ calls_made b calls ++ calls_left (duty_of v b)
    pub turns : (b : ℕ) → b < ACTORS → turns_asked ls b run ≡ turns_made b run ++ turns_left ls (duty_of v b)
    pub stands : (b : ℕ) → b < ACTORS → Stands v b

  module _ (run : List Act) (w u : SystemView S) (h : Known run w) (x : Act) (a : ℕ) (lt : a < ACTORS) (more : List (Call Item))
      (asks made : List Did) (brings : Brings ls run x a more asks made) (mine : IsMine a u w) (made_steps : List (StepMade Item))
      (goes : Goes n ls h.calls made_steps a (calls_left (duty_of w a)) more (turns_left ls (duty_of w a)) asks made u) where
    my_calls : calls_asked ls a (run ++ x ∷ []) ≡ calls_made a goes.now ++ calls_left (duty_of u a)
    my_calls =
        along_last (calls_by ls a) [] run x
        ∙ (ap (λ (cs : List (Call Item)). calls_asked ls a run ++ cs) brings.calls
        ∙ (stays_even (calls_asked ls a run) (calls_made a h.calls) (calls_left (duty_of w a)) more goes.new (calls_left (duty_of u a)) (h.asked a lt) goes.calls_even
        ∙ ap (λ (cs : List (Call Item)). cs ++ calls_left (duty_of u a)) (sym goes.mine)))

    other_calls : (b : ℕ) → b < ACTORS → b ≢ a → calls_asked ls b (run ++ x ∷ []) ≡ calls_made b goes.now ++ calls_left (duty_of u b)
    other_calls b below other =
        along_last (calls_by ls b) [] run x
        ∙ (ap (λ (cs : List (Call Item)). calls_asked ls b run ++ cs) (brings.no_calls b other)
        ∙ (append-nil (calls_asked ls b run)
        ∙ (h.asked b below
        ∙ (ap (λ (cs : List (Call Item)). cs ++ calls_left (duty_of w b)) (sym (goes.others b other))
        ∙ ap (λ (d : Duty). calls_made b goes.now ++ calls_left d) (sym (mine.duties b other))))))

    my_turns : turns_asked ls a (run ++ x ∷ []) ≡ turns_made a (run ++ x ∷ []) ++ turns_left ls (duty_of u a)
    my_turns =
        flat_map_last (turns_by_act ls a) run x
        ∙ (ap (λ (ts : List Did). turns_asked ls a run ++ ts) brings.turns
        ∙ (stays_even (turns_asked ls a run) (turns_made a run) (turns_left ls (duty_of w a)) asks made (turns_left ls (duty_of u a)) (h.turns a lt) goes.turns_even
        ∙ ap (λ (ts : List Did). ts ++ turns_left ls (duty_of u a))
        (ap (λ (ts : List Did). turns_made a run ++ ts) (sym brings.makes) ∙ sym (flat_map_last (turn_in a) run x))))

    other_turns : (b : ℕ) → b < ACTORS → b ≢ a → turns_asked ls b (run ++ x ∷ []) ≡ turns_made b (run ++ x ∷ []) ++ turns_left ls (duty_of u b)
    other_turns b below other =
        flat_map_last (turns_by_act ls b) run x
        ∙ (ap (λ (ts : List Did). turns_asked ls b run ++ ts) (brings.no_turns b other)
        ∙ (append-nil (turns_asked ls b run)
        ∙ (h.turns b below
        ∙ (ap (λ (ts : List Did). ts ++ turns_left ls (duty_of w b))
        (sym (flat_map_last (turn_in b) run x ∙ (ap (λ (ts : List Did). turns_made b run ++ ts) (brings.none_made b other) ∙ append-nil (turns_made b run))))
        ∙ ap (λ (d : Duty). turns_made b (run ++ x ∷ []) ++ turns_left ls d) (sym (mine.duties b other))))))

    other_stands : (b : ℕ) → b < ACTORS → b ≢ a → Stands u b
    other_stands b below other =
        subst (λ (o : Option (Post Item)). Stance o (round_of u.desk.world b) (duty_of u b)) (sym (mine.posts b other))
        (subst (λ (r : Round Item). Stance (post_of w.desk b) r (duty_of u b)) (sym (mine.rounds b other))
        (subst (λ (d : Duty). Stance (post_of w.desk b) (round_of w.desk.world b) d) (sym (mine.duties b other)) (h.stands b below)))

    -- what is known is so after one act more
    known_after : queue_steps (steps_in (run ++ x ∷ [])) ≡ made_steps → Known (run ++ x ∷ []) u
    known_after is = record {
      calls = goes.now;
      plays = subst (λ (ss : List (StepMade Item)). Plays (fresh_desk n 0) goes.now ss u.desk) (sym is) goes.plays;
      many = mine.many ∙ h.many;
      asked = λ b below.
          on_test (λ _. calls_asked ls b (run ++ x ∷ []) ≡ calls_made b goes.now ++ calls_left (duty_of u b)) b a
          (λ same. subst (λ k. calls_asked ls k (run ++ x ∷ []) ≡ calls_made k goes.now ++ calls_left (duty_of u k)) (sym same) my_calls)
          (other_calls b below);
      turns = λ b below.
          on_test (λ _. turns_asked ls b (run ++ x ∷ []) ≡ turns_made b (run ++ x ∷ []) ++ turns_left ls (duty_of u b)) b a
          (λ same. subst (λ k. turns_asked ls k (run ++ x ∷ []) ≡ turns_made k (run ++ x ∷ []) ++ turns_left ls (duty_of u k)) (sym same) my_turns)
          (other_turns b below);
      stands = λ b below.
          on_test (λ _. Stands u b) b a (λ same. subst (λ k. Stands u k) (sym same) goes.stands) (other_stands b below);
    }

  -- where an actor is in no round, it has no post left
  pub idle_calls : (run : List Act) (v : SystemView S) → Known run v → (a : ℕ) → a < ACTORS → is_idle (round_of v.desk.world a) ≡ true
      → calls_left (duty_of v a) ≡ []
  idle_calls run v h a lt idle =
      let none = none_where_idle n size h.calls (queue_steps (steps_in run)) v.desk h.plays a lt idle in
      (subst (λ (o : Option (Post Item)). Stance o (round_of v.desk.world a) (duty_of v a)) none (h.stands a lt)).none

  -- what a deed begins
  module _ (run : List Act) (w : SystemView S) (h : Known run w) (kept_so : IsKept ls run w) (a : ℕ) (lt : a < ACTORS)
      (idle : is_idle (round_of w.desk.world a) ≡ true) where
    there : a < length w.duties
    there = (let all = h.many in omega (arith, all, lt))

    in_rounds : a < length w.desk.world.rounds
    in_rounds = (let all = rounds_stay n 0 h.calls (queue_steps (steps_in run)) w.desk h.plays in omega (arith, all, lt))

    may_call : MayCall n h.calls (queue_steps (steps_in run)) w a
    may_call = record { plays = h.plays; idle = idle; there = there }

    abbrev Opens : List (Call Item) → List Did → SystemView S → Type 0
    Opens more asks u = Goes n ls h.calls (queue_steps (steps_in run)) a [] more [] asks [] u

    log_goes : (m : Message) (p : Policy) (below unkept : Bool) → p ≡ policy_at w.roster m.logger
        → Opens (cond below [] (ToPost p (Text m) ∷ [])) (cond unkept [] (Keeping m ∷ []))
        (with_duty (posting_unless below w a m) a (cond unkept Free (Keeps m)))
    log_goes m p true true is =
        rests_goes n size ls a lt {u = with_duty w a Free} {left = []} {more = []} {owed = []} {asks = []} {made = []}
        h.plays idle (set_duty w a Free there) refl refl refl
    log_goes m p true false is =
        rests_goes n size ls a lt {u = with_duty w a (Keeps m)} {left = []} {more = []} {owed = []} {asks = Keeping m ∷ []} {made = []}
        h.plays idle (set_duty w a (Keeps m) there) refl refl refl
    log_goes m p false true is =
        subst (λ (q : Policy). Opens (ToPost q (Text m) ∷ []) [] (with_duty (posting_unless false w a m) a Free)) (sym is)
        (post_goes n size ls a lt w (policy_at w.roster m.logger) (Text m) Free {left = []}
        {more = ToPost (policy_at w.roster m.logger) (Text m) ∷ []} {owed = []} {asks = []} {made = []} may_call tt refl refl)
    log_goes m p false false is =
        subst (λ (q : Policy). Opens (ToPost q (Text m) ∷ []) (Keeping m ∷ []) (with_duty (posting_unless false w a m) a (Keeps m))) (sym is)
        (post_goes n size ls a lt w (policy_at w.roster m.logger) (Text m) (Keeps m) {left = []}
        {more = ToPost (policy_at w.roster m.logger) (Text m) ∷ []} {owed = []} {asks = Keeping m ∷ []} {made = []} may_call tt refl refl)

    policy_is : (k : ℕ) → policy ls k ≡ policy_at w.roster k
    policy_is k = ap (λ (l : List Logger). policy_in (spec_at l k)) (sym kept_so.loggers)

    most_is : (k : ℕ) → most ls k ≡ backtrace_at w.roster k
    most_is k = ap (λ (l : List Logger). backtrace_in (spec_at l k)) (sym kept_so.loggers)

    level_is : (k : ℕ) → level_after ls run k ≡ level_at w.roster k
    level_is k = ap (λ (l : List Level). unwrap_or (slice_get l k) Off) (sym kept_so.levels)

    deed_goes : (d : Deed) → Opens (calls_by_deed ls run a d) (turns_by_deed ls a d) (begun w a d)
    deed_goes (deed.Log time k level text) =
        let m = message_by a time k level text.now in
        let post : List (Call Item) = ToPost (policy ls k) (Text m) ∷ [] in
        let u = begun w a (deed.Log time k level text) in
        subst (λ (own : Level). Opens (cond (is_below level own) [] post) (turns_by_deed ls a (deed.Log time k level text)) u) (sym (level_is k))
        (subst (λ (most : ℕ). Opens (cond (is_below level (level_at w.roster k)) [] post) (cond (most == 0) [] (Keeping m ∷ [])) u) (sym (most_is k))
        (log_goes m (policy ls k) (is_below level (level_at w.roster k)) (backtrace_at w.roster k == 0) (policy_is k)))
    deed_goes (deed.Flush k) =
        subst (λ (q : Policy). Opens (ToPost q (Flush k) ∷ []) [] (begun w a (deed.Flush k))) (sym (policy_is k))
        (post_goes n size ls a lt w (policy_at w.roster k) (Flush k) Free {left = []} {more = ToPost (policy_at w.roster k) (Flush k) ∷ []}
        {owed = []} {asks = []} {made = []} may_call tt refl refl)
    deed_goes (deed.Dump time k) =
        let d : Duty = Dumps (record { logger = k; time = time; thread = a; most = backtrace_at w.roster k }) in
        rests_goes n size ls a lt {u = with_duty w a d} {left = []} {more = []} {owed = []} {asks = Emptying k time a ∷ []} {made = []}
        h.plays idle (set_duty w a d there) refl refl refl
    deed_goes deed.Work = pop_begins n size ls a lt h.calls (queue_steps (steps_in run)) w may_call in_rounds

  known_begun : (run : List Act) (w : SystemView S) (a : ℕ) (d : Deed) → Known run w → IsKept ls run w → MayBegin w a d
      → Known (run ++ BeginsDeed a d ∷ []) (begun w a d)
  known_begun run w a d h kept_so may =
      let idle = and_first (is_idle (round_of w.desk.world a)) (not (owes w.roster (duty_of w a))) may.1 in
      let no_turns : turns_left ls (duty_of w a) ≡ [] =
      free_left ls run w kept_so a may.1 in
      let goes = deed_goes run w h kept_so a may.0 idle d in
      known_after run w (begun w a d) h (BeginsDeed a d) a may.0 (calls_by_deed ls run a d) (turns_by_deed ls a d) [] (deed_brings ls run a d) (mine_begun a w d)
      (queue_steps (steps_in run))
      (subst (λ (left : List (Call Item)). Goes n ls h.calls (queue_steps (steps_in run)) a left (calls_by_deed ls run a d) (turns_left ls (duty_of w a)) (turns_by_deed ls a d) [] (begun w a d))
      (sym (idle_calls run w h a may.0 idle))
      (subst (λ (owed : List Did). Goes n ls h.calls (queue_steps (steps_in run)) a [] (calls_by_deed ls run a d) owed (turns_by_deed ls a d) [] (begun w a d)) (sym no_turns) goes))
      (ap queue_steps (steps_begun run a d))

  module _ (tells : Bool) (files : S → Files) (failures : S → ℕ) where
    -- what a step leaves
    module _ (run : List Act) (w u : SystemView S) (h : Known run w) (kept_so : IsKept ls run w) (a : ℕ) (lt : a < ACTORS) where
      abbrev Leaves : Did → List (StepMade Item) → Duty → Type 0
      Leaves did ss d = Goes n ls h.calls ss a (calls_left d) (calls_by_step ls run did) (turns_left ls d) (turns_by_step ls did) (beside did) u

      step_goes : (said : Stepped) (did : Did) → Case tells files failures w a said u did
          → Leaves did (queue_steps (steps_in run) ++ in_queue did) (duty_of w a)
      step_goes said did (queued busy same after) =
          subst (λ (v : SystemView S). Goes n ls h.calls (queue_steps (steps_in run) ++ step_of w.desk a ∷ []) a (calls_left (duty_of w a)) [] (turns_left ls (duty_of w a)) (turns_by_step ls (InQueue (step_of w.desk a))) [] v)
          (sym after)
          (round_goes n size ls a lt h.calls (queue_steps (steps_in run)) w h.plays busy
          (let all = h.many in omega (arith, all, lt))
          (let all = rounds_stay n 0 h.calls (queue_steps (steps_in run)) w.desk h.plays in omega (arith, all, lt)) (h.stands a lt))
      step_goes said did (kept m idle was same after) =
          let v : SystemView S = with_roster w (keeping w.roster m) in
          subst (λ (d : Duty). Leaves (Keeping m) (queue_steps (steps_in run) ++ []) d) (sym was)
          (subst (λ (ss : List (StepMade Item)). Leaves (Keeping m) ss (Keeps m)) (sym (append-nil (queue_steps (steps_in run))))
          (subst (λ (x : SystemView S). Goes n ls h.calls (queue_steps (steps_in run)) a [] [] (Keeping m ∷ []) [] (Keeping m ∷ []) x) (sym after)
          (rests_goes n size ls a lt {u = with_duty v a Free} {left = []} {more = []} {owed = Keeping m ∷ []} {asks = []}
          {made = Keeping m ∷ []} h.plays idle (set_duty v a Free (let all = h.many in omega (arith, all, lt))) refl refl refl)))
      step_goes said did (dumped d idle was same after) =
          let v : SystemView S = with_roster w (emptied w.roster d.logger) in
          let k = d.logger in
          let x : Did = Emptying k d.time d.thread in
          let asked : posts_of (policy ls k) (posted_of k d.time d.thread (kept_after ls run k)) ≡ posts_of (policy_at w.roster k) (dumped_by w d) =
          ap (λ (p : Policy). posts_of p (posted_of k d.time d.thread (kept_after ls run k))) (policy_is run w h kept_so a lt idle k)
          ∙ ap (λ (ms : List Message). posts_of (policy_at w.roster k) (posted_of k d.time d.thread ms)) (sym (kept_messages ls run w kept_so k)) in
          subst (λ (e : Duty). Leaves x (queue_steps (steps_in run) ++ []) e) (sym was)
          (subst (λ (ss : List (StepMade Item)). Leaves x ss (Dumps d)) (sym (append-nil (queue_steps (steps_in run))))
          (subst (λ (y : SystemView S). Goes n ls h.calls (queue_steps (steps_in run)) a [] (calls_by_step ls run x) (x ∷ []) [] (x ∷ []) y) (sym after)
          (posting_goes n size ls a lt v (policy_at w.roster k) (dumped_by w d) {left = []} {more = calls_by_step ls run x} {owed = x ∷ []}
          {asks = []} {made = x ∷ []} (record { plays = h.plays; idle = idle; there = let all = h.many in omega (arith, all, lt) }) asked refl)))
      step_goes said did (served turn i s) =
          let t : ℕ = s.ticket in
          let done : ℕ = s.done in
          let x : Did = OnSink turn i in
          let all : List SinkTurn = turns_by (spec_at ls (logger_of i)) t i in
          let first : slice_get all done ≡ Some turn =
          ap (λ (l : List Logger). slice_get (turns_by (spec_at l (logger_of i)) t i) done) (sym kept_so.loggers) ∙ s.next in
          let even : on_sinks i (drop done all) ++ [] ≡ x ∷ on_sinks i (drop (done + 1) all) =
          append-nil (on_sinks i (drop done all)) ∙ ap (on_sinks i) (drop_next done all turn first) in
          let v : SystemView S = with_outputs w s.outputs in
          let d : Duty = Serves t i (done + 1) in
          subst (λ (e : Duty). Leaves x (queue_steps (steps_in run) ++ []) e) (sym s.was)
          (subst (λ (ss : List (StepMade Item)). Leaves x ss (Serves t i done)) (sym (append-nil (queue_steps (steps_in run))))
          (subst (λ (y : SystemView S). Goes n ls h.calls (queue_steps (steps_in run)) a [] [] (on_sinks i (drop done all)) [] (x ∷ []) y) (sym s.after)
          (rests_goes n size ls a lt {u = with_duty v a d} {left = []} {more = []} {owed = on_sinks i (drop done all)} {asks = []}
          {made = x ∷ []} h.plays s.idle (set_duty v a d (let many = h.many in omega (arith, many, lt))) refl refl even)))

    known_step : {run : List Act} {w u : SystemView S} {a : ℕ} {said : Stepped} {did : Did} → Known run w → IsKept ls run w → a < ACTORS
        → Case tells files failures w a said u did → Known (run ++ MakesStep (record { actor = a; did = did; told = said }) ∷ []) u
    known_step {run} {w} {u} {a} {said} {did} h kept_so lt case =
        let m : Made = record { actor = a; did = did; told = said } in
        known_after run w u h (MakesStep m) a lt (calls_by_step ls run did) (turns_by_step ls did) (beside did) (step_brings ls run m)
        (mine_case case) (queue_steps (steps_in run) ++ in_queue did) (step_goes run w u h kept_so a lt said did case)
        (ap queue_steps (steps_made run m) ∙ queue_last m (steps_in run))

    known_start : (limit : ℕ) (first : List (Sink S)) → Known [] (fresh_system n limit ls first)
    known_start limit first = record {
      calls = [];
      plays = plays_start;
      many = length-replicate ACTORS Free;
      asked = λ b below. ap calls_left (sym (get_or-replicate ACTORS b Free Free below));
      turns = λ b below. ap (turns_left ls) (sym (get_or-replicate ACTORS b Free Free below));
      stands = λ b below.
          let v : SystemView S = fresh_system n limit ls first in
          let none : post_of v.desk b ≡ None = get_or-replicate ACTORS b None None below in
          let idle : is_idle (round_of v.desk.world b) ≡ true = ap is_idle (get_or-replicate ACTORS b round.Idle round.Idle below) in
          stands_rest (post_of v.desk b) (round_of v.desk.world b) (duty_of v b) Free none idle (get_or-replicate ACTORS b Free Free below) refl;
    }

    -- so it is after each run
    pub known : (limit : ℕ) (first : List (Sink S)) (run : List Act) (v : SystemView S)
        → Leads tells files failures (fresh_system n limit ls first) run v → Known run v
    known limit first run v starts = known_start limit first
    known limit first run v (begins {run = xs} {w = w} a d leads may) =
        known_begun xs w a d (known limit first xs w leads) (is_kept tells files failures n limit ls first xs w leads) may
    known limit first run v (steps {run = xs} {w = w} {u = u} a said leads lt h) =
        known_step (known limit first xs w leads) (is_kept tells files failures n limit ls first xs w leads) lt
        (case_of tells files failures w a said u h)
    known limit first run v (sets {run = xs} {w = w} k level leads) =
        let h = known limit first xs w leads in
        let x : Act = SetsLevel k level in
        record {
          calls = h.calls;
          plays = subst (λ (ms : List Made). Plays (fresh_desk n 0) h.calls (queue_steps ms) w.desk) (sym (steps_set xs k level)) h.plays;
          many = h.many;
          asked = λ b below. along_last (calls_by ls b) [] xs x ∙ (append-nil (calls_asked ls b xs) ∙ h.asked b below);
          turns = λ b below.
              flat_map_last (turns_by_act ls b) xs x
              ∙ (append-nil (turns_asked ls b xs)
              ∙ (h.turns b below
              ∙ ap (λ (ts : List Did). ts ++ turns_left ls (duty_of w b)) (sym (flat_map_last (turn_in b) xs x ∙ append-nil (turns_made b xs)))));
          stands = h.stands;
        }
