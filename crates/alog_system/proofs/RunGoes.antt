-- What one act of an actor begins, and what is left of its call then.
use Rattle.std.proofs.Common.{◌≡◌, ◌≢◌, ◌⊎◌, inl, inr, ℕ, ◌+◌, ◌<◌, ◌==◌, Bool, true, false, cond, Option, None, Some, List, [], ◌∷◌, ◌++◌, length, drop, refl, sym, ap, subst, ◌∙◌, arith}
use Rattle.std.proofs.Common.{append-nil, get_or-set_same}
use Rattle.std.proofs.lemmas.List.{length-append}
use Rattle.std.specs.Prelude.{◌&&◌, ◌||◌, nat_lt, is_none, IsSome}
use Rattle.alog_core.specs.Queue.{Queue, Event, Claim, Write, Grab, Take, Full, Front, Empty, Idle, PushBusy, PopBusy, Spent, cell_of}
use Rattle.alog_core.specs.Queue.{Cell}
use Rattle.alog_core.specs.Round.{Move, move_of, goes_on, makes, ends, taking, is_claimed}
use Rattle.alog_core.specs.World.{is_size, is_idle, round_of, next_move, brought, said_of, told}
use Rattle.alog_core.specs.declared.TheConstants.{ACTORS}
use Rattle.alog_core.specs.declared.round.Round.{Round}
use Rattle.alog_core.specs.declared.round.Round.TheVariants as round
use Rattle.alog_core.specs.declared.said.Said.{Said}
use Rattle.alog_core.specs.declared.said.Said.TheVariants as said
use Rattle.alog_msg.specs.declared.item.Item.{Item}
use Rattle.alog_msg.specs.declared.item.Item.TheVariants.{Text}
use Rattle.alog_msg.specs.declared.message.Message.{Message}
use Rattle.alog_policy.specs.Desk.{fresh_desk, answer_of, after_step, desk_told, desk_stepped, post_of, call_began, post_began}
use Rattle.alog_policy.specs.Runs.{Call, CallMade, called, ToPop, ToPost, StepMade, step_of, overruns_in, outcome_in, Plays, pops, posts, steps_on, calls_made, outcomes_made}
use Rattle.alog_policy.specs.declared.policy.Policy.{Policy}
use Rattle.alog_policy.specs.declared.policy.Outcome.{Outcome}
use Rattle.alog_policy.specs.declared.post.Post.{Post}
use Rattle.alog_policy.proofs.SharedStepKinds.{either}
use Rattle.alog_registry.specs.Listed.{spec_at}
use Rattle.alog_registry.specs.declared.logger.Logger.{Logger}
use Rattle.alog_system.specs.Acts.{Did, InQueue, Keeping, Emptying, logger_of, turns_by}
use Rattle.alog_system.specs.Asked.{posts_in, posts_of, on_sinks, turns_by_event, turns_by_step}
use Rattle.alog_system.specs.Step.{after_round, follows, posting, posting_on, work_after}
use Rattle.alog_system.specs.System.{SystemView, duty_of, with_desk, with_duty}
use Rattle.alog_system.specs.declared.duty.Duty.{Duty}
use Rattle.alog_system.specs.declared.duty.Duty.TheVariants.{Free, Keeps, Dumps, Posts, Works, Serves}
use Rattle.alog_system.proofs.Desks.{ended_idle}
use Rattle.alog_system.proofs.RunLists.{my_call, my_outcome, others_call}
use Rattle.alog_system.proofs.RunOthers.{set_duty}
use Rattle.alog_system.proofs.RunPosts.{posts_append, ahead_of, none_where_idle, some_where_ahead}

-- the calls that are left of what an actor does beside its round, and the turns
abbrev pub calls_left : Duty → List (Call Item)
calls_left Free = []
calls_left (Keeps m) = []
calls_left (Dumps d) = []
calls_left (Posts p ms) = posts_of p ms
calls_left Works = []
calls_left (Serves t i done) = []

abbrev pub turns_left : List Logger → Duty → List Did
turns_left ls Free = []
turns_left ls (Keeps m) = Keeping m ∷ []
turns_left ls (Dumps d) = Emptying d.logger d.time d.thread ∷ []
turns_left ls (Posts p ms) = []
turns_left ls Works = []
turns_left ls (Serves t i done) = on_sinks i (drop done (turns_by (spec_at ls (logger_of i)) t i))

-- what an actor does beside a post
abbrev pub IsBeside : Duty → Type 0
IsBeside Free = Unit {0}
IsBeside (Keeps m) = Unit {0}
IsBeside (Dumps d) = ⊥
IsBeside (Posts p ms) = Unit {0}
IsBeside Works = ⊥
IsBeside (Serves t i done) = ⊥

-- the rounds of a pop
abbrev pub IsInPop : Round Item → Type 0
IsInPop round.Idle = ⊥
IsInPop (round.Push x) = ⊥
IsInPop (round.PushRead t x) = ⊥
IsInPop (round.PushFree t x) = ⊥
IsInPop (round.PushClaimed t) = ⊥
IsInPop round.Pop = Unit {0}
IsInPop (round.PopRead t) = Unit {0}
IsInPop (round.PopReady t) = Unit {0}
IsInPop (round.PopGrabbed t) = Unit {0}
IsInPop (round.PopFronted t) = Unit {0}

-- an actor in no post has no post left, and where it is in a round it pops for its work
pub record Rests (r : Round Item) (d : Duty) : Type 0 where
  pub none : calls_left d ≡ []
  pub pops : is_idle r ≡ false → (d ≡ Works) × IsInPop r

abbrev pub Stance : Option (Post Item) → Round Item → Duty → Type 0
Stance None r d = Rests r d
Stance (Some p) r d = IsBeside d

abbrev pub Stands : {S : Type 0} → SystemView S → ℕ → Type 0
Stands v a = Stance (post_of v.desk a) (round_of v.desk.world a) (duty_of v a)

not_both : (b : Bool) → b ≡ true → b ≡ false → ⊥
not_both true e f = cc
not_both false e f = cc

stands_post : (o : Option (Post Item)) (r : Round Item) (d e : Duty) (q : Post Item) → o ≡ Some q → d ≡ e → IsBeside e → Stance o r d
stands_post o r d e q is same h =
    subst (λ (p : Option (Post Item)). Stance p r d) (sym is) (subst (λ (x : Duty). IsBeside x) (sym same) h)

pub stands_rest : (o : Option (Post Item)) (r : Round Item) (d e : Duty) → o ≡ None → is_idle r ≡ true → d ≡ e → calls_left e ≡ [] → Stance o r d
stands_rest o r d e is idle same none =
    subst (λ (p : Option (Post Item)). Stance p r d) (sym is)
    (record { none = ap calls_left same ∙ none; pops = λ busy. absurd (not_both (is_idle r) idle busy) })

-- a step of a pop that ends nothing
abbrev IsQuiet : Option (Event Item) → Type 0
IsQuiet None = Unit {0}
IsQuiet (Some (Claim t x)) = ⊥
IsQuiet (Some (Write t)) = ⊥
IsQuiet (Some (Grab t)) = Unit {0}
IsQuiet (Some (Take t x)) = ⊥
IsQuiet (Some (Full t)) = ⊥
IsQuiet (Some (Front t)) = Unit {0}
IsQuiet (Some (Empty t)) = ⊥
IsQuiet (Some (Idle t)) = ⊥
IsQuiet (Some (PushBusy t)) = ⊥
IsQuiet (Some (PopBusy t)) = ⊥
IsQuiet (Some Spent) = ⊥

abbrev PopGoes : Move Item → Type 0
PopGoes m = (m.round ≡ round.Idle) ⊎ (IsInPop m.round × IsQuiet m.event)

pop_takes : (t : ℕ) (c : Option (Cell Item)) → PopGoes (taking t c)
pop_takes t None = inl refl
pop_takes t (Some c) = inl refl

pop_goes : (n : ℕ) (q : Queue Item) (r : Round Item) → IsInPop r → PopGoes (move_of n q r)
pop_goes n q round.Idle h = absurd h
pop_goes n q (round.Push x) h = absurd h
pop_goes n q (round.PushRead t x) h = absurd h
pop_goes n q (round.PushFree t x) h = absurd h
pop_goes n q (round.PushClaimed t) h = absurd h
pop_goes n q round.Pop h = inr (tt, tt)
pop_goes n q (round.PopRead t) h =
    let unwritten : Bool = t == q.front && (is_none (cell_of t q.cells) || is_claimed (cell_of t q.cells)) in
    let late : Bool = nat_lt t q.front && is_none (cell_of t q.cells) in
    either PopGoes unwritten (makes (Front t) (round.PopFronted t)) (cond late (ends (PopBusy t)) (goes_on (round.PopReady t))) (inr (tt, tt))
    (either PopGoes late (ends (PopBusy t)) (goes_on (round.PopReady t)) (inl refl) (inr (tt, tt)))
pop_goes n q (round.PopReady t) h =
    either PopGoes (q.front == t) (makes (Grab t) (round.PopGrabbed t)) (ends (PopBusy t)) (inr (tt, tt)) (inl refl)
pop_goes n q (round.PopGrabbed t) h = pop_takes t (cell_of t q.cells)
pop_goes n q (round.PopFronted t) h = either PopGoes (q.next == t) (ends (Idle t)) (ends (Empty t)) (inl refl) (inl refl)

works_on : (x : Option Item) (e : Option (Event Item)) → IsQuiet e → work_after (said_of x e) ≡ Works
works_on x None h = refl
works_on x (Some (Claim t y)) h = absurd h
works_on x (Some (Write t)) h = absurd h
works_on x (Some (Grab t)) h = refl
works_on x (Some (Take t y)) h = absurd h
works_on x (Some (Full t)) h = absurd h
works_on x (Some (Front t)) h = refl
works_on x (Some (Empty t)) h = absurd h
works_on x (Some (Idle t)) h = absurd h
works_on x (Some (PushBusy t)) h = absurd h
works_on x (Some (PopBusy t)) h = absurd h
works_on x (Some Spent) h = absurd h

-- a worker posts nothing, and has the turns of the item that it took before it
work_calls : (x : Said Item) → calls_left (work_after x) ≡ []
work_calls said.Nothing = refl
work_calls (said.Claim t) = refl
work_calls (said.Write t) = refl
work_calls (said.Full t y) = refl
work_calls (said.Grab t) = refl
work_calls (said.Take t i) = refl
work_calls (said.Front t) = refl
work_calls (said.Empty t) = refl
work_calls (said.Idle t) = refl
work_calls (said.Busy t y) = refl
work_calls (said.Spent y) = refl

work_turns : (ls : List Logger) (x : Option Item) (e : Option (Event Item)) → turns_by_event ls e ≡ turns_left ls (work_after (said_of x e))
work_turns ls x None = refl
work_turns ls x (Some (Claim t y)) = refl
work_turns ls x (Some (Write t)) = refl
work_turns ls x (Some (Grab t)) = refl
work_turns ls x (Some (Take t y)) = refl
work_turns ls x (Some (Full t)) = refl
work_turns ls x (Some (Front t)) = refl
work_turns ls x (Some (Empty t)) = refl
work_turns ls x (Some (Idle t)) = refl
work_turns ls x (Some (PushBusy t)) = refl
work_turns ls x (Some (PopBusy t)) = refl
work_turns ls x (Some Spent) = refl

-- a post overruns what it takes, so no turns are asked for it
post_turns : (ls : List Logger) (p : Post Item) (e : Option (Event Item)) → cond (overruns_in (Some p) e == 0) (turns_by_event ls e) [] ≡ []
post_turns ls p None = refl
post_turns ls p (Some (Claim t y)) = refl
post_turns ls p (Some (Write t)) = refl
post_turns ls p (Some (Grab t)) = refl
post_turns ls p (Some (Take t y)) = refl
post_turns ls p (Some (Full t)) = refl
post_turns ls p (Some (Front t)) = refl
post_turns ls p (Some (Empty t)) = refl
post_turns ls p (Some (Idle t)) = refl
post_turns ls p (Some (PushBusy t)) = refl
post_turns ls p (Some (PopBusy t)) = refl
post_turns ls p (Some Spent) = refl

-- What an act of an actor leaves: the calls begun so far, of which these are new; what was left and what was asked is what was
-- begun and made, and what is left now.
pub record Goes {S : Type 0} (n : ℕ) (ls : List Logger) (calls : List (CallMade Item)) (steps : List (StepMade Item)) (a : ℕ)
    (left more : List (Call Item)) (owed asks made : List Did) (u : SystemView S) : Type 0 where
  pub now : List (CallMade Item)
  pub plays : Plays (fresh_desk n 0) now steps u.desk
  pub new : List (Call Item)
  pub mine : calls_made a now ≡ calls_made a calls ++ new
  pub others : (b : ℕ) → b ≢ a → calls_made b now ≡ calls_made b calls
  pub calls_even : left ++ more ≡ new ++ calls_left (duty_of u a)
  pub turns_even : owed ++ asks ≡ made ++ turns_left ls (duty_of u a)
  pub stands : Stands u a

-- An actor that is in no round, on a desk that these calls and steps led to.
pub record MayCall {S : Type 0} (n : ℕ) (calls : List (CallMade Item)) (steps : List (StepMade Item)) (v : SystemView S) (a : ℕ) : Type 0 where
  pub plays : Plays (fresh_desk n 0) calls steps v.desk
  pub idle : is_idle (round_of v.desk.world a) ≡ true
  pub there : a < length v.duties

module _ {S : Type 0} (n : ℕ) (size : is_size n ≡ true) (ls : List Logger) (a : ℕ) (lt : a < ACTORS) where
  -- nothing is begun, and the actor is in no round
  pub rests_goes : {calls : List (CallMade Item)} {steps : List (StepMade Item)} {u : SystemView S} {d : Duty}
      {left more : List (Call Item)} {owed asks made : List Did} → Plays (fresh_desk n 0) calls steps u.desk
      → is_idle (round_of u.desk.world a) ≡ true → duty_of u a ≡ d → calls_left d ≡ [] → left ++ more ≡ [] → owed ++ asks ≡ made ++ turns_left ls d
      → Goes n ls calls steps a left more owed asks made u
  rests_goes {calls} {steps} {u} {d} {made} plays idle is none no_calls even = record {
    now = calls;
    plays = plays;
    new = [];
    mine = sym (append-nil (calls_made a calls));
    others = λ b other. refl;
    calls_even = no_calls ∙ sym (ap calls_left is ∙ none);
    turns_even = even ∙ ap (λ (e : Duty). made ++ turns_left ls e) (sym is);
    stands = stands_rest (post_of u.desk a) (round_of u.desk.world a) (duty_of u a) d (none_where_idle n size calls steps u.desk plays a lt idle) idle is none;
  }

  -- a post begins
  pub post_goes : {calls : List (CallMade Item)} {steps : List (StepMade Item)} (v : SystemView S) (p : Policy) (i : Item) (d : Duty)
      {left more : List (Call Item)} {owed asks made : List Did} → MayCall n calls steps v a → IsBeside d
      → left ++ more ≡ ToPost p i ∷ calls_left d → owed ++ asks ≡ made ++ turns_left ls d
      → Goes n ls calls steps a left more owed asks made (with_duty (with_desk v (post_began v.desk a p i)) a d)
  post_goes {calls} {steps} v p i d {made} may beside calls_even even =
      let u : SystemView S = with_duty (with_desk v (post_began v.desk a p i)) a d in
      let c : CallMade Item = called a (ToPost p i) in
      let more_plays : Plays (fresh_desk n 0) (calls ++ c ∷ []) steps u.desk = posts a p i may.plays lt may.idle in
      let none = none_where_idle n size calls steps v.desk may.plays a lt may.idle in
      let even_so : posts_in (calls_made a calls) ≡ length (outcomes_made a steps) = ahead_of n size calls steps v.desk may.plays a lt None none in
      let one : posts_in (calls_made a calls ++ ToPost p i ∷ []) ≡ posts_in (calls_made a calls) + 1 =
      posts_append (calls_made a calls) (ToPost p i ∷ []) in
      let mine : calls_made a (calls ++ c ∷ []) ≡ calls_made a calls ++ ToPost p i ∷ [] = my_call a c calls refl in
      let is : duty_of u a ≡ d = set_duty (with_desk v (post_began v.desk a p i)) a d may.there in
      let ahead_now : posts_in (calls_made a (calls ++ c ∷ [])) ≡ length (outcomes_made a steps) + 1 =
      ap posts_in mine ∙ omega (arith, even_so, one) in
      let post = some_where_ahead n size (calls ++ c ∷ []) steps u.desk more_plays a lt ahead_now in
      record {
        now = calls ++ c ∷ [];
        plays = more_plays;
        new = ToPost p i ∷ [];
        mine = mine;
        others = λ b other. others_call b c calls other;
        calls_even = calls_even ∙ ap (λ (e : Duty). ToPost p i ∷ calls_left e) (sym is);
        turns_even = even ∙ ap (λ (e : Duty). made ++ turns_left ls e) (sym is);
        stands = stands_post (post_of u.desk a) (round_of u.desk.world a) (duty_of u a) d post.0 post.1 is beside;
      }

  -- a pop begins
  pub pop_begins : (calls : List (CallMade Item)) (steps : List (StepMade Item)) (v : SystemView S) → MayCall n calls steps v a
      → a < length v.desk.world.rounds
      → Goes n ls calls steps a [] (ToPop ∷ []) [] [] [] (with_duty (with_desk v (call_began v.desk a round.Pop)) a Works)
  pop_begins calls steps v may in_rounds =
      let w : SystemView S = with_desk v (call_began v.desk a round.Pop) in
      let u : SystemView S = with_duty w a Works in
      let c : CallMade Item = called a ToPop in
      let none = none_where_idle n size calls steps v.desk may.plays a lt may.idle in
      let is : duty_of u a ≡ Works = set_duty w a Works may.there in
      let here : round_of u.desk.world a ≡ round.Pop = get_or-set_same v.desk.world.rounds a round.Pop round.Idle in_rounds in
      record {
        now = calls ++ c ∷ [];
        plays = pops a may.plays lt may.idle;
        new = ToPop ∷ [];
        mine = my_call a c calls refl;
        others = λ b other. others_call b c calls other;
        calls_even = ap (λ (e : Duty). ToPop ∷ calls_left e) (sym is);
        turns_even = ap (turns_left ls) (sym is);
        stands = subst (λ (o : Option (Post Item)). Stance o (round_of u.desk.world a) (duty_of u a)) (sym none)
            (record { none = ap calls_left is; pops = λ busy. (is, subst IsInPop (sym here) tt) });
      }

  -- the next post of a dump begins, if one is left
  pub posting_goes : {calls : List (CallMade Item)} {steps : List (StepMade Item)} (v : SystemView S) (p : Policy) (ms : List Message)
      {left more : List (Call Item)} {owed asks made : List Did} → MayCall n calls steps v a → left ++ more ≡ posts_of p ms → owed ++ asks ≡ made ++ []
      → Goes n ls calls steps a left more owed asks made (posting v a p ms)
  posting_goes {calls} {steps} v p [] {left} {more} {owed} {asks} {made} may calls_even even =
      rests_goes {u = with_duty v a Free} {left = left} {more = more} {owed = owed} {asks = asks} {made = made} may.plays may.idle
      (set_duty v a Free may.there) refl calls_even even
  posting_goes {calls} {steps} v p (m ∷ ms) {left} {more} {owed} {asks} {made} may calls_even even =
      post_goes v p (Text m) (Posts p ms) {left = left} {more = more} {owed = owed} {asks = asks} {made = made} may tt calls_even even

  -- a step of a round: of a work's pop
  module _ (calls : List (CallMade Item)) (steps : List (StepMade Item)) (w : SystemView S) (plays : Plays (fresh_desk n 0) calls steps w.desk)
      (busy : is_idle (round_of w.desk.world a) ≡ false) (there : a < length w.duties) (in_rounds : a < length w.desk.world.rounds) where
    abbrev event : Option (Event Item)
    event = (next_move w.desk.world a).event

    abbrev after : SystemView S
    after = with_desk w (desk_stepped w.desk a)

    abbrev more_steps : List (StepMade Item)
    more_steps = steps ++ step_of w.desk a ∷ []

    stepped_on : Plays (fresh_desk n 0) calls more_steps after.desk
    stepped_on = steps_on a plays lt busy

    abbrev GoesTo : SystemView S → Type 0
    GoesTo u = Goes n ls calls more_steps a (calls_left (duty_of w a)) [] (turns_left ls (duty_of w a)) (turns_by_step ls (InQueue (step_of w.desk a))) [] u

    pop_round : post_of w.desk a ≡ None → duty_of w a ≡ Works → IsInPop (round_of w.desk.world a)
        → GoesTo (with_duty after a (work_after (desk_told w.desk a).said))
    pop_round none works popping =
        let x = (desk_told w.desk a).said in
        let u : SystemView S = with_duty after a (work_after x) in
        let is : duty_of u a ≡ work_after x = set_duty after a (work_after x) there in
        let said_is : x ≡ told w.desk.world a = ap (λ (o : Option (Post Item)). (answer_of w.desk a o).said) none in
        let here : round_of u.desk.world a ≡ (next_move w.desk.world a).round =
        ap (λ (o : Option (Post Item)). round_of (after_step w.desk a o).world a) none
        ∙ get_or-set_same w.desk.world.rounds a (next_move w.desk.world a).round round.Idle in_rounds in
        let still : post_of u.desk a ≡ None = ap (λ (o : Option (Post Item)). post_of (after_step w.desk a o) a) none ∙ none in
        let moved = pop_goes w.desk.world.places w.desk.world.queue (round_of w.desk.world a) popping in
        record {
          now = calls;
          plays = stepped_on;
          new = [];
          mine = sym (append-nil (calls_made a calls));
          others = λ b other. refl;
          calls_even = append-nil (calls_left (duty_of w a)) ∙ (ap calls_left works ∙ sym (ap calls_left is ∙ work_calls x));
          turns_even = ap (λ (d : Duty). turns_left ls d ++ turns_by_step ls (InQueue (step_of w.desk a))) works
              ∙ (ap (λ (o : Option (Post Item)). cond (overruns_in o event == 0) (turns_by_event ls event) []) none
              ∙ (work_turns ls (brought (round_of w.desk.world a)) event
              ∙ (ap (λ (y : Said Item). turns_left ls (work_after y)) (sym said_is) ∙ ap (turns_left ls) (sym is))));
          stands = subst (λ (o : Option (Post Item)). Stance o (round_of u.desk.world a) (duty_of u a)) (sym still)
              (record {
                none = ap calls_left is ∙ work_calls x;
                pops = λ on.
                    elim moved [
                      | inl idle ↦ absurd (not_both (is_idle (round_of u.desk.world a)) (ap is_idle (here ∙ idle)) on)
                      | inr goes ↦
                          (is ∙ (ap work_after said_is ∙ works_on (brought (round_of w.desk.world a)) event goes.1), subst IsInPop (sym here) goes.0)
                    ];
              });
        }

    -- the turns that a step of a post asks for, and the outcomes after it
    no_turns : (p : Post Item) → post_of w.desk a ≡ Some p → turns_by_step ls (InQueue (step_of w.desk a)) ≡ []
    no_turns p is = ap (λ (o : Option (Post Item)). cond (overruns_in o event == 0) (turns_by_event ls event) []) is ∙ post_turns ls p event

    outcomes_now : (o : Option (Outcome Item)) → (desk_told w.desk a).outcome ≡ o
        → length (outcomes_made a more_steps) ≡ length (outcomes_made a steps) + length (outcome_in o)
    outcomes_now o is =
        ap length (my_outcome a (step_of w.desk a) steps refl)
        ∙ (length-append (outcomes_made a steps) (outcome_in (desk_told w.desk a).outcome)
        ∙ ap (λ (q : Option (Outcome Item)). length (outcomes_made a steps) + length (outcome_in q)) is)

    -- a step after which the post goes on
    post_on : (p : Post Item) → post_of w.desk a ≡ Some p → (desk_told w.desk a).outcome ≡ None → IsBeside (duty_of w a) → GoesTo after
    post_on p there_is goes beside =
        let was : posts_in (calls_made a calls) ≡ length (outcomes_made a steps) + 1 = ahead_of n size calls steps w.desk plays a lt (Some p) there_is in
        let same : length (outcomes_made a more_steps) ≡ length (outcomes_made a steps) + 0 = outcomes_now None goes in
        let post = some_where_ahead n size calls more_steps after.desk stepped_on a lt (omega (arith, was, same)) in
        record {
          now = calls;
          plays = stepped_on;
          new = [];
          mine = sym (append-nil (calls_made a calls));
          others = λ b other. refl;
          calls_even = append-nil (calls_left (duty_of w a));
          turns_even = ap (λ (xs : List Did). turns_left ls (duty_of w a) ++ xs) (no_turns p there_is) ∙ append-nil (turns_left ls (duty_of w a));
          stands = stands_post (post_of after.desk a) (round_of after.desk.world a) (duty_of w a) (duty_of w a) post.0 post.1 refl beside;
        }

    -- the last step of a post
    ended : (o : Outcome Item) → (desk_told w.desk a).outcome ≡ Some o → is_idle (round_of after.desk.world a) ≡ true
    ended o is = ended_idle w.desk a in_rounds (subst (λ (q : Option (Outcome Item)). IsSome q) (sym is) refl)

    abbrev EndsAs : Duty → Type 0
    EndsAs d = Goes n ls calls more_steps a (calls_left d) [] (turns_left ls d) (turns_by_step ls (InQueue (step_of w.desk a))) [] (follows after a d (desk_told w.desk a))

    post_ends : (p : Post Item) (o : Outcome Item) (d : Duty) → post_of w.desk a ≡ Some p → (desk_told w.desk a).outcome ≡ Some o
        → duty_of w a ≡ d → IsBeside d → EndsAs d
    post_ends p o Free there_is out is beside =
        rests_goes {u = after} {left = []} {more = []} {owed = []} {asks = turns_by_step ls (InQueue (step_of w.desk a))} {made = []}
        stepped_on (ended o out) is refl refl (no_turns p there_is)
    post_ends p o (Keeps m) there_is out is beside =
        rests_goes {u = after} {left = []} {more = []} {owed = Keeping m ∷ []} {asks = turns_by_step ls (InQueue (step_of w.desk a))}
        {made = []} stepped_on (ended o out) is refl refl (ap (λ (xs : List Did). Keeping m ∷ xs) (no_turns p there_is))
    post_ends p o (Dumps d) there_is out is beside = absurd beside
    post_ends p o (Posts q ms) there_is out is beside =
        subst (λ (x : Option (Outcome Item)). Goes n ls calls more_steps a (posts_of q ms) [] [] (turns_by_step ls (InQueue (step_of w.desk a))) [] (posting_on after a q ms x))
        (sym out)
        (posting_goes after q ms {left = posts_of q ms} {more = []} {owed = []} {asks = turns_by_step ls (InQueue (step_of w.desk a))}
        {made = []} (record { plays = stepped_on; idle = ended o out; there = there }) (append-nil (posts_of q ms)) (no_turns p there_is))
    post_ends p o Works there_is out is beside = absurd beside
    post_ends p o (Serves t i done) there_is out is beside = absurd beside

    -- where a post goes on, nothing else follows
    follows_on : (d : Duty) → IsBeside d → (desk_told w.desk a).outcome ≡ None → follows after a d (desk_told w.desk a) ≡ after
    follows_on Free beside goes = refl
    follows_on (Keeps m) beside goes = refl
    follows_on (Dumps d) beside goes = absurd beside
    follows_on (Posts p ms) beside goes = ap (λ (x : Option (Outcome Item)). posting_on after a p ms x) goes
    follows_on Works beside goes = absurd beside
    follows_on (Serves t i done) beside goes = absurd beside

    post_round : (p : Post Item) (o : Option (Outcome Item)) → post_of w.desk a ≡ Some p → (desk_told w.desk a).outcome ≡ o
        → IsBeside (duty_of w a) → GoesTo (after_round w a)
    post_round p None there_is goes beside =
        subst GoesTo (sym (follows_on (duty_of w a) beside goes)) (post_on p there_is goes beside)
    post_round p (Some o) there_is out beside = post_ends p o (duty_of w a) there_is out refl beside

    round_by : (o : Option (Post Item)) → post_of w.desk a ≡ o → Stance o (round_of w.desk.world a) (duty_of w a) → GoesTo (after_round w a)
    round_by None none h =
        let on = h.pops busy in
        subst GoesTo (ap (λ (d : Duty). follows after a d (desk_told w.desk a)) (sym on.0)) (pop_round none on.0 on.1)
    round_by (Some p) there_is h = post_round p (desk_told w.desk a).outcome there_is refl h

    pub round_goes : Stands w a → GoesTo (after_round w a)
    round_goes h = round_by (post_of w.desk a) refl h
