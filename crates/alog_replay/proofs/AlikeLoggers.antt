-- On the scene of a script with a configuration where no store fails: stages whose sinks are alike agree, where their loggers say
-- the same.
use Rattle.std.proofs.Common.{◌≡◌, ℕ, ℤ, Bool, true, false, Option, None, Some, List, [], ◌∷◌, length, refl, sym, ap, subst, ◌∙◌, inl, inr}
use Rattle.std.specs.Prelude.{◌==◌, ◌&&◌, ◌||◌, not, nat_le, nat_lt, if◌then◌else◌, MatchBool, slice_get}
use Rattle.alog_core.specs.World.{is_idle, round_of}
use Rattle.alog_msg.specs.declared.item.Item.{Item}
use Rattle.alog_msg.specs.declared.item.Item.TheVariants as item
use Rattle.alog_msg.specs.declared.level.Level.{Level as LogLevel}
use Rattle.alog_msg.specs.declared.message.Message.{Message}
use Rattle.alog_policy.specs.Desk.{desk_stepped, desk_told, post_began}
use Rattle.alog_policy.specs.declared.policy.Outcome.{Outcome}
use Rattle.alog_policy.specs.declared.policy.Policy.{Policy}
use Rattle.alog_policy.specs.declared.post.Stepped.{Stepped as DeskStepped}
use Rattle.alog_registry.specs.Listed.{spec_at}
use Rattle.alog_registry.specs.declared.logger.Logger.{Logger}
use Rattle.alog_registry.specs.declared.work.SinkTurn.{SinkTurn}
use Rattle.alog_sink.specs.Files.{Files}
use Rattle.alog_system.specs.Begin.{begun, is_below, kept_after, logging, message_by, posting_unless}
use Rattle.alog_system.specs.Roster.{backtrace_in, emptied, level_at, logger_of, policy_at, policy_in, turns_by, with_level}
use Rattle.alog_system.specs.Step.{TurnSteps, TurnTold, RoundSteps, dumped_by, follows, posting, posting_on}
use Rattle.alog_system.specs.System.{SystemView, duty_of, is_free, owes, with_desk, with_duty, with_roster}
use Rattle.alog_system.specs.declared.deed.Deed.TheVariants as deed
use Rattle.alog_system.specs.declared.duty.Duty.{Duty}
use Rattle.alog_system.specs.declared.duty.Duty.TheVariants as duty
use Rattle.alog_system.specs.declared.stepped.Stepped.{Stepped}
use Rattle.alog_system.specs.declared.stepped.Turn.{Turn}
use Rattle.alog_replay.specs.Configured.{Stage, after_act, is_fit, log_text, may_do, number_in, number_of, of_number, is_there, with_system}
use Rattle.alog_replay.specs.Faultless.{StepsWell, faultless}
use Rattle.alog_replay.specs.Refusing.{HasNoSink, sink_of}
use Rattle.alog_replay.specs.declared.command.Act.{Act}
use Rattle.alog_replay.specs.declared.command.Act.TheVariants.{Ring, Push, Pop, Work, Post, Log, Flush, Dump, Level, Cells, Counts}
use Rattle.alog_replay.proofs.Agreeing.{Agrees}
use Rattle.alog_replay.proofs.AlikeStages.{AlikeStages}

-- all that a system asks its loggers is answered the same
pub record SameLoggers (ls ks : List Logger) : Type 0 where
  pub number : (name : List ℕ) → number_of ks name ≡ number_of ls name
  pub policy : (n : ℕ) → policy_in (spec_at ks n) ≡ policy_in (spec_at ls n)
  pub backtrace : (n : ℕ) → backtrace_in (spec_at ks n) ≡ backtrace_in (spec_at ls n)
  pub turns : (n t : ℕ) (i : Item) → turns_by (spec_at ks n) t i ≡ turns_by (spec_at ls n) t i

-- the system, and the stage, with these loggers
abbrev pub with_loggers : {S : Type 0} → SystemView S → List Logger → SystemView S
with_loggers v ks = with_roster v (record { loggers = ks; levels = v.roster.levels; kept = v.roster.kept })

abbrev pub by_loggers : {S : Type 0} → Stage S → List Logger → Stage S
by_loggers s ks = with_system s (with_loggers s.system ks)

-- the loggers of a system stay
module _ {S : Type 0} (v : SystemView S) where
  posting_stays : (a : ℕ) (p : Policy) (ms : List Message) → (posting v a p ms).roster.loggers ≡ v.roster.loggers
  posting_stays a p [] = refl
  posting_stays a p (m ∷ ms) = refl

  on_stays : (a : ℕ) (p : Policy) (ms : List Message) (r : Option (Outcome Item))
      → (posting_on v a p ms r).roster.loggers ≡ v.roster.loggers
  on_stays a p ms None = refl
  on_stays a p ms (Some r) = posting_stays a p ms

  follows_stays : (a : ℕ) (d : Duty) (s : DeskStepped Item) → (follows v a d s).roster.loggers ≡ v.roster.loggers
  follows_stays a duty.Free s = refl
  follows_stays a (duty.Keeps m) s = refl
  follows_stays a (duty.Dumps d) s = refl
  follows_stays a (duty.Posts p ms) s = on_stays a p ms s.outcome
  follows_stays a duty.Works s = refl
  follows_stays a (duty.Serves t i done) s = refl

  log_stays : (b : Bool) (a : ℕ) (m : Message) (d : Duty) → (with_duty (posting_unless b v a m) a d).roster.loggers ≡ v.roster.loggers
  log_stays true a m d = refl
  log_stays false a m d = refl

module _ {S : Type 0} (s : Stage S) where
  numbered_stays : (f : ℕ → SystemView S) → ((k : ℕ) → (f k).roster.loggers ≡ s.system.roster.loggers) → (n : Option ℕ)
      → (of_number s (λ k. with_system s (f k)) n).system.roster.loggers ≡ s.system.roster.loggers
  numbered_stays f h None = refl
  numbered_stays f h (Some n) = h n

  act_stays : (act : Act) → (after_act s act).1.system.roster.loggers ≡ s.system.roster.loggers
  act_stays (Ring places first) = refl
  act_stays (Push a text) = refl
  act_stays (Pop a) = refl
  act_stays (Post a policy text) = refl
  act_stays (Work a) = refl
  act_stays (Log a time name level text) =
      numbered_stays (λ n. logging s.system a (message_by a time n level text))
      (λ n. let m = message_by a time n level text in
      log_stays s.system (is_below m.level (level_at s.system.roster m.logger)) a m (kept_after s.system.roster m)) (number_in s name)
  act_stays (Flush a name) = numbered_stays (λ n. begun s.system a (deed.Flush n)) (λ n. refl) (number_in s name)
  act_stays (Dump a time name) = numbered_stays (λ n. begun s.system a (deed.Dump time n)) (λ n. refl) (number_in s name)
  act_stays (Level name level) =
      numbered_stays (λ n. with_roster s.system (with_level s.system.roster n level)) (λ n. refl) (number_in s name)
  act_stays Cells = refl
  act_stays Counts = refl

module _ {S : Type 0} (tells : Bool) (files : S → Files) (failures : S → ℕ) (v new : SystemView S) (a : ℕ) where
  turn_stays : (d : Duty) (x : Turn) → TurnSteps tells files failures v a d x new → new.roster.loggers ≡ v.roster.loggers
  turn_stays duty.Free x h = absurd h
  turn_stays (duty.Keeps m) x h = ap (λ (z : SystemView S). z.roster.loggers) h.1
  turn_stays (duty.Dumps d) x h =
      ap (λ (z : SystemView S). z.roster.loggers) h.1
      ∙ posting_stays (with_roster v (emptied v.roster d.logger)) a (policy_at v.roster d.logger) (dumped_by v d)
  turn_stays (duty.Posts policy ms) x h = absurd h
  turn_stays duty.Works x h = absurd h
  turn_stays (duty.Serves t i done) x h = ap (λ (z : SystemView S). z.roster.loggers) h.after

  step_stays : (x : Stepped) (b : Bool) → MatchBool b (TurnTold tells files failures v a x new) (RoundSteps v a x new)
      → new.roster.loggers ≡ v.roster.loggers
  step_stays x true h = turn_stays (duty_of v a) h.0 h.2
  step_stays x false h =
      ap (λ (z : SystemView S). z.roster.loggers) h.1
      ∙ follows_stays (with_desk v (desk_stepped v.desk a)) a (duty_of v a) (desk_told v.desk a)

well_stays : {S : Type 0} (tells : Bool) (files : S → Files) (failures : S → ℕ) (s next : Stage S) (a : ℕ) (text : List ℕ)
    → StepsWell tells files failures s a text next → next.system.roster.loggers ≡ s.system.roster.loggers
well_stays tells files failures s next a text (inl h) =
    step_stays tells files failures s.system next.system a h.0.told (is_idle (round_of s.system.desk.world a)) h.0.steps
well_stays {S} tells files failures s next a text (inr h) = ap (λ (z : Stage S). z.system.roster.loggers) h.2

-- what a system does with other loggers
module _ {S : Type 0} (v : SystemView S) (ks : List Logger) where
  posting_by : (a : ℕ) (p : Policy) (ms : List Message) → posting (with_loggers v ks) a p ms ≡ with_loggers (posting v a p ms) ks
  posting_by a p [] = refl
  posting_by a p (m ∷ ms) = refl

  on_by : (a : ℕ) (p : Policy) (ms : List Message) (r : Option (Outcome Item))
      → posting_on (with_loggers v ks) a p ms r ≡ with_loggers (posting_on v a p ms r) ks
  on_by a p ms None = refl
  on_by a p ms (Some r) = posting_by a p ms

  follows_by : (a : ℕ) (d : Duty) (s : DeskStepped Item) → follows (with_loggers v ks) a d s ≡ with_loggers (follows v a d s) ks
  follows_by a duty.Free s = refl
  follows_by a (duty.Keeps m) s = refl
  follows_by a (duty.Dumps d) s = refl
  follows_by a (duty.Posts p ms) s = on_by a p ms s.outcome
  follows_by a duty.Works s = refl
  follows_by a (duty.Serves t i done) s = refl

  sink_by : (t : Option SinkTurn) → sink_of (with_loggers v ks) t ≡ sink_of v t
  sink_by None = refl
  sink_by (Some t) = refl

module _ {S : Type 0} (v : SystemView S) (ks : List Logger) (same : SameLoggers v.roster.loggers ks) where
  log_by : (b : Bool) (a : ℕ) (m : Message)
      → with_duty (posting_unless b (with_loggers v ks) a m) a (kept_after (with_loggers v ks).roster m)
      ≡ with_loggers (with_duty (posting_unless b v a m) a (kept_after v.roster m)) ks
  log_by true a m =
      ap (λ k. with_duty (with_loggers v ks) a (if k == 0 then duty.Free else duty.Keeps m)) (same.backtrace m.logger)
  log_by false a m =
      ap (λ p. with_duty (with_desk (with_loggers v ks) (post_began v.desk a p (item.Text m))) a (kept_after (with_loggers v ks).roster m))
      (same.policy m.logger)
      ∙ ap (λ k. with_duty (with_desk (with_loggers v ks) (post_began v.desk a (policy_at v.roster m.logger) (item.Text m))) a
      (if k == 0 then duty.Free else duty.Keeps m))
      (same.backtrace m.logger)

  flush_by : (a n : ℕ) → begun (with_loggers v ks) a (deed.Flush n) ≡ with_loggers (begun v a (deed.Flush n)) ks
  flush_by a n = ap (λ p. with_duty (with_desk (with_loggers v ks) (post_began v.desk a p (item.Flush n))) a duty.Free) (same.policy n)

  dump_by : (a : ℕ) (time : ℤ) (n : ℕ) → begun (with_loggers v ks) a (deed.Dump time n) ≡ with_loggers (begun v a (deed.Dump time n)) ks
  dump_by a time n =
      ap (λ k. with_duty (with_loggers v ks) a (duty.Dumps (record { logger = n; time = time; thread = a; most = k }))) (same.backtrace n)

  owes_by : (d : Duty) → owes (with_loggers v ks).roster d ≡ owes v.roster d
  owes_by duty.Free = refl
  owes_by (duty.Keeps m) = refl
  owes_by (duty.Dumps d) = refl
  owes_by (duty.Posts p ms) = refl
  owes_by duty.Works = refl
  owes_by (duty.Serves t i done) = ap (λ ts. nat_lt done (length ts)) (same.turns (logger_of i) t i)

  free_by : (a : ℕ) → is_free (with_loggers v ks) a ≡ is_free v a
  free_by a = ap (λ b. is_idle (round_of v.desk.world a) && not b) (owes_by (duty_of v a))

  fit_by : (level : LogLevel) (text : List ℕ) (n : Option ℕ)
      → of_number false (is_fit (with_loggers v ks) level text) n ≡ of_number false (is_fit v level text) n
  fit_by level text None = refl
  fit_by level text (Some n) =
      ap (λ k. (is_below level (level_at v.roster n) && (k == 0)) || nat_le (length text) v.outputs.text_limit) (same.backtrace n)

  lacks_by : (a : ℕ) → HasNoSink v a → HasNoSink (with_loggers v ks) a
  lacks_by a h = record {
    idle = h.idle;
    ticket = h.ticket;
    item = h.item;
    done = h.done;
    serves = h.serves;
    none = ap (λ ts. sink_of (with_loggers v ks) (slice_get ts h.done)) (same.turns (logger_of h.item) h.ticket h.item)
        ∙ (sink_by v ks (slice_get (turns_by (spec_at v.roster.loggers (logger_of h.item)) h.ticket h.item) h.done) ∙ h.none);
  }

  module _ (tells : Bool) (files : S → Files) (failures : S → ℕ) (new : SystemView S) (a : ℕ) where
    turn_by : (d : Duty) (x : Turn) → TurnSteps tells files failures v a d x new
        → TurnSteps tells files failures (with_loggers v ks) a d x (with_loggers new ks)
    turn_by duty.Free x h = absurd h
    turn_by (duty.Keeps m) x h = (h.0, ap (λ (z : SystemView S). with_loggers z ks) h.1)
    turn_by (duty.Dumps d) x h =
        let w = with_roster v (emptied v.roster d.logger) in (
          h.0,
          ap (λ (z : SystemView S). with_loggers z ks) h.1
              ∙ (sym (posting_by w ks a (policy_at v.roster d.logger) (dumped_by v d))
              ∙ ap (λ p. posting (with_loggers w ks) a p (dumped_by v d)) (sym (same.policy d.logger))),
        )
    turn_by (duty.Posts policy ms) x h = absurd h
    turn_by duty.Works x h = absurd h
    turn_by (duty.Serves t i done) x h = record {
      turn = h.turn;
      next = ap (λ ts. slice_get ts done) (same.turns (logger_of i) t i) ∙ h.next;
      outputs = h.outputs;
      makes = h.makes;
      after = ap (λ (z : SystemView S). with_loggers z ks) h.after;
    }

    step_by : (x : Stepped) (b : Bool) → MatchBool b (TurnTold tells files failures v a x new) (RoundSteps v a x new)
        → MatchBool b (TurnTold tells files failures (with_loggers v ks) a x (with_loggers new ks))
        (RoundSteps (with_loggers v ks) a x (with_loggers new ks))
    step_by x true h = (h.0, h.1, turn_by (duty_of v a) h.0 h.2)
    step_by x false h =
        let w = with_desk v (desk_stepped v.desk a) in (
          h.0,
          ap (λ (z : SystemView S). with_loggers z ks) h.1 ∙ sym (follows_by w ks a (duty_of v a) (desk_told v.desk a)),
        )

-- what a stage shows with other loggers
module _ {S : Type 0} (s : Stage S) (ks : List Logger) (same : SameLoggers s.system.roster.loggers ks) where
  numbered_by : (f g : ℕ → SystemView S) → ((k : ℕ) → f k ≡ with_loggers (g k) ks) → (n : Option ℕ)
      → of_number (by_loggers s ks) (λ k. with_system (by_loggers s ks) (f k)) n ≡ by_loggers (of_number s (λ k. with_system s (g k)) n) ks
  numbered_by f g h None = refl
  numbered_by f g h (Some n) = ap (with_system s) (h n)

  named_by : (f g : ℕ → SystemView S) → ((k : ℕ) → f k ≡ with_loggers (g k) ks) → (name : List ℕ)
      → of_number (by_loggers s ks) (λ k. with_system (by_loggers s ks) (f k)) (number_of ks name)
      ≡ by_loggers (of_number s (λ k. with_system s (g k)) (number_in s name)) ks
  named_by f g h name =
      ap (of_number (by_loggers s ks) (λ k. with_system (by_loggers s ks) (f k))) (same.number name) ∙ numbered_by f g h (number_in s name)

  act_by : (act : Act) → (after_act (by_loggers s ks) act).1 ≡ by_loggers (after_act s act).1 ks
  act_by (Ring places first) = refl
  act_by (Push a text) = refl
  act_by (Pop a) = refl
  act_by (Post a policy text) = refl
  act_by (Work a) = refl
  act_by (Log a time name level text) =
      named_by (λ n. logging (with_loggers s.system ks) a (message_by a time n level text))
      (λ n. logging s.system a (message_by a time n level text))
      (λ n. let m = message_by a time n level text in
      log_by s.system ks same (is_below m.level (level_at s.system.roster m.logger)) a m) name
  act_by (Flush a name) =
      named_by (λ n. begun (with_loggers s.system ks) a (deed.Flush n)) (λ n. begun s.system a (deed.Flush n))
      (flush_by s.system ks same a) name
  act_by (Dump a time name) =
      named_by (λ n. begun (with_loggers s.system ks) a (deed.Dump time n)) (λ n. begun s.system a (deed.Dump time n))
      (dump_by s.system ks same a time) name
  act_by (Level name level) =
      named_by (λ n. with_roster (with_loggers s.system ks) (with_level (with_loggers s.system ks).roster n level))
      (λ n. with_roster s.system (with_level s.system.roster n level)) (λ n. refl) name
  act_by Cells = refl
  act_by Counts = refl

  said_by : (act : Act) → (after_act (by_loggers s ks) act).0 ≡ (after_act s act).0
  said_by (Ring places first) = refl
  said_by (Push a text) = refl
  said_by (Pop a) = refl
  said_by (Post a policy text) = refl
  said_by (Work a) = refl
  said_by (Log a time name level text) = ap (of_number [] (log_text s.system a level)) (same.number name)
  said_by (Flush a name) = refl
  said_by (Dump a time name) = refl
  said_by (Level name level) = refl
  said_by Cells = refl
  said_by Counts = refl

  may_by : (act : Act) → may_do (by_loggers s ks) act ≡ may_do s act
  may_by (Ring places first) = refl
  may_by (Push a text) = refl
  may_by (Pop a) = refl
  may_by (Post a policy text) = refl
  may_by (Work a) = free_by s.system ks same a
  may_by (Log a time name level text) =
      ap (λ b. b && of_number false (is_fit (with_loggers s.system ks) level text) (number_of ks name)) (free_by s.system ks same a)
      ∙ (ap (λ n. is_free s.system a && of_number false (is_fit (with_loggers s.system ks) level text) n) (same.number name)
      ∙ ap (λ b. is_free s.system a && b) (fit_by s.system ks same level text (number_in s name)))
  may_by (Flush a name) =
      ap (λ b. b && is_there (number_of ks name)) (free_by s.system ks same a)
      ∙ ap (λ n. is_free s.system a && is_there n) (same.number name)
  may_by (Dump a time name) =
      ap (λ b. b && is_there (number_of ks name)) (free_by s.system ks same a)
      ∙ ap (λ n. is_free s.system a && is_there n) (same.number name)
  may_by (Level name level) = ap is_there (same.number name)
  may_by Cells = refl
  may_by Counts = refl

  well_by : (tells : Bool) (files : S → Files) (failures : S → ℕ) (next : Stage S) (a : ℕ) (text : List ℕ)
      → StepsWell tells files failures s a text next → StepsWell tells files failures (by_loggers s ks) a text (by_loggers next ks)
  well_by tells files failures next a text (inl h) =
      inl (
        record {
          told = h.0.told;
          steps = step_by s.system ks same tells files failures next.system a h.0.told (is_idle (round_of s.system.desk.world a)) h.0.steps;
          printed = h.0.printed;
          rest = ap (λ (z : Stage S). by_loggers z ks) h.0.rest;
        },
        h.1,
      )
  well_by tells files failures next a text (inr h) =
      inr (lacks_by s.system ks same a h.0, h.1, ap (λ (z : Stage S). by_loggers z ks) h.2)

-- the sinks of two stages are alike, and their loggers say the same
pub record AgreeingStages {S : Type 0} (files : S → Files) (s t : Stage S) : Type 0 where
  pub loggers : SameLoggers t.system.roster.loggers s.system.roster.loggers
  pub stages : AlikeStages files s (by_loggers t s.system.roster.loggers)

module _ {S : Type 0} (tells : Bool) (files : S → Files) (failures : S → ℕ) (listing : S → List (List ℕ × List ℕ))
    (base : Agrees (faultless tells files failures listing) (AlikeStages files)) where
  -- where the loggers of both stayed
  still : (ls ks : List Logger) (u v : Stage S) → SameLoggers ks ls → v.system.roster.loggers ≡ ks → AlikeStages files u (by_loggers v ls)
      → AgreeingStages files u v
  still ls ks u v same stays alike =
      let own : ls ≡ u.system.roster.loggers = ap (λ (z : Stage S). z.system.roster.loggers) alike.1 in
      record {
        loggers = subst (λ z. SameLoggers v.system.roster.loggers z) own (subst (λ z. SameLoggers z ls) (sym stays) same);
        stages = subst (λ z. AlikeStages files u (by_loggers v z)) own alike;
      }

  does_agree : {s t : Stage S} (act : Act) {x y : List ℕ} {u v : Stage S} → AgreeingStages files s t
      → (x ≡ (after_act s act).0) × (u ≡ (after_act s act).1) → (y ≡ (after_act t act).0) × (v ≡ (after_act t act).1)
      → (x ≡ y) × AgreeingStages files u v
  does_agree {s} {t} act {x} {y} {u} {v} r h g =
      let ls = s.system.roster.loggers in
      let does = base.does s (by_loggers t ls) act x y u (by_loggers v ls) r.stages h
      (g.0 ∙ sym (said_by t ls r.loggers act), ap (λ (z : Stage S). by_loggers z ls) g.1 ∙ sym (act_by t ls r.loggers act)) in (
        does.0,
        still ls t.system.roster.loggers u v r.loggers (ap (λ (z : Stage S). z.system.roster.loggers) g.1 ∙ act_stays t act) does.1,
      )

  steps_agree : {s t : Stage S} {a : ℕ} {x y : List ℕ} {u v : Stage S} → AgreeingStages files s t → StepsWell tells files failures s a x u
      → StepsWell tells files failures t a y v → (x ≡ y) × AgreeingStages files u v
  steps_agree {s} {t} {a} {x} {y} {u} {v} r h g =
      let ls = s.system.roster.loggers in
      let step = base.steps s (by_loggers t ls) a x y u (by_loggers v ls) r.stages h
      (well_by t ls r.loggers tells files failures v a y g) in
      (step.0, still ls t.system.roster.loggers u v r.loggers (well_stays tells files failures t v a y g) step.1)

  pub loggers_agree : Agrees (faultless tells files failures listing) (AgreeingStages files)
  loggers_agree = record {
    free = λ s t a r.
        base.free s (by_loggers t s.system.roster.loggers) a r.stages ∙ free_by t.system s.system.roster.loggers r.loggers a;
    may = λ s t act r.
        base.may s (by_loggers t s.system.roster.loggers) act r.stages ∙ may_by t s.system.roster.loggers r.loggers act;
    does = λ s t act x y u v. does_agree {s = s} {t = t} act {x = x} {y = y} {u = u} {v = v};
    steps = λ s t a x y u v. steps_agree {s = s} {t = t} {a = a} {x = x} {y = y} {u = u} {v = v};
    files = λ s t r. base.files s (by_loggers t s.system.roster.loggers) r.stages;
  }
