-- On the scene of a script with a configuration something comes of each act and of each step.
use Rattle.std.specs.Prelude.{◌≡◌, ◌⊎◌, ℕ, ◌+◌, ◌&&◌, not, Bool, true, false, if◌then◌else◌, MatchBool, Option, Some, None, List, []}
use Rattle.std.specs.Prelude.{◌∷◌, ◌++◌, length, slice_get, slice_set, Result, Ok, Err}
use Rattle.std.proofs.Common.{inl, inr, refl, sym, ap, subst, ◌∙◌}
use Rattle.std.proofs.lemmas.Bool.{false≢true}
use Rattle.alog_core.specs.World.{is_idle, round_of}
use Rattle.alog_msg.specs.declared.item.Item.{Item}
use Rattle.alog_msg.specs.declared.item.Item.TheVariants as item
use Rattle.alog_msg.specs.declared.level.Level.{Level}
use Rattle.alog_msg.specs.declared.message.Message.{Message}
use Rattle.alog_policy.specs.Desk.{desk_told}
use Rattle.alog_registry.specs.declared.work.SinkDeed.{SinkDeed}
use Rattle.alog_registry.specs.declared.work.SinkDeed.TheVariants as does
use Rattle.alog_registry.specs.declared.work.SinkTurn.{SinkTurn}
use Rattle.alog_sink.specs.Files.{Files}
use Rattle.alog_sink.specs.Kept.{IsSameTarget}
use Rattle.alog_sink.specs.Lines.{AreWrittenOf, admits, admitted, last_time}
use Rattle.alog_sink.specs.Sinks.{SinkFlushes, SinkTakes}
use Rattle.alog_sink.specs.Turn.{AllFlush, AllTake, Answer, FanView, Flushes, LeafView, Takes, first_fault}
use Rattle.alog_sink.specs.declared.leaf.SinkError.{SinkError}
use Rattle.alog_sink.specs.declared.leaf.SinkError.TheVariants as errors
use Rattle.alog_sink.specs.declared.leaf.Taken.TheVariants.{Below, Written as Wrote}
use Rattle.alog_sink.specs.declared.sink.Sink.{Sink}
use Rattle.alog_sink.specs.declared.sink.Sink.TheVariants.{Leaf, Fan}
use Rattle.alog_sink.specs.declared.target.Target.{Target}
use Rattle.alog_sink.specs.declared.target.Target.TheVariants.{Memory, Rotating, Daily}
use Rattle.alog_system.specs.Outputs.{DoesTurn, told_of_flush, told_of_text}
use Rattle.alog_system.specs.Roster.{turns_for}
use Rattle.alog_system.specs.Step.{RoundSteps, SystemSteps, TurnSteps, TurnTold, after_round, dumped_by, posting, told_in_round}
use Rattle.alog_system.specs.Roster.{emptied, keeping, kept_at, policy_at}
use Rattle.alog_system.specs.System.{SystemView, duty_of, item_of, owes, with_duty, with_outputs, with_roster}
use Rattle.alog_system.specs.declared.duty.Duty.{Duty}
use Rattle.alog_system.specs.declared.duty.Duty.TheVariants.{Free, Keeps, Dumps, Posts, Works, Serves}
use Rattle.alog_system.specs.declared.stepped.Stepped.TheVariants.{Turned}
use Rattle.alog_system.specs.declared.stepped.Turn.{Turn}
use Rattle.alog_system.specs.declared.stepped.Turn.TheVariants.{Kept, Dumped, Fault}
use Rattle.alog_replay.specs.Configured.{Stage, StepsIn, configured, after_act, told_text, told_turn, with_system}
use Rattle.alog_replay.specs.Refusing.{HasNoSink, Refuses, any_writes, broken_leaf, refused_fan, refused_sink, sink_of, writes}
use Rattle.alog_replay.specs.Scene.{GoesOn}

-- which answer it is
abbrev pub IsBelow : Answer → Type 0
IsBelow (Ok Below) = Unit {0}
IsBelow (Ok Wrote) = ⊥
IsBelow (Err e) = ⊥

abbrev pub IsDone : Result Unit SinkError → Type 0
IsDone (Ok u) = Unit {0}
IsDone (Err e) = ⊥

abbrev pub IsBroken : {A : Type 0} → Result A SinkError → Type 0
IsBroken (Ok a) = ⊥
IsBroken (Err errors.Broken) = Unit {0}
IsBroken (Err errors.Store) = ⊥

same_target : (t : Target) → IsSameTarget t t
same_target (Memory j) = refl
same_target (Rotating r) = refl
same_target (Daily d) = refl

-- a message below the level is in no line
not_admitted : (own : Level) (ms : List Message) (m : Message) → admits own m.level ≡ false → admitted own (ms ++ m ∷ []) ≡ admitted own ms
not_admitted own [] m e = let none : List Message = [] in ap (λ (b : Bool). if b then m ∷ none else none) e
not_admitted own (x ∷ ms) m e = ap (λ (l : List Message). if admits own x.level then x ∷ l else l) (not_admitted own ms m e)

module _ {S : Type 0} (tells : Bool) (files : S → Files) (failures : S → ℕ) where
  below : (l : LeafView S) (m : Message) → admits l.face.level m.level ≡ false → Takes tells files failures l m (Ok Below) l
  below l m h = record {
    below = ((λ e. h), (λ e. refl));
    broken = ((λ e. absurd (subst IsBelow e tt)), (λ p. absurd (false≢true (sym h ∙ p.0))));
    nothing = λ e. refl;
    face = refl;
    target = same_target l.target;
    wrote = λ e. absurd (subst IsBelow e tt);
    failed = λ e. absurd (subst IsBelow e tt);
    rose = λ e r. absurd (subst IsBelow e tt);
    stayed = refl;
    stands = λ t opening ms s. record {
      whole = s.whole;
      written = s.written;
      lines = subst (λ (xs : List Message). AreWrittenOf l.face None xs s.written) (sym (not_admitted l.face.level ms m h)) s.lines;
      kept = s.kept;
      previous = s.previous ∙ ap (last_time None) (sym (not_admitted l.face.level ms m h));
    };
    writes = λ t e. absurd (subst IsBelow e tt);
    breaks = λ t e. absurd (subst IsBelow e tt);
  }

  broken : (l : LeafView S) (m : Message) → admits l.face.level m.level ≡ true → l.broken ≡ true
      → Takes tells files failures l m (Err errors.Broken) l
  broken l m h b = record {
    below = ((λ e. absurd (subst IsBroken e tt)), (λ e. absurd (false≢true (sym e ∙ h))));
    broken = ((λ e. (h, b)), (λ p. refl));
    nothing = λ e. refl;
    face = refl;
    target = same_target l.target;
    wrote = λ e. absurd (subst IsBroken e tt);
    failed = λ e. absurd (subst IsBroken e tt);
    rose = λ e r. absurd (subst IsBroken e tt);
    stayed = tt;
    stands = λ t opening ms s. tt;
    writes = λ t e. absurd (subst IsBroken e tt);
    breaks = λ t e. absurd (subst IsBroken e tt);
  }

  -- a leaf that is to write no line
  quiet_by : (l : LeafView S) (m : Message) (b c : Bool) → admits l.face.level m.level ≡ b → l.broken ≡ c → (b && not c) ≡ false
      → (answer : Answer) × Takes tells files failures l m answer l
  quiet_by l m false c p q e = (Ok Below, below l m p)
  quiet_by l m true true p q e = (Err errors.Broken, broken l m p q)
  quiet_by l m true false p q e = absurd (false≢true (sym e))

  quiet : (l : LeafView S) (m : Message) → writes m l ≡ false → (answer : Answer) × Takes tells files failures l m answer l
  quiet l m e = quiet_by l m (admits l.face.level m.level) l.broken refl refl e

  first_idle : (m : Message) (l : LeafView S) (leaves : List (LeafView S)) (b : Bool) → writes m l ≡ b
      → (if b then true else any_writes m leaves) ≡ false
      → (any_writes m leaves ≡ false → (answers : List Answer) × AllTake tells files failures leaves m answers leaves)
      → (answers : List Answer) × AllTake tells files failures (l ∷ leaves) m answers (l ∷ leaves)
  first_idle m l leaves true w e rest = absurd (false≢true (sym e))
  first_idle m l leaves false w e rest = let first = quiet l m w in let more = rest e in (first.0 ∷ more.0, (first.1, more.1))

  all_idle : (m : Message) (leaves : List (LeafView S)) → any_writes m leaves ≡ false
      → (answers : List Answer) × AllTake tells files failures leaves m answers leaves
  all_idle m [] e = ([], tt)
  all_idle m (l ∷ leaves) e = first_idle m l leaves (writes m l) refl e (all_idle m leaves)

  -- what comes of a text on a sink: what its law says, or its stores refuse
  abbrev pub TakesOrRefuses : Sink S → Message → Type 0
  TakesOrRefuses sink m =
      ((answer : Answer) × (new : Sink S) × SinkTakes tells files failures sink m answer new)
      ⊎ ((after : Sink S) × (refused_sink m sink ≡ Some after))

  leaf_takes : (l : LeafView S) (m : Message) (b : Bool) → writes m l ≡ b → TakesOrRefuses (Leaf l) m
  leaf_takes l m true e =
      let after : Sink S = Leaf (broken_leaf l) in
      let none : Option (Sink S) = None in
      inr (after, ap (λ (w : Bool). if w then Some after else none) e)
  leaf_takes l m false e = let given = quiet l m e in inl (given.0, Leaf l, given.1)

  fan_takes : (f : FanView S) (m : Message) (b c : Bool) → admits f.level m.level ≡ b → any_writes m f.members ≡ c → TakesOrRefuses (Fan f) m
  fan_takes f m false c p q =
      inl (Ok Below, Fan f, record { level = refl; below = λ h. (refl, refl); given = λ t. absurd (false≢true (sym p ∙ t)) })
  fan_takes f m true false p q =
      let given = all_idle m f.members q in
      inl (
        first_fault Wrote given.0,
        Fan f,
        record { level = refl; below = λ h. absurd (false≢true (sym h ∙ p)); given = λ t. (given.0, given.1, refl) },
      )
  fan_takes f m true true p q =
      let after : Sink S = Fan (refused_fan m f) in
      let none : Option (Sink S) = None in
      inr (
        after,
        ap (λ (w : Bool). if w && any_writes m f.members then Some after else none) p
            ∙ ap (λ (w : Bool). if w then Some after else none) q,
      )

  takes_or_refuses : (sink : Sink S) (m : Message) → TakesOrRefuses sink m
  takes_or_refuses (Leaf l) m = leaf_takes l m (writes m l) refl
  takes_or_refuses (Fan f) m = fan_takes f m (admits f.level m.level) (any_writes m f.members) refl refl

  -- what comes of a flush
  leaf_flushes : (l : LeafView S) (b : Bool) → l.broken ≡ b → (answer : Result Unit SinkError) × Flushes tells files failures l answer l
  leaf_flushes l true h = (
    Err errors.Broken,
    record {
      broken = ((λ e. h), (λ e. refl));
      nothing = λ e. refl;
      face = refl;
      target = refl;
      done = tt;
      failed = λ e. absurd (subst IsBroken e tt);
      rose = λ e r. absurd (subst IsBroken e tt);
      stayed = tt;
      same = λ t name. refl;
      stands = λ t opening ms s. tt;
      quiet = λ no whole. absurd (false≢true (sym whole ∙ h));
    },
  )
  leaf_flushes l false h = (
    Ok tt,
    record {
      broken = ((λ e. absurd (subst IsDone e tt)), (λ b. absurd (false≢true (sym h ∙ b))));
      nothing = λ e. refl;
      face = refl;
      target = refl;
      done = h;
      failed = λ e. absurd (subst IsDone e tt);
      rose = λ e r. absurd (subst IsDone e tt);
      stayed = refl;
      same = λ t name. refl;
      stands = λ t opening ms s. s;
      quiet = λ no whole. (refl, refl);
    },
  )

  all_flush : (leaves : List (LeafView S)) → (answers : List (Result Unit SinkError)) × AllFlush tells files failures leaves answers leaves
  all_flush [] = ([], tt)
  all_flush (l ∷ leaves) =
      let first = leaf_flushes l l.broken refl in let more = all_flush leaves in (first.0 ∷ more.0, (first.1, more.1))

  flushes : (sink : Sink S) → (answer : Result Unit SinkError) × SinkFlushes tells files failures sink answer sink
  flushes (Leaf l) = leaf_flushes l l.broken refl
  flushes (Fan f) =
      let all = all_flush f.members in (first_fault tt all.0, record { level = refl; answers = all.0; given = all.1; first = refl })

  -- what comes of a turn on a sink
  abbrev pub TurnsOrRefuses : SinkTurn → SinkDeed → Item → Sink S → Type 0
  TurnsOrRefuses t d i sink =
      ((told : Turn) × (after : Sink S) × DoesTurn tells files failures t d i sink told after)
      ⊎ ((m : Message) × (after : Sink S) × (i ≡ item.Text m) × (d ≡ does.Take) × (refused_sink m sink ≡ Some after))

  text_turn : (t : SinkTurn) (m : Message) (sink : Sink S) → TakesOrRefuses sink m → TurnsOrRefuses t does.Take (item.Text m) sink
  text_turn t m sink (inl x) = inl (told_of_text t x.0, x.1, (x.0, x.2, refl))
  text_turn t m sink (inr x) = inr (m, x.0, refl, refl, x.1)

  turns_or_refuses : (t : SinkTurn) (d : SinkDeed) (i : Item) (sink : Sink S) → TurnsOrRefuses t d i sink
  turns_or_refuses t does.Take (item.Text m) sink = text_turn t m sink (takes_or_refuses sink m)
  turns_or_refuses t does.Take (item.Flush n) sink = let f = flushes sink in inl (told_of_flush t f.0, sink, (f.0, f.1, refl))
  turns_or_refuses t does.Take item.Stop sink = let f = flushes sink in inl (told_of_flush t f.0, sink, (f.0, f.1, refl))
  turns_or_refuses t does.Flush i sink = let f = flushes sink in inl (told_of_flush t f.0, sink, (f.0, f.1, refl))

  -- something comes of a step
  abbrev pub SomeStep : Stage S → ℕ → Type 0
  SomeStep s a = (text : List ℕ) × (next : Stage S) × StepsIn tells files failures s a text next

  turned : (s : Stage S) (a : ℕ) (d : Duty) (t : Turn) (system : SystemView S) → is_idle (round_of s.system.desk.world a) ≡ true
      → duty_of s.system a ≡ d → TurnSteps tells files failures s.system a d t system → SomeStep s a
  turned s a d t system idle is steps =
      let v = s.system in
      let here : TurnSteps tells files failures v a (duty_of v a) t system =
      subst (λ (x : Duty). TurnSteps tells files failures v a x t system) (sym is) steps in
      let told : TurnTold tells files failures v a (Turned t) system = (t, refl, here) in
      let whole : SystemSteps tells files failures v a (Turned t) system =
      subst (λ (b : Bool). MatchBool b (TurnTold tells files failures v a (Turned t) system) (RoundSteps v a (Turned t) system)) (sym idle) told in (
        told_turn s.names a t,
        with_system s system,
        inl (record { told = Turned t; steps = whole; printed = refl; rest = refl }),
      )

  abbrev with_sink : SystemView S → ℕ → ℕ → Item → ℕ → SinkTurn → Sink S → SystemView S
  with_sink v a ticket i done t after =
      with_duty (with_outputs v (record { sinks = slice_set v.outputs.sinks t.sink after; text_limit = v.outputs.text_limit })) a
      (Serves ticket i (done + 1))

  -- An actor in no round serves this item, and has made so many turns of it.
  record IsServing (s : Stage S) (a ticket : ℕ) (i : Item) (done : ℕ) : Type 0 where
    idle : is_idle (round_of s.system.desk.world a) ≡ true
    serves : duty_of s.system a ≡ Serves ticket i done

  served : {s : Stage S} {a ticket : ℕ} {i : Item} {done : ℕ} → IsServing s a ticket i done → (t : SinkTurn) (sink : Sink S)
      → slice_get (turns_for s.system.roster ticket i) done ≡ Some t → slice_get s.system.outputs.sinks t.sink ≡ Some sink
      → TurnsOrRefuses t t.deed i sink → SomeStep s a
  served {s} {a} {ticket} {i} {done} is t sink next there (inl x) =
      let v = s.system in
      turned s a (Serves ticket i done) x.0 (with_sink v a ticket i done t x.1) is.idle is.serves
      (record {
        turn = t;
        next = next;
        outputs = record { sinks = slice_set v.outputs.sinks t.sink x.1; text_limit = v.outputs.text_limit };
        makes = record { before = sink; after = x.1; there = there; turn = x.2; others = refl };
        after = refl;
      })
  served {s} {a} {ticket} {i} {done} is t sink next there (inr x) =
      let v = s.system in
      let told : Turn = Fault t.tag t.sink in
      let after = with_sink v a ticket (item.Text x.0) done t x.1 in
      let refuses : Refuses v a told after = record {
        idle = is.idle;
        ticket = ticket;
        message = x.0;
        done = done;
        serves = is.serves ∙ ap (λ (j : Item). Serves ticket j done) x.2;
        turn = t;
        is = subst (λ (j : Item). slice_get (turns_for v.roster ticket j) done ≡ Some t) x.2 next;
        takes = x.3;
        before = sink;
        after = x.1;
        there = there;
        refused = x.4;
        says = refl;
        stays = refl;
      } in
      (told_turn s.names a told, with_system s after, inr (inl (told, after, refuses, refl, refl)))

  nowhere : (s : Stage S) (a : ℕ) → HasNoSink s.system a → SomeStep s a
  nowhere s a h = ([], s, inr (inr (h, refl, refl)))

  on_sink : {s : Stage S} {a ticket : ℕ} {i : Item} {done : ℕ} → IsServing s a ticket i done → (t : SinkTurn) (o : Option (Sink S))
      → slice_get (turns_for s.system.roster ticket i) done ≡ Some t → slice_get s.system.outputs.sinks t.sink ≡ o → SomeStep s a
  on_sink {s} {a} {ticket} {i} {done} is t None next there =
      nowhere s a (record {
        idle = is.idle;
        ticket = ticket;
        item = i;
        done = done;
        serves = is.serves;
        none = ap (sink_of s.system) next ∙ there;
      })
  on_sink {i = i} is t (Some sink) next there = served is t sink next there (turns_or_refuses t t.deed i sink)

  serving : {s : Stage S} {a ticket : ℕ} {i : Item} {done : ℕ} → IsServing s a ticket i done → (o : Option SinkTurn)
      → slice_get (turns_for s.system.roster ticket i) done ≡ o → SomeStep s a
  serving {s} {a} {ticket} {i} {done} is None next =
      nowhere s a
      (record { idle = is.idle; ticket = ticket; item = i; done = done; serves = is.serves; none = ap (sink_of s.system) next })
  serving {s = s} is (Some t) next = on_sink is t (slice_get s.system.outputs.sinks t.sink) next refl

  -- a turn of an actor that is in a call, but in no round
  by_duty : (s : Stage S) (a : ℕ) (d : Duty) → is_idle (round_of s.system.desk.world a) ≡ true → duty_of s.system a ≡ d
      → owes s.system.roster d ≡ true → SomeStep s a
  by_duty s a Free idle is h = absurd (false≢true h)
  by_duty s a (Keeps m) idle is h =
      let v = s.system in turned s a (Keeps m) Kept (with_duty (with_roster v (keeping v.roster m)) a Free) idle is (refl, refl)
  by_duty s a (Dumps d) idle is h =
      let v = s.system in
      turned s a (Dumps d) (Dumped (length (kept_at v.roster d.logger).messages))
      (posting (with_roster v (emptied v.roster d.logger)) a (policy_at v.roster d.logger) (dumped_by v d)) idle is (refl, refl)
  by_duty s a (Posts p ms) idle is h = absurd (false≢true h)
  by_duty s a Works idle is h = absurd (false≢true h)
  by_duty s a (Serves t i done) idle is h =
      serving (record { idle = idle; serves = is }) (slice_get (turns_for s.system.roster t i) done) refl

  -- a step of a round
  in_round : (s : Stage S) (a : ℕ) → is_idle (round_of s.system.desk.world a) ≡ false → SomeStep s a
  in_round s a busy =
      let v = s.system in
      let told = told_in_round (duty_of v a) (desk_told v.desk a) in
      let system = after_round v a in
      let both : RoundSteps v a told system = (refl, refl) in
      let whole : SystemSteps tells files failures v a told system =
      subst (λ (b : Bool). MatchBool b (TurnTold tells files failures v a told system) (RoundSteps v a told system)) (sym busy) both in (
        told_text s.names a (item_of (duty_of system a)) told,
        with_system s system,
        inl (record { told = told; steps = whole; printed = refl; rest = refl }),
      )

  some_step : (s : Stage S) (a : ℕ) (b c : Bool) → is_idle (round_of s.system.desk.world a) ≡ b
      → owes s.system.roster (duty_of s.system a) ≡ c → (b && not c) ≡ false → SomeStep s a
  some_step s a false c p q e = in_round s a p
  some_step s a true true p q e = by_duty s a (duty_of s.system a) p refl q
  some_step s a true false p q e = absurd (false≢true (sym e))

  pub configured_goes_on : (listing : S → List (List ℕ × List ℕ)) → GoesOn (configured tells files failures listing)
  configured_goes_on listing = record {
    does = λ s act h. ((after_act s act).0, (after_act s act).1, (refl, refl));
    steps = λ s a h. some_step s a (is_idle (round_of s.system.desk.world a)) (owes s.system.roster (duty_of s.system a)) refl refl h;
  }
