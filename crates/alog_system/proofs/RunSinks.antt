-- What the sinks of a system stand for after a run, where a store may have failed.
use Rattle.std.proofs.Common.{◌≡◌, inl, inr, ℕ, zero, suc, Bool, true, false, cond, Option, Some, Result, Ok, Err, List, [], ◌∷◌, ◌++◌, set, refl, sym, ap, subst, ◌∙◌}
use Rattle.std.proofs.Common.{append-nil}
use Rattle.std.specs.Prelude.{slice_get}
use Rattle.alog_core.proofs.SharedCells.{on_test}
use Rattle.alog_msg.specs.declared.item.Item.{Item}
use Rattle.alog_msg.specs.declared.item.Item.TheVariants as item
use Rattle.alog_msg.specs.declared.level.Level.{Level}
use Rattle.alog_msg.specs.declared.message.Message.{Message}
use Rattle.alog_core.specs.declared.said.Said.{Said}
use Rattle.alog_core.specs.declared.said.Said.TheVariants as said
use Rattle.alog_policy.specs.Desk.{desk_told}
use Rattle.alog_policy.specs.declared.post.Stepped.{Stepped as DeskStepped}
use Rattle.alog_registry.specs.declared.logger.Logger.{Logger}
use Rattle.alog_registry.specs.declared.work.SinkDeed.{SinkDeed}
use Rattle.alog_registry.specs.declared.work.SinkDeed.TheVariants as sink_deed
use Rattle.alog_registry.specs.declared.work.SinkTurn.{SinkTurn}
use Rattle.alog_sink.specs.Files.{Files}
use Rattle.alog_sink.specs.LaneRuns.{Stood, AllStand}
use Rattle.alog_sink.specs.Lines.{admits, admitted}
use Rattle.alog_sink.specs.Sinks.{SinkTakes, SinkFlushes}
use Rattle.alog_sink.specs.Turn.{Answer, LeafView, FanView, StandsFor, Takes, Flushes}
use Rattle.alog_sink.specs.declared.leaf.SinkError.{SinkError}
use Rattle.alog_sink.specs.declared.leaf.Taken.TheVariants.{Below as WasBelow, Written}
use Rattle.alog_sink.specs.declared.sink.Sink.{Sink}
use Rattle.alog_sink.specs.declared.sink.Sink.TheVariants.{Leaf, Fan}
use Rattle.alog_system.specs.Acts.{Did, OnSink, Made, Act, steps_in, text_in, given_in, given_to}
use Rattle.alog_system.specs.Begin.{begun}
use Rattle.alog_system.specs.Faults.{IsFaultOn, AreFine, leaves, handed, MeetsNone, EachStands, SinkStands, with_more, FineSinkStands}
use Rattle.alog_system.specs.Outputs.{OutputsView, Turns, DoesTurn, told_of_text, told_of_flush}
use Rattle.alog_system.specs.Roster.{emptied, policy_at}
use Rattle.alog_system.specs.Runs.{Leads, starts, begins, steps, sets, made_by}
use Rattle.alog_system.specs.Step.{dumped_by, told_in_round, told_of_work}
use Rattle.alog_system.specs.System.{SystemView, duty_of, fresh_system, with_roster}
use Rattle.alog_system.specs.declared.duty.Duty.{Duty}
use Rattle.alog_system.specs.declared.duty.Duty.TheVariants.{Free, Keeps, Dumps, Posts, Works, Serves}
use Rattle.alog_system.specs.declared.stepped.Stepped.{Stepped}
use Rattle.alog_system.specs.declared.stepped.Stepped.TheVariants as stepped
use Rattle.alog_system.specs.declared.stepped.Turn.{Turn}
use Rattle.alog_system.proofs.RunCases.{Case, queued, kept, dumped, served, case_of}
use Rattle.alog_system.proofs.RunLeaves.{fine_more, fine_not, handed_none, IsFailed, failed_first, takes_has, flushes_has, each_stays, each_has}
use Rattle.alog_policy.proofs.SharedRunning.{not_mine}
use Rattle.alog_system.proofs.RunLists.{steps_begun, steps_made, steps_set}
use Rattle.alog_system.proofs.RunSame.{begun_outputs, after_round_same, posting_same}

-- what is found in a list after one of its places was set
get_set_same : {X : Type 0} (xs : List X) (k : ℕ) (x y : X) → slice_get xs k ≡ Some x → slice_get (set xs k y) k ≡ Some y
get_set_same [] k x y e = absurd (cc)
get_set_same (z ∷ xs) zero x y e = refl
get_set_same (z ∷ xs) (suc k) x y e = get_set_same xs k x y e

get_set_other : {X : Type 0} (xs : List X) (j k : ℕ) (y : X) → (j ≡ k → ⊥) → slice_get (set xs j y) k ≡ slice_get xs k
get_set_other [] j k y other = refl
get_set_other (z ∷ xs) zero zero y other = absurd (other refl)
get_set_other (z ∷ xs) zero (suc k) y other = refl
get_set_other (z ∷ xs) (suc j) zero y other = refl
get_set_other (z ∷ xs) (suc j) (suc k) y other = get_set_other xs j k y (λ e. other (ap suc e))

some_same : {X : Type 0} (x y : X) (o : Option X) → o ≡ Some x → o ≡ Some y → x ≡ y
some_same x y o e f = let both : Some x ≡ Some y = sym e ∙ f in cc

-- a sink stays of its kind, and a fan of its level
abbrev IsAlike : {S : Type 0} → Sink S → Sink S → Type 0
IsAlike (Leaf l) (Leaf o) = Unit {0}
IsAlike (Fan f) (Fan g) = g.level ≡ f.level
IsAlike _ _ = ⊥

is_alike : {S : Type 0} (s : Sink S) → IsAlike s s
is_alike (Leaf l) = tt
is_alike (Fan f) = refl

-- What a step tells of this sink: what it was given, and a fault exactly where the sink's answer is one.
record TellsOf {A : Type 0} (k : ℕ) (x : Made) (ms : List Message) (a : Result A SinkError) : Type 0 where
  pub given : given_in k x.did ≡ ms
  pub fault : IsFailed a → IsFaultOn k x.told
  pub fine : (IsFailed a → ⊥) → IsFaultOn k x.told → ⊥

module _ {S : Type 0} (tells : Bool) (files : S → Files) (failures : S → ℕ) (told : tells ≡ true) where
  -- This sink was the old one at first, and each of its leaves stands for what it was given since, or broke off.
  record StandsFrom (k : ℕ) (made : List Made) (old : Sink S) (stood : List Stood) (now : Sink S) : Type 0 where
    pub alike : IsAlike old now
    pub each : EachStands files old k made stood (leaves now)

  -- a sink after a text that it was given, and after a flush
  text_has : {k : ℕ} {made : List Made} {x : Made} {m : Message} {a : Answer} (sink o n : Sink S) (stood : List Stood)
      → TellsOf k x (m ∷ []) a → SinkTakes tells files failures o m a n → StandsFrom k made sink stood o
      → StandsFrom k (made ++ x ∷ []) sink stood n
  text_has {k} {made} {x} (Leaf l) (Leaf o) (Leaf n) (s ∷ []) says takes h = record {
    alike = tt;
    each = (
      takes_has tells files failures told (Leaf l) k made x says.given says.fault
          (λ served none. fine_more k made x none (says.fine served)) takes h.each.0,
      tt,
    );
  }
  text_has (Leaf l) (Leaf o) (Leaf n) [] says takes h = absurd h.each
  text_has (Leaf l) (Leaf o) (Leaf n) (s ∷ r ∷ stood) says takes h = absurd h.each.1
  text_has {k} {made} {x} {m} (Fan f) (Fan o) (Fan n) stood says takes h =
      record { alike = takes.level ∙ h.alike; each = at (admits o.level m.level) refl }
    where
      level : Level → Bool
      level l = admits l m.level

      given_is : (b : Bool) → admits o.level m.level ≡ b → handed (Fan f) (given_in k x.did) ≡ cond b (m ∷ []) []
      given_is b e =
          ap (λ (ms : List Message). admitted f.level ms) says.given
          ∙ (ap (λ (l : Level). cond (admits l m.level) (m ∷ []) []) (sym h.alike) ∙ ap (λ v. cond v (m ∷ []) []) e)

      at : (b : Bool) → admits o.level m.level ≡ b → EachStands files (Fan f) k (made ++ x ∷ []) stood n.members
      at true e =
          let does = takes.given e in
          each_has tells files failures told (Fan f) k made x {Does = λ p c q. Takes tells files failures p m c q}
          (λ s p q c failed takes_it has. takes_has tells files failures told (Fan f) k made x (given_is true e) failed (λ served none. tt)
          takes_it has)
          o.members does.0 n.members stood does.1 (λ failed. says.fault (subst IsFailed (sym does.2) (failed_first Written does.0 failed))) h.each
      at false e =
          subst (λ (g : FanView S). EachStands files (Fan f) k (made ++ x ∷ []) stood g.members) (sym (takes.below e).1)
          (each_stays tells files failures told (Fan f) k made x stood o.members (given_is false e) (λ none. tt) h.each)
  text_has (Leaf l) (Leaf o) (Fan n) stood says takes h = absurd takes
  text_has (Leaf l) (Fan o) n stood says takes h = absurd h.alike
  text_has (Fan f) (Fan o) (Leaf n) stood says takes h = absurd takes
  text_has (Fan f) (Leaf o) n stood says takes h = absurd h.alike

  flush_has : {k : ℕ} {made : List Made} {x : Made} {a : Result Unit SinkError} (sink o n : Sink S) (stood : List Stood)
      → TellsOf k x [] a → SinkFlushes tells files failures o a n → StandsFrom k made sink stood o
      → StandsFrom k (made ++ x ∷ []) sink stood n
  flush_has {k} {made} {x} (Leaf l) (Leaf o) (Leaf n) (s ∷ []) says does h = record {
    alike = tt;
    each = (
      flushes_has tells files failures told (Leaf l) k made x says.given says.fault
          (λ served none. fine_more k made x none (says.fine served)) does h.each.0,
      tt,
    );
  }
  flush_has (Leaf l) (Leaf o) (Leaf n) [] says does h = absurd h.each
  flush_has (Leaf l) (Leaf o) (Leaf n) (s ∷ r ∷ stood) says does h = absurd h.each.1
  flush_has {k} {made} {x} (Fan f) (Fan o) (Fan n) stood says does h =
      let none : handed (Fan f) (given_in k x.did) ≡ [] = ap (λ (ms : List Message). admitted f.level ms) says.given in
      record {
        alike = does.level ∙ h.alike;
        each = each_has tells files failures told (Fan f) k made x {Does = Flushes tells files failures}
            (λ s p q c failed flushes has. flushes_has tells files failures told (Fan f) k made x none failed (λ served h. tt) flushes has)
            o.members does.answers n.members stood does.given
            (λ failed. says.fault (subst IsFailed (sym does.first) (failed_first tt does.answers failed))) h.each;
      }
  flush_has (Leaf l) (Leaf o) (Fan n) stood says does h = absurd does
  flush_has (Leaf l) (Fan o) n stood says does h = absurd h.alike
  flush_has (Fan f) (Fan o) (Leaf n) stood says does h = absurd does
  flush_has (Fan f) (Leaf o) n stood says does h = absurd h.alike

  -- a fault of a turn is told as one, and nothing else is
  text_fault : (t : SinkTurn) (a : Answer) → (IsFailed a → IsFaultOn t.sink (stepped.Turned (told_of_text t a)))
      × ((IsFailed a → ⊥) → IsFaultOn t.sink (stepped.Turned (told_of_text t a)) → ⊥)
  text_fault t (Ok Written) = (λ f. absurd f, λ served f. f)
  text_fault t (Ok WasBelow) = (λ f. absurd f, λ served f. f)
  text_fault t (Err e) = (λ f. refl, λ served f. served tt)

  flush_fault : (t : SinkTurn) (a : Result Unit SinkError) → (IsFailed a → IsFaultOn t.sink (stepped.Turned (told_of_flush t a)))
      × ((IsFailed a → ⊥) → IsFaultOn t.sink (stepped.Turned (told_of_flush t a)) → ⊥)
  flush_fault t (Ok u) = (λ f. absurd f, λ served f. f)
  flush_fault t (Err e) = (λ f. refl, λ served f. served tt)

  abbrev turn_made : ℕ → SinkTurn → Item → Turn → Made
  turn_made a t i said = record { actor = a; did = OnSink t i; told = stepped.Turned said }

  -- so a turn tells of its sink what was answered
  text_told : (a : ℕ) (t : SinkTurn) (i : Item) (said : Turn) {m : Message} (answer : Answer) → given_in t.sink (OnSink t i) ≡ m ∷ []
      → said ≡ told_of_text t answer → TellsOf t.sink (turn_made a t i said) (m ∷ []) answer
  text_told a t i said answer given same =
      let h = text_fault t answer in
      record {
        given = given;
        fault = λ failed. subst (λ (y : Turn). IsFaultOn t.sink (stepped.Turned y)) (sym same) (h.0 failed);
        fine = λ served fault. h.1 served (subst (λ (y : Turn). IsFaultOn t.sink (stepped.Turned y)) same fault);
      }

  flush_told : (a : ℕ) (t : SinkTurn) (i : Item) (said : Turn) (answer : Result Unit SinkError) → given_in t.sink (OnSink t i) ≡ []
      → said ≡ told_of_flush t answer → TellsOf t.sink (turn_made a t i said) [] answer
  flush_told a t i said answer given same =
      let h = flush_fault t answer in
      record {
        given = given;
        fault = λ failed. subst (λ (y : Turn). IsFaultOn t.sink (stepped.Turned y)) (sym same) (h.0 failed);
        fine = λ served fault. h.1 served (subst (λ (y : Turn). IsFaultOn t.sink (stepped.Turned y)) same fault);
      }

  -- What is known of the sink of this number, which was this at first.
  record Stays (k : ℕ) (made : List Made) (now : List (Sink S)) (old : Sink S) (stood : List Stood) : Type 0 where
    pub new : Sink S
    pub there : slice_get now k ≡ Some new
    pub stands : StandsFrom k made old stood new

  -- a step that is no turn on it
  fine_sink : (s : Sink S) (k : ℕ) (made : List Made) (x : Made) → (IsFaultOn k x.told → ⊥) → MeetsNone s k made → MeetsNone s k (made ++ x ∷ [])
  fine_sink (Leaf l) k made x fine h = fine_more k made x h fine
  fine_sink (Fan f) k made x fine h = tt

  stays_else : {k : ℕ} {made : List Made} (x : Made) {now after : List (Sink S)} {old : Sink S} {stood : List Stood}
      → slice_get after k ≡ slice_get now k → given_in k x.did ≡ [] → (IsFaultOn k x.told → ⊥) → Stays k made now old stood
      → Stays k (made ++ x ∷ []) after old stood
  stays_else {k} {made} x {old} {stood} same given fine h = record {
    new = h.new;
    there = same ∙ h.there;
    stands = record {
      alike = h.stands.alike;
      each = each_stays tells files failures told old k made x stood (leaves h.new)
          (ap (λ (ms : List Message). handed old ms) given ∙ handed_none old) (fine_sink old k made x fine) h.stands.each;
    };
  }

  -- a turn on it
  stays_turned : {made : List Made} (a : ℕ) {t : SinkTurn} {i : Item} {said : Turn} {w next : OutputsView S} {old : Sink S}
      {stood : List Stood}
      → Turns tells files failures w t i said next → Stays t.sink made w.sinks old stood → Stays t.sink (made ++ turn_made a t i said ∷ []) next.sinks old stood
  stays_turned {made} a {t} {i} {said} {w} {old} {stood} turn h =
      let given : given_in t.sink (OnSink t i) ≡ text_in t.deed i =
      on_test (λ b. cond b (text_in t.deed i) [] ≡ text_in t.deed i) t.sink t.sink (λ _. refl) (λ other. absurd (other refl)) in
      record {
        new = turn.after;
        there = ap (λ (o : OutputsView S). slice_get o.sinks t.sink) turn.others ∙ get_set_same w.sinks t.sink turn.before turn.after turn.there;
        stands = by_deed t.deed i given turn.turn;
      }
    where
      before : StandsFrom t.sink made old stood turn.before
      before =
          subst (λ (s : Sink S). StandsFrom t.sink made old stood s)
          (sym (some_same turn.before h.new (slice_get w.sinks t.sink) turn.there h.there)) h.stands

      by_deed : (d : SinkDeed) (j : Item) → given_in t.sink (OnSink t i) ≡ text_in d j
          → DoesTurn tells files failures t d j turn.before said turn.after
          → StandsFrom t.sink (made ++ turn_made a t i said ∷ []) old stood turn.after
      by_deed sink_deed.Take (item.Text m) given does =
          text_has old turn.before turn.after stood (text_told a t i said does.0 given does.2) does.1 before
      by_deed sink_deed.Take (item.Flush j) given does =
          flush_has old turn.before turn.after stood (flush_told a t i said does.0 given does.2) does.1 before
      by_deed sink_deed.Take item.Stop given does =
          flush_has old turn.before turn.after stood (flush_told a t i said does.0 given does.2) does.1 before
      by_deed sink_deed.Flush j given does =
          flush_has old turn.before turn.after stood (flush_told a t i said does.0 given does.2) does.1 before

  -- a turn on another sink is no fault of this one
  text_other : (t : SinkTurn) (a : Answer) (k : ℕ) → (t.sink ≡ k → ⊥) → IsFaultOn k (stepped.Turned (told_of_text t a)) → ⊥
  text_other t (Ok Written) k other f = f
  text_other t (Ok WasBelow) k other f = f
  text_other t (Err e) k other f = other f

  flush_other : (t : SinkTurn) (a : Result Unit SinkError) (k : ℕ) → (t.sink ≡ k → ⊥) → IsFaultOn k (stepped.Turned (told_of_flush t a)) → ⊥
  flush_other t (Ok u) k other f = f
  flush_other t (Err e) k other f = other f

  other_fault : {t : SinkTurn} {i : Item} {said : Turn} {w next : OutputsView S} {k : ℕ} → Turns tells files failures w t i said next
      → (t.sink ≡ k → ⊥) → IsFaultOn k (stepped.Turned said) → ⊥
  other_fault {t} {i} {said} {k} turn other = by_deed t.deed i turn.turn
    where
      by_deed : (d : SinkDeed) (j : Item) → DoesTurn tells files failures t d j turn.before said turn.after
          → IsFaultOn k (stepped.Turned said) → ⊥
      by_deed sink_deed.Take (item.Text m) does fault =
          text_other t does.0 k other (subst (λ (y : Turn). IsFaultOn k (stepped.Turned y)) does.2 fault)
      by_deed sink_deed.Take (item.Flush j) does fault =
          flush_other t does.0 k other (subst (λ (y : Turn). IsFaultOn k (stepped.Turned y)) does.2 fault)
      by_deed sink_deed.Take item.Stop does fault =
          flush_other t does.0 k other (subst (λ (y : Turn). IsFaultOn k (stepped.Turned y)) does.2 fault)
      by_deed sink_deed.Flush j does fault =
          flush_other t does.0 k other (subst (λ (y : Turn). IsFaultOn k (stepped.Turned y)) does.2 fault)

  -- nor is a step of the queue
  work_fine : (k : ℕ) (s : DeskStepped Item) (x : Said Item) → IsFaultOn k (told_of_work s x) → ⊥
  work_fine k s said.Nothing f = f
  work_fine k s (said.Claim t) f = f
  work_fine k s (said.Write t) f = f
  work_fine k s (said.Full t y) f = f
  work_fine k s (said.Grab t) f = f
  work_fine k s (said.Take t i) f = f
  work_fine k s (said.Front t) f = f
  work_fine k s (said.Empty t) f = f
  work_fine k s (said.Idle t) f = f
  work_fine k s (said.Busy t y) f = f
  work_fine k s (said.Spent y) f = f

  round_fine : (k : ℕ) (d : Duty) (s : DeskStepped Item) → IsFaultOn k (told_in_round d s) → ⊥
  round_fine k Free s f = f
  round_fine k (Keeps m) s f = f
  round_fine k (Dumps d) s f = f
  round_fine k (Posts p ms) s f = f
  round_fine k Works s f = work_fine k s s.said f
  round_fine k (Serves t i done) s f = f

  stays_case : {k : ℕ} {made : List Made} {w u : SystemView S} {a : ℕ} {x : Stepped} {did : Did} {old : Sink S} {stood : List Stood}
      → Case tells files failures w a x u did → Stays k made w.outputs.sinks old stood
      → Stays k (made ++ record { actor = a; did = did; told = x } ∷ []) u.outputs.sinks old stood
  stays_case {k} {made} {w} {u} {a} {x} {did} {old} {stood} (queued busy same after) h =
      stays_else (record { actor = a; did = did; told = x }) {after = u.outputs.sinks}
      (ap (λ (v : SystemView S). slice_get v.outputs.sinks k) after ∙ ap (λ (o : OutputsView S). slice_get o.sinks k)
      (after_round_same w a).outputs)
      refl (λ f. round_fine k (duty_of w a) (desk_told w.desk a) (subst (λ (y : Stepped). IsFaultOn k y) same f)) h
  stays_case {k} {made} {w} {u} {a} {x} {did} {old} {stood} (kept m idle was same after) h =
      stays_else (record { actor = a; did = did; told = x }) {after = u.outputs.sinks}
      (ap (λ (v : SystemView S). slice_get v.outputs.sinks k) after) refl (λ f. subst (λ (y : Stepped). IsFaultOn k y) same f) h
  stays_case {k} {made} {w} {u} {a} {x} {did} {old} {stood} (dumped d idle was same after) h =
      stays_else (record { actor = a; did = did; told = x }) {after = u.outputs.sinks}
      (ap (λ (v : SystemView S). slice_get v.outputs.sinks k) after
      ∙ ap (λ (o : OutputsView S). slice_get o.sinks k)
      (posting_same (with_roster w (emptied w.roster d.logger)) a (policy_at w.roster d.logger) (dumped_by w d)).outputs) refl
      (λ f. subst (λ (y : Stepped). IsFaultOn k y) same f) h
  stays_case {k} {made} {w} {a} {x} {did} {old} {stood} (served turn i s) h =
      subst (λ (v : SystemView S). Stays k (made ++ record { actor = a; did = did; told = x } ∷ []) v.outputs.sinks old stood) (sym s.after)
      (subst (λ (y : Stepped). Stays k (made ++ record { actor = a; did = OnSink turn i; told = y } ∷ []) s.outputs.sinks old stood) (sym s.same)
      (on_test (λ _. Stays k (made ++ turn_made a turn i s.said ∷ []) s.outputs.sinks old stood) turn.sink k
      (λ mine.
      subst (λ j. Stays j (made ++ turn_made a turn i s.said ∷ []) s.outputs.sinks old stood) mine
      (stays_turned a s.makes (subst (λ j. Stays j made w.outputs.sinks old stood) (sym mine) h)))
      (λ other.
      stays_else (turn_made a turn i s.said) {after = s.outputs.sinks}
      (ap (λ (o : OutputsView S). slice_get o.sinks k) s.makes.others ∙ get_set_other w.outputs.sinks turn.sink k s.makes.after other)
      (not_mine turn.sink k (text_in turn.deed i) (λ e. other (sym e))) (other_fault s.makes other) h)))

  each_start : (k : ℕ) (old : Sink S) (stood : List Stood) (ls : List (LeafView S)) → AllStand files ls stood → EachStands files old k [] stood ls
  each_start k old [] [] all = tt
  each_start k old (s ∷ stood) (l ∷ ls) all = (
    inl (record {
      stands = subst (λ (ms : List Message). StandsFor files l s.0 ms) (sym (ap (λ (ms : List Message). s.1 ++ ms) (handed_none old) ∙ append-nil s.1)) all.0;
      fine = none_yet old;
    }),
    each_start k old stood ls all.1,
  )
    where
      none_yet : (t : Sink S) → MeetsNone t k []
      none_yet (Leaf o) = tt
      none_yet (Fan o) = tt
  each_start k old [] (l ∷ ls) all = absurd all
  each_start k old (s ∷ stood) [] all = absurd all

  module _ (n limit : ℕ) (loggers : List Logger) (first : List (Sink S)) (k : ℕ) (old : Sink S) (stood : List Stood)
      (there : slice_get first k ≡ Some old) (all : AllStand files (leaves old) stood) where
    stays : (run : List Act) (v : SystemView S) → Leads tells files failures (fresh_system n limit loggers first) run v
        → Stays k (steps_in run) v.outputs.sinks old stood
    stays run v starts = record {
      new = old;
      there = there;
      stands = record { alike = is_alike old; each = each_start k old stood (leaves old) all };
    }
    stays run v (begins {run = xs} {w = w} a d leads may) =
        subst (λ (made : List Made). Stays k made (begun w a d).outputs.sinks old stood) (sym (steps_begun xs a d))
        (subst (λ (o : OutputsView S). Stays k (steps_in xs) o.sinks old stood) (sym (begun_outputs w a d)) (stays xs w leads))
    stays run v (steps {run = xs} {w = w} {u = u} a x leads lt h) =
        subst (λ (made : List Made). Stays k made u.outputs.sinks old stood) (sym (steps_made xs (made_by w a x)))
        (stays_case (case_of tells files failures w a x u h) (stays xs w leads))
    stays run v (sets {run = xs} {w = w} j level leads) =
        subst (λ (made : List Made). Stays k made w.outputs.sinks old stood) (sym (steps_set xs j level)) (stays xs w leads)

  -- each leaf of each sink stands for what it was given, or broke off
  pub sinks_stand : (n limit : ℕ) (loggers : List Logger) (first : List (Sink S)) (run : List Act) (v : SystemView S)
      → Leads tells files failures (fresh_system n limit loggers first) run v → SinkStands files (steps_in run) first v.outputs.sinks
  sinks_stand n limit loggers first run v leads k old stood there all =
      let h = stays n limit loggers first k old stood there all run v leads in
      (h.new, h.there, h.stands.each)

  -- where no fault was told, none broke off
  each_fine : (k : ℕ) (old : Sink S) (made : List Made) (stood : List Stood) (ls : List (LeafView S)) → AreFine k made → EachStands files old k made stood ls
      → AllStand files ls (with_more (handed old (given_to k made)) stood)
  each_fine k old made [] [] fine each = tt
  each_fine k old made (s ∷ stood) (l ∷ ls) fine each = (
    elim (each.0) [
      | inl h ↦ h.stands
      | inr b ↦ absurd (fine_not k b.before b.turn b.later b.told (subst (λ (ms : List Made). AreFine k ms) b.cut fine))
    ],
    each_fine k old made stood ls fine each.1,
  )
  each_fine k old made [] (l ∷ ls) fine each = absurd each
  each_fine k old made (s ∷ stood) [] fine each = absurd each

  pub fine_sinks_stand : (made : List Made) (first now : List (Sink S)) → SinkStands files made first now → FineSinkStands files made first now
  fine_sinks_stand made first now stands k old stood there all fine =
      let h = stands k old stood there all in
      (h.0, h.1, each_fine k old made stood (leaves h.0) fine h.2)
