-- On the scene of a script with a configuration where no store fails: stages whose sinks are alike agree.
use Rattle.std.proofs.Common.{◌≡◌, ℕ, ℤ, suc, zero, Bool, true, false, Option, None, Some, List, [], ◌∷◌, ◌++◌, length, refl, sym, ap, subst, ◌∙◌, inl, inr}
use Rattle.std.specs.Prelude.{◌&&◌, ◌||◌, nat_le, MatchBool, slice_get, slice_index_or, slice_set}
use Rattle.std.specs.Option.{option_map}
use Rattle.std.proofs.lemmas.Bool.{false≢true}
use Rattle.std.proofs.lemmas.Option.{none-some, same_Some}
use Rattle.alog_core.specs.World.{is_idle, round_of}
use Rattle.alog_msg.specs.declared.item.Item.{Item}
use Rattle.alog_msg.specs.declared.level.Level.{Level as LogLevel}
use Rattle.alog_msg.specs.declared.message.Message.{Message}
use Rattle.alog_policy.specs.Desk.{desk_stepped, desk_told}
use Rattle.alog_policy.specs.declared.policy.Outcome.{Outcome}
use Rattle.alog_policy.specs.declared.policy.Policy.{Policy}
use Rattle.alog_policy.specs.declared.post.Stepped.{Stepped as DeskStepped}
use Rattle.alog_registry.specs.declared.work.SinkTurn.{SinkTurn}
use Rattle.alog_sink.specs.Files.{Files, AreSame}
use Rattle.alog_sink.specs.Rotation.{PiecesHaveOneCut}
use Rattle.alog_sink.specs.Turn.{LeafView}
use Rattle.alog_sink.specs.declared.sink.Sink.{Sink}
use Rattle.alog_sink.specs.declared.sink.Sink.TheVariants as sinks
use Rattle.alog_system.specs.Begin.{begun, is_below, is_unread, kept_after, logging, message_by, posting_unless}
use Rattle.alog_system.specs.Outputs.{DoesTurn, OutputsView}
use Rattle.alog_system.specs.Roster.{emptied, level_at, policy_at, turns_for, with_level}
use Rattle.alog_system.specs.Step.{ServesOn, SystemSteps, TurnSteps, TurnTold, RoundSteps, dumped_by, follows, posting, posting_on}
use Rattle.alog_system.specs.System.{SystemView, duty_of, is_free, item_of, with_desk, with_duty, with_outputs, with_roster}
use Rattle.alog_system.specs.declared.deed.Deed.TheVariants as deed
use Rattle.alog_system.specs.declared.duty.Duty.{Duty}
use Rattle.alog_system.specs.declared.duty.Duty.TheVariants as duty
use Rattle.alog_system.specs.declared.stepped.Stepped.{Stepped}
use Rattle.alog_system.specs.declared.stepped.Stepped.TheVariants.{Turned}
use Rattle.alog_system.specs.declared.stepped.Turn.{Turn}
use Rattle.alog_replay.specs.Configured.{Stage, after_act, listed_text, may_do, number_in, of_number, place_text, places_text}
use Rattle.alog_replay.specs.Configured.{store_in, store_within, stored_text, told_text, with_system}
use Rattle.alog_replay.specs.Faultless.{HasNoFault, IsWell, StepsWell, faultless}
use Rattle.alog_replay.specs.Refusing.{HasNoSink, sink_of}
use Rattle.alog_replay.specs.declared.command.Act.{Act}
use Rattle.alog_replay.specs.declared.command.Act.TheVariants.{Ring, Push, Pop, Work, Post, Log, Flush, Dump, Level, Cells, Counts}
use Rattle.alog_replay.specs.declared.places.Place.{Place}
use Rattle.alog_replay.proofs.Agreeing.{Agrees}
use Rattle.alog_replay.proofs.AlikeSinks.{AlikeLeaves, AlikeSinks, AllLeaves, AllSinks, BothDid, OneLine, alike_at, alike_set, both_back, both_there, same_files, same_turn}

-- What a system does, with other sinks.
module _ {S : Type 0} (v : SystemView S) (o : OutputsView S) where
  posting_with : (a : ℕ) (p : Policy) (ms : List Message) → posting (with_outputs v o) a p ms ≡ with_outputs (posting v a p ms) o
  posting_with a p [] = refl
  posting_with a p (m ∷ ms) = refl

  posting_keeps : (a : ℕ) (p : Policy) (ms : List Message) → (posting v a p ms).outputs ≡ v.outputs
  posting_keeps a p [] = refl
  posting_keeps a p (m ∷ ms) = refl

  on_with : (a : ℕ) (p : Policy) (ms : List Message) (r : Option (Outcome Item))
      → posting_on (with_outputs v o) a p ms r ≡ with_outputs (posting_on v a p ms r) o
  on_with a p ms None = refl
  on_with a p ms (Some r) = posting_with a p ms

  on_keeps : (a : ℕ) (p : Policy) (ms : List Message) (r : Option (Outcome Item)) → (posting_on v a p ms r).outputs ≡ v.outputs
  on_keeps a p ms None = refl
  on_keeps a p ms (Some r) = posting_keeps a p ms

  follows_with : (a : ℕ) (d : Duty) (s : DeskStepped Item) → follows (with_outputs v o) a d s ≡ with_outputs (follows v a d s) o
  follows_with a duty.Free s = refl
  follows_with a (duty.Keeps m) s = refl
  follows_with a (duty.Dumps d) s = refl
  follows_with a (duty.Posts p ms) s = on_with a p ms s.outcome
  follows_with a duty.Works s = refl
  follows_with a (duty.Serves t i done) s = refl

  follows_keeps : (a : ℕ) (d : Duty) (s : DeskStepped Item) → (follows v a d s).outputs ≡ v.outputs
  follows_keeps a duty.Free s = refl
  follows_keeps a (duty.Keeps m) s = refl
  follows_keeps a (duty.Dumps d) s = refl
  follows_keeps a (duty.Posts p ms) s = on_keeps a p ms s.outcome
  follows_keeps a duty.Works s = refl
  follows_keeps a (duty.Serves t i done) s = refl

  log_with : (b : Bool) (a : ℕ) (m : Message) (d : Duty)
      → with_duty (posting_unless b (with_outputs v o) a m) a d ≡ with_outputs (with_duty (posting_unless b v a m) a d) o
  log_with true a m d = refl
  log_with false a m d = refl

  log_keeps : (b : Bool) (a : ℕ) (m : Message) (d : Duty) → (with_duty (posting_unless b v a m) a d).outputs ≡ v.outputs
  log_keeps true a m d = refl
  log_keeps false a m d = refl

abbrev on : {S : Type 0} → Stage S → OutputsView S → Stage S
on s o = with_system s (with_outputs s.system o)

-- What acts do on a stage with other sinks.
module _ {S : Type 0} (s : Stage S) (o : OutputsView S) where
  numbered_log : (a : ℕ) (level : LogLevel) (time : ℤ) (text : List ℕ) (n : Option ℕ)
      → of_number (on s o) (λ k. with_system (on s o) (logging (with_outputs s.system o) a (message_by a time k level text))) n
      ≡ on (of_number s (λ k. with_system s (logging s.system a (message_by a time k level text))) n) o
  numbered_log a level time text None = refl
  numbered_log a level time text (Some n) =
      let m = message_by a time n level text in
      ap (with_system s) (log_with s.system o (is_below m.level (level_at s.system.roster m.logger)) a m (kept_after s.system.roster m))

  numbered : (f : SystemView S → ℕ → SystemView S) → ((k : ℕ) → f (with_outputs s.system o) k ≡ with_outputs (f s.system k) o) → (n : Option ℕ)
      → of_number (on s o) (λ k. with_system (on s o) (f (with_outputs s.system o) k)) n ≡ on (of_number s (λ k. with_system s (f s.system k)) n) o
  numbered f h None = refl
  numbered f h (Some n) = ap (with_system s) (h n)

  act_text : (act : Act) → (after_act (on s o) act).0 ≡ (after_act s act).0
  act_text (Ring places first) = refl
  act_text (Push a text) = refl
  act_text (Pop a) = refl
  act_text (Post a policy text) = refl
  act_text (Work a) = refl
  act_text (Log a time name level text) = refl
  act_text (Flush a name) = refl
  act_text (Dump a time name) = refl
  act_text (Level name level) = refl
  act_text Cells = refl
  act_text Counts = refl

  act_with : (act : Act) → (after_act (on s o) act).1 ≡ on (after_act s act).1 o
  act_with (Ring places first) = refl
  act_with (Push a text) = refl
  act_with (Pop a) = refl
  act_with (Post a policy text) = refl
  act_with (Work a) = refl
  act_with (Log a time name level text) = numbered_log a level time text (number_in s name)
  act_with (Flush a name) = numbered (λ v n. begun v a (deed.Flush n)) (λ n. refl) (number_in s name)
  act_with (Dump a time name) = numbered (λ v n. begun v a (deed.Dump time n)) (λ n. refl) (number_in s name)
  act_with (Level name level) = numbered (λ v n. with_roster v (with_level v.roster n level)) (λ n. refl) (number_in s name)
  act_with Cells = refl
  act_with Counts = refl

module _ {S : Type 0} (s : Stage S) where
  log_stays : (a : ℕ) (level : LogLevel) (time : ℤ) (text : List ℕ) (n : Option ℕ)
      → (of_number s (λ k. with_system s (logging s.system a (message_by a time k level text))) n).system.outputs ≡ s.system.outputs
  log_stays a level time text None = refl
  log_stays a level time text (Some n) =
      let m = message_by a time n level text in
      log_keeps s.system s.system.outputs (is_below m.level (level_at s.system.roster m.logger)) a m (kept_after s.system.roster m)

  stays : (f : SystemView S → ℕ → SystemView S) → ((k : ℕ) → (f s.system k).outputs ≡ s.system.outputs) → (n : Option ℕ)
      → (of_number s (λ k. with_system s (f s.system k)) n).system.outputs ≡ s.system.outputs
  stays f h None = refl
  stays f h (Some n) = h n

  act_keeps : (act : Act) → (after_act s act).1.system.outputs ≡ s.system.outputs
  act_keeps (Ring places first) = refl
  act_keeps (Push a text) = refl
  act_keeps (Pop a) = refl
  act_keeps (Post a policy text) = refl
  act_keeps (Work a) = refl
  act_keeps (Log a time name level text) = log_stays a level time text (number_in s name)
  act_keeps (Flush a name) = stays (λ v n. begun v a (deed.Flush n)) (λ n. refl) (number_in s name)
  act_keeps (Dump a time name) = stays (λ v n. begun v a (deed.Dump time n)) (λ n. refl) (number_in s name)
  act_keeps (Level name level) = stays (λ v n. with_roster v (with_level v.roster n level)) (λ n. refl) (number_in s name)
  act_keeps Cells = refl
  act_keeps Counts = refl

module _ {S : Type 0} (files : S → Files) where
  abbrev AlikeOutputs : OutputsView S → OutputsView S → Type 0
  AlikeOutputs o p = (p.text_limit ≡ o.text_limit) × AllSinks files o.sinks p.sinks

  -- all is the same but the sinks, which are alike
  abbrev AlikeSystems : SystemView S → SystemView S → Type 0
  AlikeSystems v w = (o : OutputsView S) × (w ≡ with_outputs v o) × AlikeOutputs v.outputs o

  abbrev AlikeIn : SystemView S → SystemView S → Type 0
  AlikeIn v w = AlikeOutputs v.outputs w.outputs

  abbrev pub AlikeStages : Stage S → Stage S → Type 0
  AlikeStages s t = (o : OutputsView S) × (t ≡ on s o) × AlikeOutputs s.system.outputs o

  stay_alike : (v new after : SystemView S) (o : OutputsView S) → AlikeOutputs v.outputs o → new.outputs ≡ v.outputs → after ≡ with_outputs new o
      → AlikeSystems new after
  stay_alike v new after o outs keeps is = (o, is, subst (λ (z : OutputsView S). AlikeOutputs z o) (sym keeps) outs)

  module _ (tells : Bool) (tell : tells ≡ true) (failures : S → ℕ) where
    served_alike : {v new after : SystemView S} {o : OutputsView S} {a t : ℕ} {i : Item} {done : ℕ} {x y : Turn} → AlikeOutputs v.outputs o
        → ServesOn tells files failures v a t i done x new → ServesOn tells files failures (with_outputs v o) a t i done y after → IsWell x
        → IsWell y → (x ≡ y) × AlikeSystems new after
    served_alike {v} {new} {o} {i} {x} {y} outs h g p q =
        let turns : g.turn ≡ h.turn = same_Some g.turn h.turn (sym g.next ∙ h.next) in
        let there : slice_get o.sinks h.turn.sink ≡ Some g.makes.before =
        subst (λ (u : SinkTurn). slice_get o.sinks u.sink ≡ Some g.makes.before) turns g.makes.there in
        let does = subst (λ (u : SinkTurn). DoesTurn tells files failures u u.deed i g.makes.before y g.makes.after) turns g.makes.turn in
        let others : g.outputs ≡ record { sinks = slice_set o.sinks h.turn.sink g.makes.after; text_limit = o.text_limit } =
        subst (λ (u : SinkTurn). g.outputs ≡ record { sinks = slice_set o.sinks u.sink g.makes.after; text_limit = o.text_limit }) turns g.makes.others in
        let before = alike_at files v.outputs.sinks o.sinks h.turn.sink h.makes.before g.makes.before outs.1 h.makes.there there in
        let r = same_turn files tells tell failures h.turn h.turn.deed i {x = x} {y = y}
        (record { alike = before; one = h.makes.turn; other = does; one_well = p; other_well = q }) in
        let set = alike_set files v.outputs.sinks o.sinks h.turn.sink h.makes.after g.makes.after outs.1 r.1 in
        let whole : AlikeOutputs h.outputs g.outputs =
        subst (λ (z : OutputsView S). AlikeOutputs z g.outputs) (sym h.makes.others)
        (subst (λ (z : OutputsView S). AlikeOutputs (record { sinks = slice_set v.outputs.sinks h.turn.sink h.makes.after; text_limit = v.outputs.text_limit }) z) (sym others) (outs.0, set)) in
        let keeps : new.outputs ≡ h.outputs = ap (λ (z : SystemView S). z.outputs) h.after in (
          r.0,
          (
            g.outputs,
            g.after ∙ ap (λ (z : SystemView S). with_outputs z g.outputs) (sym h.after),
            subst (λ (z : OutputsView S). AlikeOutputs z g.outputs) (sym keeps) whole,
          ),
        )

    turn_alike : (v : SystemView S) (o : OutputsView S) (a : ℕ) (d : Duty) {new after : SystemView S} {x y : Turn}
        → BothDid AlikeIn (λ w z n. TurnSteps tells files failures w a d z n) IsWell v (with_outputs v o) new after x y
        → (x ≡ y) × AlikeSystems new after
    turn_alike v o a duty.Free h = absurd h.one
    turn_alike v o a (duty.Keeps m) {new} {after} h = (
      h.one.0 ∙ sym h.other.0,
      stay_alike v new after o h.alike (ap (λ (z : SystemView S). z.outputs) h.one.1)
          (h.other.1 ∙ ap (λ (z : SystemView S). with_outputs z o) (sym h.one.1)),
    )
    turn_alike v o a (duty.Dumps d) {new} {after} h =
        let w = with_roster v (emptied v.roster d.logger) in
        let policy = policy_at v.roster d.logger in (
          h.one.0 ∙ sym h.other.0,
          stay_alike v new after o h.alike (ap (λ (z : SystemView S). z.outputs) h.one.1 ∙ posting_keeps w o a policy (dumped_by v d))
              (h.other.1 ∙ (posting_with w o a policy (dumped_by v d) ∙ ap (λ (z : SystemView S). with_outputs z o) (sym h.one.1))),
        )
    turn_alike v o a (duty.Posts policy ms) h = absurd h.one
    turn_alike v o a duty.Works h = absurd h.one
    turn_alike v o a (duty.Serves t i done) h = served_alike h.alike h.one h.other h.one_well h.other_well

    step_alike : (v : SystemView S) (o : OutputsView S) (a : ℕ) (b : Bool) {new after : SystemView S} {x y : Stepped}
        → BothDid AlikeIn (λ w z n. MatchBool b (TurnTold tells files failures w a z n) (RoundSteps w a z n)) HasNoFault v (with_outputs v o)
        new after x y
        → (x ≡ y) × AlikeSystems new after
    step_alike v o a true {new} {after} h =
        let f = h.one in
        let g = h.other in
        let r = turn_alike v o a (duty_of v a) {new = new} {after = after} {x = f.0} {y = g.0} (record {
          alike = h.alike;
          one = f.2;
          other = g.2;
          one_well = subst HasNoFault f.1 h.one_well;
          other_well = subst HasNoFault g.1 h.other_well;
        }) in
        (f.1 ∙ (ap Turned r.0 ∙ sym g.1), r.1)
    step_alike v o a false {new} {after} h =
        let w = with_desk v (desk_stepped v.desk a) in
        let said = desk_told v.desk a in (
          h.one.0 ∙ sym h.other.0,
          stay_alike v new after o h.alike (ap (λ (z : SystemView S). z.outputs) h.one.1 ∙ follows_keeps w o a (duty_of v a) said)
              (h.other.1 ∙ (follows_with w o a (duty_of v a) said ∙ ap (λ (z : SystemView S). with_outputs z o) (sym h.one.1))),
        )

    -- an actor whose turn comes has a sink for it
    has_sink : (v new : SystemView S) (a : ℕ) (x : Stepped) {t : ℕ} {i : Item} {done : ℕ} {b : Bool} → b ≡ true
        → duty_of v a ≡ duty.Serves t i done
        → MatchBool b (TurnTold tells files failures v a x new) (RoundSteps v a x new)
        → (turn : SinkTurn) × (before : Sink S) × (slice_get (turns_for v.roster t i) done ≡ Some turn)
        × (slice_get v.outputs.sinks turn.sink ≡ Some before)
    has_sink v new a x {b = false} e d h = absurd (false≢true e)
    has_sink v new a x {b = true} e d h =
        let on = subst (λ (z : Duty). TurnSteps tells files failures v a z h.0 new) d h.2 in (on.turn, on.makes.before, on.next, on.makes.there)

    not_there : (v : SystemView S) {w : SystemView S} (new : SystemView S) {a : ℕ} (x : Stepped)
        → SystemSteps tells files failures v a x new → HasNoSink w a → w ≡ with_outputs v w.outputs
        → ((n : ℕ) (z : Sink S) → slice_get v.outputs.sinks n ≡ Some z → (y : Sink S) × (slice_get w.outputs.sinks n ≡ Some y)) → ⊥
    not_there v {w} new {a} x steps lacks same both =
        let idle = ap (λ (z : SystemView S). is_idle (round_of z.desk.world a)) (sym same) ∙ lacks.idle in
        let serves = ap (λ (z : SystemView S). slice_index_or z.duties a duty.Free) (sym same) ∙ lacks.serves in
        let sink = has_sink v new a x idle serves steps in
        let next = ap (λ (z : SystemView S). slice_get (turns_for z.roster lacks.ticket lacks.item) lacks.done) same ∙ sink.2 in
        let found = both sink.0.sink sink.1 sink.3 in
        none-some found.0 (sym lacks.none ∙ (ap (sink_of w) next ∙ found.1))

    stage_step : {s u t : Stage S} {o : OutputsView S} {a : ℕ} {x y : List ℕ} → AlikeOutputs s.system.outputs o
        → StepsWell tells files failures s a x u → StepsWell tells files failures (on s o) a y t → (x ≡ y) × AlikeStages u t
    stage_step {s} {u} {t} {o} {a} outs (inl h) (inl g) =
        let r = step_alike s.system o a (is_idle (round_of s.system.desk.world a)) {new = u.system} {after = t.system} {x = h.0.told} {y = g.0.told}
        (record { alike = outs; one = h.0.steps; other = g.0.steps; one_well = h.1; other_well = g.1 }) in
        let duty : duty_of t.system a ≡ duty_of u.system a = ap (λ (z : SystemView S). duty_of z a) r.1.1 in
        let same : told_text s.names a (item_of (duty_of u.system a)) h.0.told ≡ told_text s.names a (item_of (duty_of t.system a)) g.0.told =
        ap (λ z. told_text s.names a (item_of (duty_of u.system a)) z) r.0 ∙ ap (λ z. told_text s.names a (item_of z) g.0.told) (sym duty) in
        let stage : t ≡ on u r.1.0 =
        g.0.rest ∙ (ap (with_system s) r.1.1 ∙ ap (λ (z : Stage S). on z r.1.0) (sym h.0.rest)) in
        (h.0.printed ∙ (same ∙ sym g.0.printed), (r.1.0, stage, r.1.2))
    stage_step {s} {u} {o} {a} outs (inl h) (inr g) =
        absurd (not_there s.system u.system h.0.told h.0.steps g.0 refl
        (λ n z e. both_there files s.system.outputs.sinks o.sinks n z outs.1 e))
    stage_step {s} {t} {o} {a} outs (inr h) (inl g) =
        absurd (not_there (with_outputs s.system o) t.system g.0.told g.0.steps h.0 refl
        (λ n z e. both_back files s.system.outputs.sinks o.sinks n z outs.1 e))
    stage_step {u} {t} {o} outs (inr h) (inr g) =
        let is : t ≡ on u o = g.2 ∙ ap (λ (z : Stage S). on z o) (sym h.2) in
        (h.1 ∙ sym g.1, (o, is, subst (λ (z : Stage S). AlikeOutputs z.system.outputs o) (sym h.2) outs))

    -- the files at the end
    module _ (listing : S → List (List ℕ × List ℕ)) (lists : (x y : S) → AreSame (files x) (files y) → listing x ≡ listing y)
        (line : OneLine) (cut : PiecesHaveOneCut) where
      leaf_text : (name : List ℕ) (l k : LeafView S) → AlikeLeaves files l k
          → listed_text name (listing l.store) ≡ listed_text name (listing k.store)
      leaf_text name l k h = ap (listed_text name) (lists l.store k.store (same_files files line cut l k h))

      member_text : (name : List ℕ) (ls ks : List (LeafView S)) (m : ℕ) → AllLeaves files ls ks
          → stored_text listing name (option_map (λ (l : LeafView S). l.store) (slice_get ls m))
          ≡ stored_text listing name (option_map (λ (l : LeafView S). l.store) (slice_get ks m))
      member_text name [] [] m h = refl
      member_text name [] (k ∷ ks) m h = absurd h
      member_text name (l ∷ ls) [] m h = absurd h
      member_text name (l ∷ ls) (k ∷ ks) zero h = leaf_text name l k h.0
      member_text name (l ∷ ls) (k ∷ ks) (suc m) h = member_text name ls ks m h.1

      sink_text : (name : List ℕ) (member : Option ℕ) (x y : Sink S) → AlikeSinks files x y
          → stored_text listing name (store_in member x) ≡ stored_text listing name (store_in member y)
      sink_text name None (sinks.Leaf l) (sinks.Leaf k) h = leaf_text name l k h
      sink_text name None (sinks.Fan f) (sinks.Fan g) h = refl
      sink_text name (Some m) (sinks.Leaf l) (sinks.Leaf k) h = refl
      sink_text name (Some m) (sinks.Fan f) (sinks.Fan g) h = member_text name f.members g.members m h.1
      sink_text name member (sinks.Leaf l) (sinks.Fan g) h = absurd h
      sink_text name member (sinks.Fan f) (sinks.Leaf k) h = absurd h

      at_text : (name : List ℕ) (member : Option ℕ) (ls ks : List (Sink S)) (n : ℕ) → AllSinks files ls ks
          → stored_text listing name (store_within member (slice_get ls n)) ≡ stored_text listing name (store_within member (slice_get ks n))
      at_text name member [] [] n h = refl
      at_text name member [] (k ∷ ks) n h = absurd h
      at_text name member (l ∷ ls) [] n h = absurd h
      at_text name member (l ∷ ls) (k ∷ ks) zero h = sink_text name member l k h.0
      at_text name member (l ∷ ls) (k ∷ ks) (suc n) h = at_text name member ls ks n h.1

      all_text : (v : SystemView S) (o : OutputsView S) → AlikeOutputs v.outputs o → (ps : List Place)
          → places_text listing v ps ≡ places_text listing (with_outputs v o) ps
      all_text v o outs [] = refl
      all_text v o outs (p ∷ ps) =
          ap (λ z. z ++ places_text listing v ps) (at_text p.name p.member v.outputs.sinks o.sinks p.sink outs.1)
          ∙ ap (λ z. place_text listing (with_outputs v o) p ++ z) (all_text v o outs ps)

      limited : (s : Stage S) (o : OutputsView S) (act : Act) → o.text_limit ≡ s.system.outputs.text_limit → may_do s act ≡ may_do (on s o) act
      limited s o (Ring places first) e = refl
      limited s o (Push a text) e = refl
      limited s o (Pop a) e = refl
      limited s o (Post a policy text) e = refl
      limited s o (Work a) e = refl
      limited s o (Log a time name level text) e =
          ap (λ limit. is_free s.system a && of_number false (λ n. is_unread s.system.roster n level || nat_le (length text) limit) (number_in s name)) (sym e)
      limited s o (Flush a name) e = refl
      limited s o (Dump a time name) e = refl
      limited s o (Level name level) e = refl
      limited s o Cells e = refl
      limited s o Counts e = refl

      act_alike : (s : Stage S) {t : Stage S} (act : Act) {x y : List ℕ} {u v : Stage S} → AlikeStages s t
          → (x ≡ (after_act s act).0) × (u ≡ (after_act s act).1) → (y ≡ (after_act t act).0) × (v ≡ (after_act t act).1)
          → (x ≡ y) × AlikeStages u v
      act_alike s act {u} {v} r h g =
          let text = act_text s r.0 act in
          let to = ap (λ (z : Stage S). (after_act z act).0) r.1 in
          let is : v ≡ on u r.0 =
          g.1 ∙ (ap (λ (z : Stage S). (after_act z act).1) r.1 ∙ (act_with s r.0 act ∙ ap (λ (z : Stage S). on z r.0) (sym h.1))) in
          let keeps : u.system.outputs ≡ s.system.outputs = ap (λ (z : Stage S). z.system.outputs) h.1 ∙ act_keeps s act in
          (h.0 ∙ (sym text ∙ (sym to ∙ sym g.0)), (r.0, is, subst (λ (z : OutputsView S). AlikeOutputs z r.0) (sym keeps) r.2))

      pub stages_agree : Agrees (faultless tells files failures listing) AlikeStages
      stages_agree = record {
        free = λ s t a r. ap (λ (z : Stage S). is_free z.system a) (sym r.1);
        may = λ s t act r. limited s r.0 act r.2.0 ∙ ap (λ (z : Stage S). may_do z act) (sym r.1);
        does = act_alike;
        steps = λ s t a x y u v r h g.
            stage_step r.2 h (subst (λ (z : Stage S). StepsWell tells files failures z a y v) r.1 g);
        files = λ s t r. all_text s.system r.0 r.2 s.places ∙ ap (λ (z : Stage S). places_text listing z.system z.places) (sym r.1);
      }
