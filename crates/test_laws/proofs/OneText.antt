-- What a pool of one worker wrote of the one message that was logged.
use Rattle.std.proofs.Common.{◌≡◌, ℕ, ◌==◌, Bool, true, None, Some, List, [], ◌∷◌, ◌++◌, count_by, length, inl, refl, sym, ap, subst, ◌∙◌}
use Rattle.std.specs.Prelude.{ℤ, IfOk, Result, Ok, slice_get}
use Rattle.std.specs.List.{AllByRecursion}
use Rattle.alog_core.specs.Accounts.{claims, takes}
use Rattle.alog_core.specs.History.{Entry}
use Rattle.alog_lane.specs.Calls.{LaneId}
use Rattle.alog_msg.specs.declared.item.Item.{Item}
use Rattle.alog_msg.specs.declared.item.Item.TheVariants.{Text}
use Rattle.alog_msg.specs.declared.level.Level.{Level}
use Rattle.alog_msg.specs.declared.message.Message.{Message}
use Rattle.alog_msg.specs.declared.message.MessageError.{MessageError}
use Rattle.alog_policy.specs.SwapPort.{SwapDid}
use Rattle.alog_policy.specs.declared.policy.Outcome.TheVariants.{Posted}
use Rattle.alog_policy.specs.declared.policy.Policy.TheVariants.{Block, OverrunOldest}
use Rattle.alog_pool.specs.OneWorker.{HoldsMore, OneWorkerWritesInOrder, texts_in}
use Rattle.alog_pool.specs.Pool.{Makes, PoolView, lanes_of}
use Rattle.alog_pool.specs.Posted.{PostedLogsPutTheirTextIn}
use Rattle.alog_pool.specs.Producer.{ProducerView, Lent}
use Rattle.alog_pool.specs.Report.{Ends}
use Rattle.alog_pool.specs.declared.report.Report.{Report}
use Rattle.alog_pool.specs.declared.shared.Shared.{Shared}
use Rattle.alog_pool.specs.declared.worker.Worker.{Worker}
use Rattle.alog_registry.specs.Given.{message_with}
use Rattle.alog_registry.specs.LaneKeeper.{KeepsByTurn, NeverPasses}
use Rattle.alog_registry.specs.Listed.{spec_at}
use Rattle.alog_registry.specs.Logging.{Logs}
use Rattle.alog_registry.specs.declared.logger.Logger.{Logger}
use Rattle.alog_registry.specs.declared.logger.Spec.{Spec}
use Rattle.alog_registry.specs.declared.logging.LogReply.{LogReply}
use Rattle.alog_registry.specs.declared.logging.LogReply.TheVariants.{Logged}
use Rattle.alog_registry.specs.BlockPort.{block_note}
use Rattle.alog_sink.specs.Files.{Files}
use Rattle.alog_sink.specs.declared.sink.Sink.{Sink}
use Rattle.test_laws.specs.Written.{EndsWith, HoldsAt}
use Rattle.test_laws.proofs.Claims.{Given}
use Rattle.test_laws.proofs.Dues.{once_alone}
use Rattle.test_laws.proofs.Gaps.{IsFirsts}
use Rattle.test_laws.proofs.Held.{EndsAlone, Held, texts_are, texts_held, written}
use Rattle.test_laws.proofs.LastLine.{ends_with}

module _ {S : Type 0} (tells : Bool) (files : S → Files) (failures : S → ℕ) where
  -- a sink that holds one message more
  pub held_at : {n : ℕ} {lanes : List (LaneId (Sink S))} {sinks : List (Sink S)} {m : Message} → Held tells files failures n lanes sinks (m ∷ [])
      → HoldsAt files n lanes sinks m
  held_at {n} {lanes} {sinks} {m} held l k at to =
      let lane : held.lane ≡ l = let is = held.lane_is in cc in
      let sink : held.sink ≡ k = let is = held.sink_is in cc in
      subst (λ (v : LaneId (Sink S) × Sink S). HoldsMore files v.0.first v.1 (m ∷ []) × EndsWith files v.0.first v.1 m) (λ i. (lane i, sink i))
      (held.holds, ends_with tells files failures held.lane.first held.sink m held.history held.leads held.holds)

  -- a pool that made one producer, which logged once, and was ended
  pub record LoggedOnce (before : PoolView S) (number : ℕ) (level : Level) (time : ℤ) (text : List ℕ) (r : Report S) : Type 0 where
    pub pool : PoolView S
    pub made : ProducerView
    pub last : ProducerView
    pub producers : List ProducerView
    pub reply : Result LogReply MessageError
    pub makes : Makes before pool made
    pub new : before.made ≡ 0
    pub logs : (s : Spec) → spec_at made.shared.loggers number ≡ Some s
        → IfOk reply (λ x. Lent made last number (λ a k b l. Logs SwapDid KeepsByTurn NeverPasses s.policy s
        (message_with number level time made.number text None) a k x b l))
    pub all : producers ≡ last ∷ []
    pub ends : Ends tells files failures pool producers r
    pub posted : (t k : ℕ) × (kept : Bool) × (reply ≡ Ok (Logged (Posted t k) kept))

  -- the logger of a number waits for room, and writes to one sink
  pub record WritesToOne (loggers : List Logger) (number n : ℕ) : Type 0 where
    pub spec : Spec
    pub found : spec_at loggers number ≡ Some spec
    pub waits : spec.policy ≡ Block
    pub sinks : spec.sinks.items ≡ n ∷ []

  pub logged_alone : OneWorkerWritesInOrder tells files failures → PostedLogsPutTheirTextIn → {before : PoolView S} {number : ℕ} {level : Level}
      {time : ℤ} {text : List ℕ} {r : Report S} → LoggedOnce before number level time text r → length before.crew ≡ 1 → tells ≡ true
      → {n : ℕ} → WritesToOne before.shared.loggers number n → slice_get r.faults.items n ≡ Some 0
      → HoldsAt files n (lanes_of before.sink_seats) r.sinks.items (message_with number level time 0 text None)
  logged_alone law texts {number} {level} {time} {text} {r} once single tell {n} logger none =
      let s = logger.spec in
      let m : Message = message_with number level time once.made.number text None in
      let t = once.posted.0 in
      let here : spec_at once.made.shared.loggers number ≡ Some s =
      subst (λ (v : Shared). spec_at v.loggers number ≡ Some s) (sym once.makes.shared) logger.found in
      let at : Result LogReply MessageError → Type 0 = λ o.
      IfOk o (λ x. Lent once.made once.last number (λ a k b l. Logs SwapDid KeepsByTurn NeverPasses s.policy s m a k x b l)) in
      let lent = subst at once.posted.3 (once.logs s here) in
      let put = texts once.made once.last number s.policy s m t once.posted.1 once.posted.2 (inl lent) in
      let puts = put.0 ∙ ap (λ (h : List (Entry Item block_note)). claims h ++ (t, Text m) ∷ []) once.makes.entries.0 in
      let took = put.1 (λ over. let bad : Block ≡ OverrunOldest = sym logger.waits ∙ over in absurd (cc bad))
      ∙ ap (λ (h : List (Entry Item block_note)). takes h) once.makes.entries.0 in
      let crew : length once.pool.crew ≡ 1 = ap (λ (hs : List (Worker S)). length hs) once.makes.same.3 ∙ single in
      let there : spec_at once.pool.shared.loggers number ≡ Some s =
      subst (λ (v : Shared). spec_at v.loggers number ≡ Some s) (sym once.makes.same.0) logger.found in
      let zero : once.made.number ≡ 0 = once.makes.number ∙ once.new in
      let alone : EndsAlone tells files failures number n once.pool once.last r = record {
        ends = subst (λ (ps : List ProducerView). Ends tells files failures once.pool ps r) once.all once.ends;
        single = crew;
        spec = s;
        found = there;
        once = ap (λ (is : List ℕ). count_by (λ (s : ℕ). s == n) is) logger.sinks ∙ once_alone n;
        firsts = subst (λ (is : List Given). AllByRecursion (λ (i : Given). IsFirsts number i.1) is) (sym puts) ((refl, zero), tt);
        told = tell;
        faultless = none;
      } in
      let all : written tells files failures law alone ≡ m ∷ [] =
      texts_are tells files failures law alone took ∙ ap (λ (is : List Given). texts_in is) puts in
      let held = subst (λ (ms : List Message). Held tells files failures n (lanes_of once.pool.sink_seats) r.sinks.items ms) all
      (texts_held tells files failures law alone) in
      subst (λ (v : List (LaneId (Sink S)) × ℕ). HoldsAt files n v.0 r.sinks.items (message_with number level time v.1 text None))
      (λ i. (once.makes.lanes i, zero i)) (held_at held)
