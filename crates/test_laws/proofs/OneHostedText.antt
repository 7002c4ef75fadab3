-- What a hosted pool wrote of the one message that was logged.
use Rattle.std.proofs.Common.{◌≡◌, ◌≢◌, ◌⊎◌, ℕ, zero, suc, ◌+◌, ◌==◌, Bool, true, None, Some, List, [], ◌∷◌, ◌++◌, map, count_by, Contains}
use Rattle.std.proofs.Common.{refl, sym, ap, subst, ◌∙◌, inl, inr, append-nil, arith}
use Rattle.std.specs.Prelude.{ℤ, IfOk, Result, Ok, slice_get}
use Rattle.std.specs.List.{AllByRecursion}
use Rattle.std.proofs.lemmas.List.Sums.{sum_by-cons}
use Rattle.alog_core.specs.Accounts.{claimed, claims, taken, takes, weigh}
use Rattle.alog_core.specs.History.{Entry}
use Rattle.alog_hosted.specs.Ends.{Disbands, all_owed}
use Rattle.alog_hosted.specs.Host.{HostView, Makes}
use Rattle.alog_hosted.specs.Lent.{HostedView}
use Rattle.alog_hosted.specs.Once.{LogsOnce}
use Rattle.alog_hosted.specs.Workers.{WorkerView}
use Rattle.alog_hosted.specs.Written.{AllIsWritten, HasMadeOf, HostedPoolsWriteAll, works_of}
use Rattle.alog_hosted.specs.declared.once.Once.{Once}
use Rattle.alog_hosted.specs.declared.once.Once.TheVariants as once
use Rattle.alog_lane.specs.Calls.{LaneId}
use Rattle.alog_msg.specs.declared.item.Item.{Item}
use Rattle.alog_msg.specs.declared.item.Item.TheVariants.{Stop, Text}
use Rattle.alog_msg.specs.declared.level.Level.{Level}
use Rattle.alog_msg.specs.declared.message.Message.{Message}
use Rattle.alog_msg.specs.declared.message.MessageError.{MessageError}
use Rattle.alog_policy.specs.declared.policy.Outcome.TheVariants.{Posted}
use Rattle.alog_policy.specs.declared.policy.Policy.TheVariants.{OverrunOldest}
use Rattle.alog_pool.proofs.SharedBack.{sum_of_map}
use Rattle.alog_pool.specs.Deeds.{Due, all_dues, dues_on}
use Rattle.alog_pool.specs.OneWorker.{HoldsMore, IsWritten, texts_in}
use Rattle.alog_pool.specs.Places.{Each2}
use Rattle.alog_pool.specs.Posted.{IsOverrun, PostedLogsPutTheirTextIn, works_in}
use Rattle.alog_pool.specs.Producer.{ProducerView, Lent}
use Rattle.alog_pool.specs.Workers.{AreAllWritten, IsMerged, together}
use Rattle.alog_pool.specs.declared.report.Report.{Report}
use Rattle.alog_registry.specs.BlockPort.{block_note}
use Rattle.alog_registry.specs.Given.{message_with}
use Rattle.alog_registry.specs.Listed.{spec_at}
use Rattle.alog_registry.specs.declared.logger.Logger.{Logger}
use Rattle.alog_registry.specs.declared.logger.Spec.{Spec}
use Rattle.alog_registry.specs.declared.logging.LogReply.TheVariants.{Logged}
use Rattle.alog_sink.specs.Files.{Files}
use Rattle.alog_sink.specs.declared.sink.Sink.{Sink}
use Rattle.test_laws.specs.Written.{HoldsAt}
use Rattle.test_laws.proofs.Claims.{Given, alone_is, first_at}
use Rattle.test_laws.proofs.Dues.{due_texts, dues_more, texts_more}
use Rattle.test_laws.proofs.Held.{Held}
use Rattle.test_laws.proofs.Merged.{HaveNone, HaveOne, IsAlone, alone_in, count, merged_one}
use Rattle.test_laws.proofs.OneText.{held_at}

-- two lists that are none together, and two that have one text together
both_none : (xs ys : List Due) → [] ≡ xs ++ ys → (xs ≡ []) × (ys ≡ [])
both_none [] ys e = (refl, sym e)
both_none (x ∷ xs) ys e = absurd (cc e)

one_of_both : (m : Message) (ms ns : List Message) → ms ++ ns ≡ m ∷ [] → ((ms ≡ m ∷ []) × (ns ≡ [])) ⊎ ((ms ≡ []) × (ns ≡ m ∷ []))
one_of_both m [] ns e = inr (refl, e)
one_of_both m (k ∷ []) [] e = inl (e, refl)
one_of_both m (k ∷ []) (l ∷ ns) e = absurd (cc e)
one_of_both m (k ∷ l ∷ ms) ns e = absurd (cc e)

-- the turns on one sink, and their texts
abbrev on_sink : ℕ → List (List Due) → List (List Given)
on_sink n made = map (λ (ds : List Due). dues_on n ds) made

abbrev texts_on : ℕ → List Due → List Message
texts_on n ds = texts_in (dues_on n ds)

texts_both : (n : ℕ) (ds es : List Due) → texts_on n (ds ++ es) ≡ texts_on n ds ++ texts_on n es
texts_both n ds es = ap (λ (l : List Given). texts_in l) (dues_more n ds es) ∙ texts_more (dues_on n ds) (dues_on n es)

module _ {S : Type 0} where
  -- what each of some workers took
  abbrev took_by : List (WorkerView S) → List (List Given)
  took_by ws = map (λ (w : WorkerView S). takes w.pass.known.own) ws

  works_are : (ws : List (WorkerView S)) → map works_in (took_by ws) ≡ map (λ (w : WorkerView S). works_of w) ws
  works_are [] = refl
  works_are (w ∷ ws) = λ i. works_of w ∷ works_are ws i

  -- their turns on one sink: those that they made of what they took, and those that they owe
  module _ (loggers : List Logger) (n : ℕ) where
    -- who took nothing made none and owes none
    idle_one : (w : WorkerView S) (ds : List Due) → takes w.pass.known.own ≡ [] → HasMadeOf loggers w ds → (ds ≡ []) × (w.owed ≡ [])
    idle_one w ds none has = both_none ds w.owed (ap (λ (l : List Given). all_dues loggers l) (sym none) ∙ has.1)

    idle : (ws : List (WorkerView S)) (made : List (List Due)) → AllByRecursion (λ (l : List Given). l ≡ []) (took_by ws)
        → Each2 (HasMadeOf loggers) ws made → (all_owed ws ≡ []) × HaveNone (on_sink n made)
    idle [] [] none each = (refl, tt)
    idle [] (ds ∷ made) none each = absurd each
    idle (w ∷ ws) [] none each = absurd each
    idle (w ∷ ws) (ds ∷ made) none each =
        let here = idle_one w ds none.0 each.0 in
        let rest = idle ws made none.1 each.1 in (
          ap (λ (os : List Due). os ++ all_owed ws) here.1 ∙ rest.0,
          (ap (λ (es : List Due). texts_on n es) here.0, rest.1),
        )

    module _ (m : Message) (i : Given) (due : texts_on n (all_dues loggers (i ∷ [])) ≡ m ∷ []) where
      -- one of them took this item, and the others nothing
      busy : (ws : List (WorkerView S)) (made : List (List Due)) → IsAlone i (took_by ws) → Each2 (HasMadeOf loggers) ws made
          → HaveOne m (on_sink n (all_owed ws ∷ made))
      busy [] made is each = absurd is
      busy (w ∷ ws) [] is each = absurd each
      busy (w ∷ ws) (ds ∷ made) (inl is) each =
          let rest = idle ws made is.1 each.1 in
          let all : texts_on n (all_owed (w ∷ ws)) ≡ texts_on n w.owed =
          ap (λ (os : List Due). texts_on n (w.owed ++ os)) rest.0 ∙ ap (λ (os : List Due). texts_on n os) (append-nil w.owed) in
          let both : texts_on n ds ++ texts_on n w.owed ≡ m ∷ [] =
          sym (texts_both n ds w.owed) ∙ ap (λ (es : List Due). texts_on n es) (sym each.0.1)
          ∙ ap (λ (l : List Given). texts_on n (all_dues loggers l)) is.0 ∙ due in
          elim (one_of_both m (texts_on n ds) (texts_on n w.owed) both) [
            | inl made ↦ inr (all ∙ made.1, inl (made.0, rest.1))
            | inr owed ↦ inl (all ∙ owed.1, (owed.0, rest.1))
          ]
      busy (w ∷ ws) (ds ∷ made) (inr is) each =
          let here = idle_one w ds is.0 each.0 in
          let none : texts_on n ds ≡ [] = ap (λ (es : List Due). texts_on n es) here.0 in
          let same : texts_on n (all_owed (w ∷ ws)) ≡ texts_on n (all_owed ws) =
          ap (λ (os : List Due). texts_on n (os ++ all_owed ws)) here.1 in
          elim (busy ws made is.1 each.1) [
            | inl owes ↦ inl (same ∙ owes.0, (none, owes.1))
            | inr has ↦ inr (same ∙ has.0, inr (none, has.1))
          ]

      -- or it was left, and the pool itself made the turns that are due for it
      one_made : (left : List Given) (ws : List (WorkerView S)) (made : List (List Due)) → IsAlone i (left ∷ took_by ws)
          → Each2 (HasMadeOf loggers) ws made → HaveOne m (on_sink n ((all_owed ws ++ all_dues loggers left) ∷ made))
      one_made left ws made (inl is) each =
          let rest = idle ws made is.1 each in
          inl (
            ap (λ (os : List Due). texts_on n (os ++ all_dues loggers left)) rest.0
                ∙ ap (λ (l : List Given). texts_on n (all_dues loggers l)) is.0 ∙ due,
            rest.1,
          )
      one_made left ws made (inr is) each =
          let same : all_owed ws ++ all_dues loggers left ≡ all_owed ws =
          ap (λ (l : List Given). all_owed ws ++ all_dues loggers l) is.0 ∙ append-nil (all_owed ws) in
          subst (λ (os : List Due). HaveOne m (on_sink n (os ∷ made))) (sym same) (busy ws made is.1 each)

-- one producer put in this text alone, and took nothing out
record PutsOneIn (p : ProducerView) (i : Given) : Type 0 where
  work : i.1 ≢ Stop
  puts : claims p.pass.known.own ≡ i ∷ []
  took : takes p.pass.known.own ≡ []

-- the logger of a number does not overrun the oldest, and writes to this sink once
pub record WritesOnce (loggers : List Logger) (number n : ℕ) : Type 0 where
  pub spec : Spec
  pub found : spec_at loggers number ≡ Some spec
  pub keeps : spec.policy ≢ OverrunOldest
  pub once : count_by (λ (k : ℕ). k == n) spec.sinks.items ≡ 1

module _ {S : Type 0} (tells : Bool) (files : S → Files) (failures : S → ℕ) where
  -- the sink of a number among those that were written: its lane, what it is now, and the turns that led there
  record MergedAt (n : ℕ) (ls : List (LaneId (Sink S))) (ks : List (Sink S)) (f : ℕ) (rows : List (List Given)) : Type 0 where
    lane : LaneId (Sink S)
    sink : Sink S
    lane_is : slice_get ls n ≡ Some lane
    sink_is : slice_get ks n ≡ Some sink
    turns : List Given
    merged : IsMerged turns rows
    written : IsWritten tells files failures lane.first sink f turns

  merged_at : (s n : ℕ) (ls : List (LaneId (Sink S))) (ks : List (Sink S)) (fs : List ℕ) (dues : List (List Due)) {f : ℕ}
      → AreAllWritten tells files failures s ls ks fs dues → slice_get fs n ≡ Some f
      → MergedAt n ls ks f (map (λ (ds : List Due). dues_on (n + s) ds) dues)
  merged_at s n [] [] [] dues all at = absurd (cc at)
  merged_at s n [] [] (z ∷ fs) dues all at = absurd all
  merged_at s n [] (y ∷ ks) fs dues all at = absurd all
  merged_at s n (x ∷ ls) [] fs dues all at = absurd all
  merged_at s n (x ∷ ls) (y ∷ ks) [] dues all at = absurd all
  merged_at s zero (x ∷ ls) (y ∷ ks) (z ∷ fs) dues {f} all at =
      let same : z ≡ f = cc in
      let here : s ≡ 0 + s = omega arith in
      record {
        lane = x;
        sink = y;
        lane_is = refl;
        sink_is = refl;
        turns = all.0.0;
        merged = subst (λ (j : ℕ). IsMerged all.0.0 (map (λ (ds : List Due). dues_on j ds) dues)) here all.0.1;
        written = subst (λ (g : ℕ). IsWritten tells files failures x.first y g all.0.0) same all.0.2;
      }
  merged_at s (suc n) (x ∷ ls) (y ∷ ks) (z ∷ fs) dues {f} all at =
      let next : n + (s + 1) ≡ suc n + s = omega arith in
      let it = merged_at (s + 1) n ls ks fs dues all.1 at in
      record {
        lane = it.lane;
        sink = it.sink;
        lane_is = it.lane_is;
        sink_is = it.sink_is;
        turns = it.turns;
        merged = subst (λ (j : ℕ). IsMerged it.turns (map (λ (ds : List Due). dues_on j ds) dues)) next it.merged;
        written = it.written;
      }

  module _ {host : HostView S} {p : ProducerView} {ws : List (WorkerView S)} {r : Report S}
      (w : AllIsWritten tells files failures host (p ∷ []) ws r) (i : Given) (one : PutsOneIn p i) where
    abbrev left : List Given
    left = w.ends.left

    -- it is among what the workers took and what was left
    is_in : Contains (together (map works_in (left ∷ took_by ws))) i
    is_in =
        subst (λ (rows : List (List Given)). Contains (together (works_in left ∷ rows)) i) (sym (works_are ws))
        ((w.posted.each i).1 (one.work, (p, first_at p [], subst (λ (l : List Given). Contains l i) (sym one.puts) (first_at i [])), kept))
      where
        kept : ¬ IsOverrun (p ∷ []) i
        kept lost =
            let same : p ≡ lost.0 = alone_is lost.0 p lost.1 in
            let at = subst (λ (q : ProducerView). Contains (takes q.pass.known.own) i) (sym same) lost.2 in
            let bad = subst (λ (l : List Given). Contains l i) one.took at in absurd (omega (arith, bad.1))

    -- and there is nothing else
    is_all : count (left ∷ took_by ws) ≡ 1
    is_all =
        let each : ℕ → Item → ℕ = λ t x. 1 in
        let put = sum_by-cons (λ (q : ProducerView). claimed each q.pass.known.own) p [] in
        let got = sum_by-cons (λ (q : ProducerView). taken each q.pass.known.own) p [] in
        let single : claimed each p.pass.known.own ≡ 1 = ap (λ (l : List Given). weigh each l) one.puts in
        let nothing : taken each p.pass.known.own ≡ 0 = ap (λ (l : List Given). weigh each l) one.took in
        let out = w.ends.out each in
        let rows = sum_by-cons (λ (l : List Given). weigh each l) left (took_by ws) in
        let theirs = sum_of_map (λ (h : WorkerView S). takes h.pass.known.own) (λ (l : List Given). weigh each l) ws in
        omega (arith, put, got, single, nothing, out, rows, theirs)

    is_alone : IsAlone i (left ∷ took_by ws)
    is_alone = alone_in i (left ∷ took_by ws) is_in is_all

    -- the sink of a number holds this text alone, behind what it held, where this is what is due there
    holds_one : (n : ℕ) (m : Message) → texts_in (dues_on n (all_dues host.hosted.shared.loggers (i ∷ []))) ≡ m ∷ [] → tells ≡ true
        → slice_get r.faults.items n ≡ Some 0 → Held tells files failures n host.hosted.lanes r.sinks.items (m ∷ [])
    holds_one n m due tell none =
        let loggers = host.hosted.shared.loggers in
        let lanes = host.hosted.lanes in
        let rows : List (List Due) = (all_owed ws ++ all_dues loggers left) ∷ w.made in
        let same : n + 0 ≡ n = omega arith in
        let it = subst (λ (j : ℕ). MergedAt n lanes r.sinks.items 0 (map (λ (ds : List Due). dues_on j ds) rows)) same
        (merged_at 0 n lanes r.sinks.items r.faults.items rows w.written none) in
        let texts : texts_in it.turns ≡ m ∷ [] =
        merged_one m it.turns (map (λ (ds : List Due). dues_on n ds) rows) it.merged
        (one_made loggers n m i due left ws w.made is_alone w.each) in
        record {
          lane = it.lane;
          sink = it.sink;
          lane_is = it.lane_is;
          sink_is = it.sink_is;
          history = it.written.history;
          leads = it.written.leads;
          holds = subst (λ (ms : List Message). HoldsMore files it.lane.first it.sink ms) texts (it.written.holds tell refl);
        }

  -- a hosted pool that made one producer, which logged once, and was ended
  pub record LoggedOnce (hosted : HostedView S) (number : ℕ) (level : Level) (time : ℤ) (text : List ℕ) (r : Report S) : Type 0 where
    pub first : HostView S
    pub host : HostView S
    pub end : HostView S
    pub made : ProducerView
    pub last : ProducerView
    pub producers : List ProducerView
    pub workers : List (WorkerView S)
    pub reply : Result Once MessageError
    pub lends : hosted ≡ first.hosted
    pub makes : Makes first host made
    pub new : first.made ≡ 0
    pub logs : (s : Spec) → spec_at hosted.shared.loggers number ≡ Some s
        → IfOk reply (λ x. Lent made last number (λ a k b l. LogsOnce s (message_with number level time made.number text None) a k x b l))
    pub all : producers ≡ last ∷ []
    pub same : end.hosted ≡ host.hosted
    pub ends : Disbands tells files failures end producers workers r
    pub posted : (t k : ℕ) × (kept : Bool) × (reply ≡ Ok (once.Logged (Logged (Posted t k) kept)))

  pub logged_alone : HostedPoolsWriteAll tells files failures → PostedLogsPutTheirTextIn → {hosted : HostedView S} {number : ℕ} {level : Level}
      {time : ℤ} {text : List ℕ} {r : Report S} → LoggedOnce hosted number level time text r → tells ≡ true
      → {n : ℕ} → WritesOnce hosted.shared.loggers number n → slice_get r.faults.items n ≡ Some 0
      → HoldsAt files n hosted.lanes r.sinks.items (message_with number level time 0 text None)
  logged_alone law texts {hosted} {number} {level} {time} {text} {r} once tell {n} logger none =
      let s = logger.spec in
      let m : Message = message_with number level time once.made.number text None in
      let t = once.posted.0 in
      let i : Given = (t, Text m) in
      let at : Result Once MessageError → Type 0 = λ o. IfOk o (λ x. Lent once.made once.last number (λ a k b l. LogsOnce s m a k x b l)) in
      let lent = subst at once.posted.3 (once.logs s logger.found) in
      let put = texts once.made once.last number s.policy s m t once.posted.1 once.posted.2 (inr lent) in
      let one : PutsOneIn once.last i = record {
        work = λ same. absurd (cc same);
        puts = put.0 ∙ ap (λ (h : List (Entry Item block_note)). claims h ++ i ∷ []) once.makes.entries.0;
        took = put.1 logger.keeps ∙ ap (λ (h : List (Entry Item block_note)). takes h) once.makes.entries.0;
      } in
      let written = law once.end (once.last ∷ []) once.workers r
      (subst (λ (ps : List ProducerView). Disbands tells files failures once.end ps once.workers r) once.all once.ends) in
      let lent_is : hosted ≡ once.end.hosted = once.lends ∙ sym once.makes.same.hosted ∙ sym once.same in
      let there : spec_at once.end.hosted.shared.loggers number ≡ Some s =
      subst (λ (h : HostedView S). spec_at h.shared.loggers number ≡ Some s) lent_is logger.found in
      let due = due_texts once.end.hosted.shared.loggers number n s there logger.once (i ∷ []) (refl, tt) in
      let held = holds_one written i one n m due tell none in
      let zero_is : once.made.number ≡ 0 = once.makes.number ∙ once.new in
      subst (λ (v : HostedView S × ℕ). HoldsAt files n v.0.lanes r.sinks.items (message_with number level time v.1 text None))
      (λ j. (sym lent_is j, zero_is j)) (held_at tells files failures held)
