-- What a script tells without a line that says a fault, it tells where no store fails.
use Rattle.std.proofs.Common.{◌≡◌, ℕ, suc, zero, ◌+◌, Bool, true, false, Option, None, Some, List, [], ◌∷◌, ◌++◌, inl, inr, refl, sym, ap, subst, ◌∙◌}
use Rattle.std.specs.Prelude.{◌⊎◌, map}
use Rattle.alog_core.specs.World.{shown}
use Rattle.alog_sink.specs.Files.{Files}
use Rattle.alog_system.specs.Roster.{level_at}
use Rattle.alog_system.specs.Begin.{filtering}
use Rattle.alog_system.specs.System.{duty_of, item_of}
use Rattle.alog_msg.specs.declared.level.Level.{Level as LogLevel}
use Rattle.alog_replay.specs.Configured.{Stage, StepsIn, after_act, configured, log_text, number_in, of_number, told_turn}
use Rattle.alog_replay.specs.Faultless.{AreWholeLines, FaultsAreTold, HasFaultLine, HasNoFault, StepsWell}
use Rattle.alog_replay.specs.Lines.{lines_of}
use Rattle.alog_replay.specs.Scene.{Scene, Played, Done, Refused, behind, WhereTrue, StepThen, Makes, Plays, refused, done, with_steps}
use Rattle.alog_replay.specs.Script.{Told, RefusedAt, Tells, TellsLine, TellsPlayed, text_of}
use Rattle.alog_replay.specs.declared.command.Act.{Act}
use Rattle.alog_replay.specs.declared.command.Act.TheVariants.{Ring, Push, Pop, Work, Post, Log, Flush, Dump, Level, Cells, Counts}
use Rattle.alog_replay.specs.declared.command.Command.{Command}
use Rattle.alog_replay.specs.declared.command.Command.TheVariants.{Acts, Step, Run}
use Rattle.alog_replay.specs.declared.entry.Entry.{Entry}
use Rattle.alog_replay.specs.declared.entry.Entry.TheVariants.{Skipped, Does}
use Rattle.alog_replay.specs.declared.entry.Entry.TheVariants as entry
use Rattle.alog_replay.specs.declared.limits.TheConstants.{STEPS_MAX}
use Rattle.alog_replay.proofs.Telling.{text_behind}
use Rattle.alog_replay.proofs.WholeLines.{cells_lines, counts_lines, fault_alone, fault_before, fault_behind, filtered_lines, lines_behind, no_line}
use Rattle.alog_replay.proofs.WholeLines.{told_lines, turn_lines, well_or_fault}

-- this holds, or a line of the text says a fault
abbrev Or : Type 0 → List ℕ → Type 0
Or P text = P ⊎ HasFaultLine text

then : {P Q : Type 0} (text : List ℕ) → (P → Q) → Or P text → Or Q text
then text f (inl p) = inl (f p)
then text f (inr h) = inr h

both : {P Q R : Type 0} (x y : List ℕ) → AreWholeLines x → Or P x → Or Q y → (P → Q → R) → Or R (x ++ y)
both x y whole (inl p) (inl q) f = inl (f p q)
both x y whole (inl p) (inr h) f = inr (fault_behind x y whole h)
both x y whole (inr h) q f = inr (fault_before x y h)

text_in : {S : Type 0} → Played S → List ℕ
text_in (Done text s) = text
text_in (Refused text) = text

in_behind : {S : Type 0} (x : List ℕ) (p : Played S) → text_in (behind x p) ≡ x ++ text_in p
unfolding text_in
in_behind x (Done text s) = refl
in_behind x (Refused text) = refl

in_done : {S : Type 0} (text : List ℕ) (s : S) → text_in (Done text s) ≡ text
unfolding text_in
in_done text s = refl

-- On a scene whose acts and steps print whole lines, and each of whose steps is such or says a fault.
module _ {S : Type 0} (scene : Scene S) (Well : S → ℕ → List ℕ → S → Type 0)
    (acts : (s : S) (act : Act) (text : List ℕ) (next : S) → scene.Does s act text next → AreWholeLines text)
    (steps : (s : S) (a : ℕ) (text : List ℕ) (next : S) → scene.Steps s a text next → AreWholeLines text × Or (Well s a text next) text) where
  abbrev well : Scene S
  well = with_steps scene Well

  -- whole lines were printed, and this holds or one of them says a fault
  abbrev Prints : Type 0 → Played S → Type 0
  Prints P p = AreWholeLines (text_in p) × Or P (text_in p)

  -- steps end in whole lines, and the rest of them prints these
  record GoesOn (ended : S → Played S) (One Two : S → Played S → Type 0) : Type 0 where
    ends : (t : S) → AreWholeLines (text_in (ended t))
    rest : (t : S) (q : Played S) → One t q → Prints (Two t q) q

  made_or : {ended : S → Played S} {One Two : S → Played S → Type 0} → GoesOn ended One Two → (a : ℕ) (s : S) (p : Played S)
      → (b : Bool) → WhereTrue b (p ≡ ended s) (StepThen scene a s One p) → Prints (WhereTrue b (p ≡ ended s) (StepThen well a s Two p)) p
  made_or on a s p true h = (subst (λ (q : Played S). AreWholeLines (text_in q)) (sym h) (on.ends s), inl h)
  made_or {Two} on a s p false h =
      let step = steps s a h.0 h.1 h.3 in
      let more = on.rest h.1 h.2 h.4 in
      let is : text_in p ≡ h.0 ++ text_in h.2 = ap text_in h.5 ∙ in_behind h.0 h.2 in
      let R : Type 0 = StepThen well a s Two p in
      subst (λ (x : List ℕ). AreWholeLines x × Or R x) (sym is)
      (lines_behind h.0 (text_in h.2) step.0 more.0, both h.0 (text_in h.2) step.0 step.1 more.1 (λ w r. (h.0, h.1, h.2, w, r, h.5)))

  made : (ended : S → Played S) → ((t : S) → AreWholeLines (text_in (ended t))) → (k a : ℕ) (s : S) (p : Played S)
      → Makes scene ended k a s p → Prints (Makes well ended k a s p) p
  unfolding Makes
  made ended ends zero a s p h =
      (subst (λ (q : Played S). AreWholeLines (text_in q)) (sym h) (subst AreWholeLines (sym (in_done [] s)) no_line), inl h)
  made ended ends (suc k) a s p h =
      let on : GoesOn ended (λ t q. Makes scene ended k a t q) (λ t q. Makes well ended k a t q) =
      record { ends = ends; rest = λ t q m. made ended ends k a t q m } in
      made_or on a s p (scene.is_free s a) h

  nothing_done : (s : S) → AreWholeLines (text_in (done s))
  unfolding text_in
  nothing_done s = no_line

  nothing_refused : (s : S) → AreWholeLines (text_in (refused s))
  unfolding text_in
  nothing_refused s = no_line

  acted : (s : S) (act : Act) (p : Played S) (b : Bool)
      → WhereTrue b ((text : List ℕ) × (next : S) × scene.Does s act text next × (p ≡ Done text next)) (p ≡ Refused [])
      → AreWholeLines (text_in p)
  acted s act p true h =
      subst (λ (q : Played S). AreWholeLines (text_in q)) (sym h.3)
      (subst AreWholeLines (sym (in_done h.0 h.1)) (acts s act h.0 h.1 h.2))
  acted s act p false h = subst (λ (q : Played S). AreWholeLines (text_in q)) (sym h) (nothing_refused s)

  ran : (s : S) (a : ℕ) (p : Played S) (b : Bool) → WhereTrue b (p ≡ Refused []) (Makes scene done STEPS_MAX a s p)
      → Prints (WhereTrue b (p ≡ Refused []) (Makes well done STEPS_MAX a s p)) p
  ran s a p true h = (subst (λ (q : Played S). AreWholeLines (text_in q)) (sym h) (nothing_refused s), inl h)
  ran s a p false h = made done nothing_done STEPS_MAX a s p h

  played : (s : S) (command : Command) (p : Played S) → Plays scene s command p → Prints (Plays well s command p) p
  played s (Acts act) p h = (acted s act p (scene.may_do s act) h, inl h)
  played s (Step a count) p h = made refused nothing_refused count a s p h
  played s (Run a) p h = ran s a p (scene.is_free s a) h

  told_rest : {P : Type 0} (n : ℕ) (p : Played S) (One Two : S → Told → Type 0) (t : Told)
      → ((s : S) (u : Told) → One s u → Or (Two s u) (text_of u)) → Prints P p → TellsPlayed n p One t
      → Or (P × TellsPlayed n p Two t) (text_of t)
  unfolding text_in
  told_rest {P = P} n (Done text s) One Two t rest w h =
      let is : text_of t ≡ text ++ text_of h.0 = ap text_of h.2 ∙ text_behind text h.0 in
      let R : Type 0 = P × TellsPlayed n (Done text s) Two t in
      subst (Or R) (sym is) (both text (text_of h.0) w.0 w.1 (rest s h.0 h.1) (λ x two. (x, (h.0, two, h.2))))
  told_rest {P = P} n (Refused text) One Two t rest w h =
      let R : Type 0 = P × (t ≡ RefusedAt (n + 1) text) in
      subst (Or R) (sym (ap text_of h)) (then text (λ x. (x, h)) w.1)

  told_line : (s : S) (n : ℕ) (e : Entry) (One Two : S → Told → Type 0) (t : Told)
      → ((s : S) (u : Told) → One s u → Or (Two s u) (text_of u)) → TellsLine scene s n e One t → Or (TellsLine well s n e Two t) (text_of t)
  told_line s n Skipped One Two t rest h = rest s t h
  told_line s n (Does command) One Two t rest h =
      then (text_of t) (λ x. (h.0, x.0, x.1))
      (told_rest n h.0 One Two t rest (played s command h.0 h.1) h.2)
  told_line s n entry.Refused One Two t rest h = inl h

  all_told : (lines : List (List ℕ)) (s : S) (n : ℕ) (t : Told) → Tells scene s n lines t → Or (Tells well s n lines t) (text_of t)
  unfolding Tells
  all_told [] s n t h = inl h
  all_told (line ∷ lines) s n t h =
      then (text_of t) (λ x. (h.0, h.1, x))
      (told_line s n h.0 (λ next u. Tells scene next (n + 1) lines u) (λ next u. Tells well next (n + 1) lines u) t
      (λ next u g. all_told lines next (n + 1) u g) h.2)

  pub told_well : (lines : List (List ℕ)) (s : S) (n : ℕ) (t : Told) → Tells scene s n lines t → ¬ HasFaultLine (text_of t)
      → Tells well s n lines t
  told_well lines s n t h none = elim (all_told lines s n t h) [ inl x ↦ x | inr g ↦ absurd (none g) ]

-- The scene of a script with a configuration.
log_lines : {S : Type 0} (s : Stage S) (a : ℕ) (level : LogLevel) (o : Option ℕ) → AreWholeLines (of_number [] (log_text s.system a level) o)
log_lines s a level None = no_line
log_lines s a level (Some n) = filtered_lines a (filtering level (level_at s.system.roster n))

act_lines : {S : Type 0} (s : Stage S) (act : Act) → AreWholeLines (after_act s act).0
act_lines s (Ring places first) = no_line
act_lines s (Push a text) = no_line
act_lines s (Pop a) = no_line
act_lines s (Post a policy text) = no_line
act_lines s (Work a) = no_line
act_lines s (Log a time name level text) = log_lines s a level (number_in s name)
act_lines s (Flush a name) = no_line
act_lines s (Dump a time name) = no_line
act_lines s (Level name level) = no_line
act_lines s Cells = cells_lines (map shown s.system.desk.world.queue.cells)
act_lines s Counts = counts_lines s.system.desk.counts

module _ {S : Type 0} (tells : Bool) (files : S → Files) (failures : S → ℕ) where
  step_lines : (s : Stage S) (a : ℕ) (text : List ℕ) (next : Stage S) → StepsIn tells files failures s a text next
      → AreWholeLines text × Or (StepsWell tells files failures s a text next) text
  step_lines s a text next (inl step) =
      let held = item_of (duty_of next.system a) in
      let P : List ℕ → Type 0 = λ x. AreWholeLines x × Or (HasNoFault step.told) x in
      let x = subst P (sym step.printed) (told_lines s.names a held step.told, well_or_fault s.names a held step.told) in
      (x.0, then text (λ w. inl (step, w)) x.1)
  step_lines s a text next (inr (inl h)) =
      let is = h.3 ∙ ap (told_turn s.names a) h.2.says in
      (subst AreWholeLines (sym h.3) (turn_lines s.names a h.0), inr (subst HasFaultLine (sym is) (fault_alone a _ _)))
  step_lines s a text next (inr (inr h)) = (inl h.1, inl (inr h))

  pub faults_are_told : (listing : S → List (List ℕ × List ℕ)) → FaultsAreTold tells files failures listing
  faults_are_told listing s script t h none =
      told_well (configured tells files failures listing) (StepsWell tells files failures)
      (λ s act text next d. subst AreWholeLines (sym d.0) (act_lines s act)) step_lines (lines_of script) s 0 t h none
