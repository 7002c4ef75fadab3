-- What a script tells on a store that never fails, it may tell on one that may fail.
use Rattle.std.proofs.Common.{◌≡◌, ℕ, suc, zero, ◌+◌, Bool, true, false, Option, None, Some, List, [], ◌∷◌, refl, sym, ap, subst, ◌∙◌}
use Rattle.alog_replay.specs.declared.limits.TheConstants.{STEPS_MAX}
use Rattle.alog_replay.specs.Memory.{MemoryFile, Turns}
use Rattle.alog_replay.specs.Scene.{Played, Done, Refused, behind, WhereTrue, StepThen, Makes, Plays, refused, done}
use Rattle.alog_replay.specs.Session.{Stage, StepsBy, duty_of}
use Rattle.alog_replay.specs.Script.{Told, Tells, TellsLine, TellsPlayed}
use Rattle.alog_replay.specs.Plain.{plain, may_do, is_free_in, after_act, StepsIn}
use Rattle.alog_replay.specs.declared.duty.Duty.{Duty}
use Rattle.alog_replay.specs.declared.duty.Duty.TheVariants.{Free, Works, Owes}
use Rattle.alog_replay.specs.declared.command.Act.{Act}
use Rattle.alog_replay.specs.declared.command.Act.TheVariants.{Ring, Push, Pop, Work, Post, Log, Flush, Dump, Level, Cells, Counts}
use Rattle.alog_replay.specs.declared.command.Command.{Command}
use Rattle.alog_replay.specs.declared.command.Command.TheVariants.{Acts, Step, Run}
use Rattle.alog_replay.specs.declared.entry.Entry.{Entry}
use Rattle.alog_replay.specs.declared.entry.Entry.TheVariants.{Skipped, Does}
use Rattle.alog_replay.specs.declared.entry.Entry.TheVariants as entry

-- the store has not failed
abbrev Holds : Option Stage → Type 0
Holds None = Unit {0}
Holds (Some s) = s.memory.broken ≡ false

abbrev HoldsAfter : Played (Option Stage) → Type 0
HoldsAfter (Done text s) = Holds s
HoldsAfter (Refused text) = Unit {0}

holds_behind : (text : List ℕ) (p : Played (Option Stage)) → HoldsAfter p → HoldsAfter (behind text p)
holds_behind text (Done more s) h = h
holds_behind text (Refused more) h = tt

turn_may : (old : MemoryFile) (text : List ℕ) (written : Bool) (new : MemoryFile) → old.broken ≡ false → Turns false old text written new
    → Turns true old text written new × (new.broken ≡ false)
turn_may old text true new h t = ((h, t.1), ap (λ (f : MemoryFile). f.broken) t.1 ∙ h)
turn_may old text false new h t = absurd (let e = t.0 in cc)

step_by : (s : Stage) (a : ℕ) (d : Duty) (text : List ℕ) (next : Stage) → s.memory.broken ≡ false → StepsBy false s a d text next
    → StepsBy true s a d text next × (next.memory.broken ≡ false)
step_by s a Free text next h t = (t, ap (λ (s : Stage). s.memory.broken) t.1 ∙ h)
step_by s a Works text next h t = (t, ap (λ (s : Stage). s.memory.broken) t.1 ∙ h)
step_by s a (Owes n m) text next h t =
    let turn = turn_may s.memory m.text t.0 t.1 h t.2 in
    ((t.0, t.1, turn.0, t.3, t.4), ap (λ (s : Stage). s.memory.broken) t.4 ∙ turn.1)

step_may : (s : Option Stage) (a : ℕ) (text : List ℕ) (next : Option Stage) → Holds s → StepsIn false s a text next
    → StepsIn true s a text next × Holds next
step_may None a text next h t = (t, subst Holds (sym t.1) h)
step_may (Some s) a text next h t =
    let step = step_by s a (duty_of s a) text t.0 h t.1 in
    ((t.0, step.0, t.2), subst Holds (sym t.2) step.1)

-- where the store has not failed, it has not at the end of steps nor after the rest of them
record HoldsOn (ended : Option Stage → Played (Option Stage)) (One Two : Option Stage → Played (Option Stage) → Type 0) : Type 0 where
  ends : (t : Option Stage) → Holds t → HoldsAfter (ended t)
  rest : (t : Option Stage) (q : Played (Option Stage)) → Holds t → One t q → Two t q × HoldsAfter q

made_or : {ended : Option Stage → Played (Option Stage)} {One Two : Option Stage → Played (Option Stage) → Type 0}
    → HoldsOn ended One Two → (a : ℕ) (s : Option Stage) (p : Played (Option Stage)) → Holds s
    → (b : Bool) → WhereTrue b (p ≡ ended s) (StepThen (plain false) a s One p)
    → WhereTrue b (p ≡ ended s) (StepThen (plain true) a s Two p) × HoldsAfter p
made_or on a s p h true t = (t, subst HoldsAfter (sym t) (on.ends s h))
made_or on a s p h false t =
    let step = step_may s a t.0 t.1 h t.3 in
    let after = on.rest t.1 t.2 step.1 t.4 in
    ((t.0, t.1, t.2, step.0, after.0, t.5), subst HoldsAfter (sym t.5) (holds_behind t.0 t.2 after.1))

made_may : (ended : Option Stage → Played (Option Stage)) → ((t : Option Stage) → Holds t → HoldsAfter (ended t)) → (k a : ℕ)
    (s : Option Stage) (p : Played (Option Stage)) → Holds s → Makes (plain false) ended k a s p
    → Makes (plain true) ended k a s p × HoldsAfter p
unfolding Makes
made_may ended ends zero a s p h t = (t, subst HoldsAfter (sym t) h)
made_may ended ends (suc k) a s p h t =
    let on : HoldsOn ended (λ u q. Makes (plain false) ended k a u q) (λ u q. Makes (plain true) ended k a u q) =
    record { ends = ends; rest = λ u q f m. made_may ended ends k a u q f m } in
    made_or on a s p h (is_free_in s a) t

act_holds : (s : Option Stage) (act : Act) → Holds s → Holds (after_act s act).1
act_holds None (Ring places first) h = refl
act_holds None (Push a text) h = tt
act_holds None (Pop a) h = tt
act_holds None (Work a) h = tt
act_holds None (Post a policy text) h = tt
act_holds None (Log a time name level text) h = tt
act_holds None (Flush a name) h = tt
act_holds None (Dump a time name) h = tt
act_holds None (Level name level) h = tt
act_holds None Cells h = tt
act_holds None Counts h = tt
act_holds (Some s) (Ring places first) h = h
act_holds (Some s) (Push a text) h = h
act_holds (Some s) (Pop a) h = h
act_holds (Some s) (Work a) h = h
act_holds (Some s) (Post a policy text) h = h
act_holds (Some s) (Log a time name level text) h = h
act_holds (Some s) (Flush a name) h = h
act_holds (Some s) (Dump a time name) h = h
act_holds (Some s) (Level name level) h = h
act_holds (Some s) Cells h = h
act_holds (Some s) Counts h = h

act_may : (s : Option Stage) (act : Act) (p : Played (Option Stage)) → Holds s → (b : Bool)
    → WhereTrue b ((text : List ℕ) × (next : Option Stage) × (plain false).Does s act text next × (p ≡ Done text next)) (p ≡ Refused [])
    → HoldsAfter p
act_may s act p h true t = subst HoldsAfter (sym t.3) (subst Holds (sym t.2.1) (act_holds s act h))
act_may s act p h false t = subst HoldsAfter (sym t) tt

run_may : (s : Option Stage) (a : ℕ) (p : Played (Option Stage)) → Holds s → (b : Bool)
    → WhereTrue b (p ≡ Refused []) (Makes (plain false) done STEPS_MAX a s p)
    → WhereTrue b (p ≡ Refused []) (Makes (plain true) done STEPS_MAX a s p) × HoldsAfter p
run_may s a p h true t = (t, subst HoldsAfter (sym t) tt)
run_may s a p h false t = made_may done (λ u f. f) STEPS_MAX a s p h t

played_may : (s : Option Stage) (command : Command) (p : Played (Option Stage)) → Holds s → Plays (plain false) s command p
    → Plays (plain true) s command p × HoldsAfter p
played_may s (Acts act) p h t = (t, act_may s act p h (may_do s act) t)
played_may s (Step a count) p h t = made_may refused (λ u f. tt) count a s p h t
played_may s (Run a) p h t = run_may s a p h (is_free_in s a) t

-- what is told of the rest in one way may be told in the other
record MayTell (One Two : Option Stage → Told → Type 0) : Type 0 where
  may : (s : Option Stage) (u : Told) → Holds s → One s u → Two s u

rest_may : {One Two : Option Stage → Told → Type 0} → MayTell One Two → (n : ℕ) (p : Played (Option Stage)) (t : Told)
    → HoldsAfter p → TellsPlayed n p One t → TellsPlayed n p Two t
rest_may rest n (Done text s) t h u = (u.0, rest.may s u.0 h u.1, u.2)
rest_may rest n (Refused text) t h u = u

line_may : {One Two : Option Stage → Told → Type 0} → MayTell One Two → (s : Option Stage) (n : ℕ) (e : Entry) (t : Told)
    → Holds s → TellsLine (plain false) s n e One t → TellsLine (plain true) s n e Two t
line_may rest s n Skipped t h u = rest.may s t h u
line_may rest s n (Does command) t h u =
    let played = played_may s command u.0 h u.1 in
    (u.0, played.0, rest_may rest n u.0 t played.1 u.2)
line_may rest s n entry.Refused t h u = u

-- what lines tell where the store never fails they may tell
pub lines_may : (lines : List (List ℕ)) (s : Option Stage) (n : ℕ) (t : Told) → Holds s → Tells (plain false) s n lines t
    → Tells (plain true) s n lines t
unfolding Tells
lines_may [] s n t h u = u
lines_may (line ∷ lines) s n t h u =
    let rest : MayTell (λ next v. Tells (plain false) next (n + 1) lines v) (λ next v. Tells (plain true) next (n + 1) lines v) =
    record { may = λ next v f w. lines_may lines next (n + 1) v f w } in
    (u.0, u.1, line_may rest s n u.0 t h u.2)
