-- Each script tells something on a scene that goes on.
use Rattle.std.proofs.Common.{◌≡◌, ℕ, suc, zero, ◌+◌, Bool, true, false, List, [], ◌∷◌, refl}
use Rattle.alog_replay.specs.Lines.{lines_of}
use Rattle.alog_replay.specs.declared.limits.TheConstants.{STEPS_MAX}
use Rattle.alog_replay.specs.Scene.{Scene, Played, Done, Refused, behind, WhereTrue, StepThen, Makes, Plays, GoesOn}
use Rattle.alog_replay.specs.Scene.{refused, done}
use Rattle.alog_replay.specs.Script.{Told, Whole, RefusedAt, told_behind, Tells, TellsLine, TellsPlayed, TellsSomething}
use Rattle.alog_replay.specs.declared.command.Act.{Act}
use Rattle.alog_replay.specs.declared.command.Command.{Command}
use Rattle.alog_replay.specs.declared.command.Command.TheVariants.{Acts, Step, Run}
use Rattle.alog_replay.specs.declared.entry.Entry.{Entry}
use Rattle.alog_replay.specs.declared.entry.Entry.TheVariants.{Skipped, Does}
use Rattle.alog_replay.specs.declared.entry.Entry.TheVariants as entry
use Rattle.alog_replay.proofs.EntryLemmas.{some_entry}

-- Something comes of each line.
module _ {S : Type 0} (scene : Scene S) (goes : GoesOn scene) where
  some_step_or : (ended : S → Played S) (actor : ℕ) (s : S) (Rest : S → Played S → Type 0) → ((t : S) → (q : Played S) × Rest t q)
      → (b : Bool) → scene.is_free s actor ≡ b → (p : Played S) × WhereTrue b (p ≡ ended s) (StepThen scene actor s Rest p)
  some_step_or ended actor s Rest rest true e = (ended s, refl)
  some_step_or ended actor s Rest rest false e =
      let step = goes.steps s actor e in
      let q = rest step.1 in
      (behind step.0 q.0, (step.0, step.1, q.0, step.2, q.1, refl))

  some_made : (ended : S → Played S) (k actor : ℕ) (s : S) → (p : Played S) × Makes scene ended k actor s p
  unfolding Makes
  some_made ended zero actor s = (Done [] s, refl)
  some_made ended (suc k) actor s =
      some_step_or ended actor s (λ t q. Makes scene ended k actor t q) (λ t. some_made ended k actor t) (scene.is_free s actor) refl

  some_act : (s : S) (act : Act) (b : Bool) → scene.may_do s act ≡ b
      → (p : Played S) × WhereTrue b ((text : List ℕ) × (next : S) × scene.Does s act text next × (p ≡ Done text next)) (p ≡ Refused [])
  some_act s act true e = let d = goes.does s act e in (Done d.0 d.1, (d.0, d.1, d.2, refl))
  some_act s act false e = (Refused [], refl)

  some_run : (s : S) (actor : ℕ) (b : Bool) → (p : Played S) × WhereTrue b (p ≡ Refused []) (Makes scene done STEPS_MAX actor s p)
  some_run s actor true = (Refused [], refl)
  some_run s actor false = some_made done 512 actor s

  some_played : (s : S) (command : Command) → (p : Played S) × Plays scene s command p
  some_played s (Acts act) = some_act s act (scene.may_do s act) refl
  some_played s (Step actor count) = some_made refused count actor s
  some_played s (Run actor) = some_run s actor (scene.is_free s actor)

  some_rest : (n : ℕ) (p : Played S) (rest : S → Told → Type 0) → ((s : S) → (t : Told) × rest s t) → (t : Told) × TellsPlayed n p rest t
  some_rest n (Done text s) rest some = let u = some s in (told_behind text u.0, (u.0, u.1, refl))
  some_rest n (Refused text) rest some = (RefusedAt (n + 1) text, refl)

  some_line : (s : S) (n : ℕ) (e : Entry) (rest : S → Told → Type 0) → ((t : S) → (u : Told) × rest t u)
      → (t : Told) × TellsLine scene s n e rest t
  some_line s n Skipped rest some = some s
  some_line s n (Does command) rest some =
      let p = some_played s command in
      let t = some_rest n p.0 rest some in
      (t.0, (p.0, p.1, t.1))
  some_line s n entry.Refused rest some = (RefusedAt (n + 1) [], refl)

  pub some_told : (lines : List (List ℕ)) (s : S) (n : ℕ) → (t : Told) × Tells scene s n lines t
  unfolding Tells
  some_told [] s n = (Whole (scene.files s) n, refl)
  some_told (line ∷ lines) s n =
      let e = some_entry line in
      let t = some_line s n e.0 (λ next u. Tells scene next (n + 1) lines u) (λ next. some_told lines next (n + 1)) in
      (t.0, (e.0, e.1, t.1))

pub some_script : {S : Type 0} (scene : Scene S) → TellsSomething scene
some_script scene goes s script = some_told scene goes (lines_of script) s 0
