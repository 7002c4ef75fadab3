-- The scene of a script without a configuration: no queue before the line `ring`, and then the stepped queue with its posts and its
-- memory file, whose store may fail or not.
use Rattle.std.specs.Prelude.{◌≡◌, refl, ◌&&◌, ℕ, nat_lt, Bool, true, false, Option, None, Some, List, []}
use Rattle.alog_core.specs.Queue.{last}
use Rattle.alog_core.specs.World.{is_size}
use Rattle.alog_policy.specs.Desk.{desk_told, desk_stepped}
use Rattle.alog_replay.specs.Scene.{Scene, GoesOn}
use Rattle.alog_replay.specs.Script.{Told, ScriptTells}
use Rattle.alog_replay.specs.Memory.{MemoryFile, Turns, with_bytes, line}
use Rattle.alog_replay.specs.Session.{Stage, opened, is_free, may_push, pushing, popping, posting, Steps, StepsBy, cells_text}
use Rattle.alog_replay.specs.Session.{duty_of, shown_message, memory_turn_text, memory_file_text, with_duty, with_desk, with_memory, work_after}
use Rattle.alog_replay.specs.Texts.{stepped_text, counts_text}
use Rattle.alog_replay.specs.declared.command.Act.{Act}
use Rattle.alog_replay.specs.declared.command.Act.TheVariants.{Ring, Push, Pop, Work, Post, Cells, Counts}
use Rattle.alog_replay.specs.declared.duty.Duty.{Duty}
use Rattle.alog_replay.specs.declared.duty.Duty.TheVariants.{Free, Works, Owes}

-- before the queue is open nobody is in a call
abbrev pub is_free_in : Option Stage → ℕ → Bool
is_free_in None actor = true
is_free_in (Some s) actor = is_free s actor

-- `ring` may open the queue once, and nothing else comes before it
abbrev pub may_do : Option Stage → Act → Bool
may_do None (Ring places first) = is_size places && nat_lt first last
may_do (Some s) (Push actor text) = may_push s actor text
may_do (Some s) (Pop actor) = is_free s actor
may_do (Some s) (Work actor) = is_free s actor
may_do (Some s) (Post actor policy text) = may_push s actor text
may_do (Some s) Cells = true
may_do (Some s) Counts = true
may_do s _ = false

-- what an act prints that is not refused, and the stage after it
abbrev pub after_act : Option Stage → Act → List ℕ × Option Stage
after_act None (Ring places first) = ([], Some (opened places first))
after_act (Some s) (Push actor text) = ([], Some (pushing s actor text))
after_act (Some s) (Pop actor) = ([], Some (popping s actor Free))
after_act (Some s) (Work actor) = ([], Some (popping s actor Works))
after_act (Some s) (Post actor policy text) = ([], Some (posting s actor policy text))
after_act (Some s) Cells = (cells_text s, Some s)
after_act (Some s) Counts = (counts_text s.desk.counts, Some s)
after_act s _ = ([], s)

-- what a step of an actor in a call prints, and the stage after it
abbrev pub StepsIn : Bool → Option Stage → ℕ → List ℕ → Option Stage → Type 0
StepsIn may_fail None actor text next = (text ≡ []) × (next ≡ None)
StepsIn may_fail (Some s) actor text next = (after : Stage) × Steps may_fail s actor text after × (next ≡ Some after)

abbrev pub files_of : Option Stage → List ℕ
files_of None = []
files_of (Some s) = memory_file_text s.memory.bytes

-- the scene, over a store that may fail or never does
abbrev pub plain : Bool → Scene (Option Stage)
plain may_fail = record {
  is_free = is_free_in;
  may_do = may_do;
  Does = λ s act text next. (text ≡ (after_act s act).0) × (next ≡ (after_act s act).1);
  Steps = StepsIn may_fail;
  files = files_of;
}

-- where its store never fails a script without a configuration tells one thing, and one alone, which is among what it may
-- tell where its store may fail
abbrev pub OneText : Type 0
OneText =
    (script : List ℕ) → (t : Told) × ScriptTells (plain false) None script t × ScriptTells (plain true) None script t
    × ((u : Told) → ScriptTells (plain false) None script u → t ≡ u)

-- a turn comes of each text
some_turn : (may_fail broken : Bool) (bytes : Option (List ℕ)) (text : List ℕ) → (written : Bool) × (after : MemoryFile)
    × Turns may_fail (record { bytes = bytes; broken = broken }) text written after
some_turn false broken bytes text = (true, record { bytes = with_bytes bytes (line text); broken = broken }, (refl, refl))
some_turn true false bytes text = (true, record { bytes = with_bytes bytes (line text); broken = false }, (refl, refl))
some_turn true true bytes text = (false, record { bytes = bytes; broken = true }, (refl, refl, refl))

some_step : (may_fail : Bool) (s : Stage) (a : ℕ) (duty : Duty) → (text : List ℕ) × (next : Stage) × StepsBy may_fail s a duty text next
some_step may_fail s a Free =
    (stepped_text shown_message a (desk_told s.desk a), with_duty (with_desk s (desk_stepped s.desk a)) a Free, (refl, refl))
some_step may_fail s a Works =
    (stepped_text shown_message a (desk_told s.desk a), with_duty (with_desk s (desk_stepped s.desk a)) a (work_after (desk_told s.desk a).said), (refl, refl))
some_step may_fail s a (Owes t m) =
    let turn = some_turn may_fail s.memory.broken s.memory.bytes m.text in
    (memory_turn_text a t turn.0, with_duty (with_memory s turn.1) a Free, (turn.0, turn.1, turn.2, refl, refl))

some_step_in : (may_fail : Bool) (s : Option Stage) (a : ℕ) → (text : List ℕ) × (next : Option Stage) × StepsIn may_fail s a text next
some_step_in may_fail None a = ([], None, (refl, refl))
some_step_in may_fail (Some s) a =
    let step = some_step may_fail s a (duty_of s a) in
    (step.0, Some step.1, (step.1, step.2, refl))

-- something comes of each act that is not refused, and of each step of an actor in a call
pub plain_goes_on : (may_fail : Bool) → GoesOn (plain may_fail)
plain_goes_on may_fail = record {
  does = λ s act h. ((after_act s act).0, (after_act s act).1, (refl, refl));
  steps = λ s actor h. some_step_in may_fail s actor;
}
