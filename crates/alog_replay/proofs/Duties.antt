-- What an actor owes, step by step.
use Rattle.std.proofs.Common.{◌≡◌, ℕ, Bool, true, List, ◌++◌, ap, subst, ◌∙◌, refl}
use Rattle.std.proofs.lemmas.List.{set-set}
use Rattle.alog_msg.specs.declared.message.Message.{Message}
use Rattle.alog_policy.specs.Desk.{desk_told, desk_stepped}
use Rattle.alog_replay.specs.Memory.{MemoryFile, Turns}
use Rattle.alog_replay.specs.Scene.{Prints}
use Rattle.alog_replay.specs.Session.{Stage, duty_of, with_duty, with_desk, with_memory, work_after, shown_message, memory_turn_text}
use Rattle.alog_replay.specs.Session.{StepsBy, Steps}
use Rattle.alog_replay.specs.Texts.{stepped_text}
use Rattle.alog_replay.specs.declared.duty.Duty.TheVariants.{Free, Works, Owes}

-- An actor's duty was taken out of a stage, which left `taken`, and then came its step.
module _ (s taken after : Stage) (a : ℕ) (old new : List ℕ) (out : taken ≡ with_duty s a Free) where
  -- what was printed of a round's step is printed of the stage before too
  printed_before : new ≡ old ++ stepped_text shown_message a (desk_told taken.desk a)
      → new ≡ old ++ stepped_text shown_message a (desk_told s.desk a)
  printed_before printed = subst (λ (t : Stage). new ≡ old ++ stepped_text shown_message a (desk_told t.desk a)) out printed

  -- a push, a post, or a pop by no worker
  pub free_stepped : Free ≡ duty_of s a → after ≡ with_desk taken (desk_stepped taken.desk a)
      → new ≡ old ++ stepped_text shown_message a (desk_told taken.desk a) → Prints old new (λ text. Steps true s a text after)
  free_stepped owed moved printed =
      let placed : after ≡ with_duty (with_desk s (desk_stepped s.desk a)) a Free =
      subst (λ (t : Stage). after ≡ with_desk t (desk_stepped t.desk a)) out moved in (
        stepped_text shown_message a (desk_told s.desk a),
        subst (λ d. StepsBy true s a d (stepped_text shown_message a (desk_told s.desk a)) after) owed (refl, placed),
        printed_before printed,
      )

  -- the pop of a worker, which then owes what it took
  pub worker_stepped : Works ≡ duty_of s a
      → after ≡ with_duty (with_desk taken (desk_stepped taken.desk a)) a (work_after (desk_told taken.desk a).said)
      → new ≡ old ++ stepped_text shown_message a (desk_told taken.desk a) → Prints old new (λ text. Steps true s a text after)
  worker_stepped owed moved printed =
      let now = work_after (desk_told s.desk a).said in
      let went : Stage = with_desk s (desk_stepped s.desk a) in
      let twice : with_duty (with_duty went a Free) a now ≡ with_duty went a now =
      ap (λ ds. let r : Stage = record { desk = desk_stepped s.desk a; duties = ds; memory = s.memory } in r) (set-set s.duties a Free now) in
      let placed : after ≡ with_duty (with_duty went a Free) a now =
      subst (λ (t : Stage). after ≡ with_duty (with_desk t (desk_stepped t.desk a)) a (work_after (desk_told t.desk a).said)) out moved in (
        stepped_text shown_message a (desk_told s.desk a),
        subst (λ d. StepsBy true s a d (stepped_text shown_message a (desk_told s.desk a)) after) owed (refl, placed ∙ twice),
        printed_before printed,
      )

  -- a turn that was owed
  pub turn_stepped : {t : ℕ} {m : Message} → Owes t m ≡ duty_of s a
      → (written : Bool) × (memory : MemoryFile) × Turns true taken.memory m.text written memory × (after ≡ with_memory taken memory)
      × (new ≡ old ++ memory_turn_text a t written)
      → Prints old new (λ text. Steps true s a text after)
  turn_stepped {t} {m} owed settled =
      let written = settled.0 in
      let memory = settled.1 in
      let turns : Turns true s.memory m.text written memory =
      subst (λ (u : Stage). Turns true u.memory m.text written memory) out settled.2 in
      let placed : after ≡ with_duty (with_memory s memory) a Free = subst (λ (u : Stage). after ≡ with_memory u memory) out settled.3 in (
        memory_turn_text a t written,
        subst (λ d. StepsBy true s a d (memory_turn_text a t written) after) owed (written, memory, turns, refl, placed),
        settled.4,
      )
