-- What is true after a whole run of a system.
use Rattle.std.proofs.Common.{◌⊎◌, ◌↔◌, ℕ, ◌≤◌, Bool, List, length, subst, arith, inl}
use Rattle.std.specs.List.{Contains}
use Rattle.alog_core.specs.Queue.{Queue, IsListed}
use Rattle.alog_core.specs.Accounts.{issued, handed_out}
use Rattle.alog_core.specs.History.{Entry, StandsFor}
use Rattle.alog_core.proofs.SharedHistories.{reached_states_are_sound}
use Rattle.alog_core.proofs.SharedItems.{tickets_keep_their_items}
use Rattle.alog_core.proofs.SharedSizes.{size_facts}
use Rattle.alog_core.proofs.SharedTickets.{no_ticket_is_handed_out_twice, tickets_are_handed_out_or_listed}
use Rattle.alog_msg.specs.declared.item.Item.{Item}
use Rattle.alog_policy.specs.Runs.{entries_made}
use Rattle.alog_policy.proofs.SharedRunning.{runs_are_cut}
use Rattle.alog_sink.specs.Files.{Files}
use Rattle.alog_system.specs.Acts.{steps_in, queue_steps}
use Rattle.alog_system.specs.Runs.{SystemRuns}
use Rattle.alog_system.specs.System.{duty_of}
use Rattle.alog_system.proofs.RunAnswers.{answers_tell}
use Rattle.alog_system.proofs.RunGoes.{calls_left, turns_left}
use Rattle.alog_system.proofs.RunKept.{is_kept, kept_messages}
use Rattle.alog_system.proofs.RunKnown.{known, idle_calls, free_left}
use Rattle.alog_system.proofs.RunSinks.{sinks_stand, fine_sinks_stand}

pub system_runs : {S : Type 0} (tells : Bool) (files : S → Files) (failures : S → ℕ) → SystemRuns tells files failures
system_runs {S} tells files failures places limit loggers first made v size leads =
    let h = known places size loggers tells files failures limit first made v leads in
    let kept_so = is_kept tells files failures places limit loggers first made v leads in
    let ss = queue_steps (steps_in made) in
    let run = runs_are_cut Item places 0 h.calls ss v.desk size (omega arith) h.plays in
    let es : List (Entry Item (Unit {0})) = entries_made ss in
    let stood : StandsFor places 0 es v.desk.world.queue =
    subst (λ n. StandsFor n 0 es v.desk.world.queue) run.places run.history.stands in
    let legal = stood.legal in
    let left = stood.queue in
    let facts = size_facts places size in
    let there = tickets_are_handed_out_or_listed Item (Unit {0}) places 0 es in
    record {
      calls = h.calls;
      queue = run;
      asked = λ a lt.
          record { left = calls_left (duty_of v a); began = h.asked a lt; none = idle_calls places size loggers made v h a lt };
      turns = λ a lt. record { left = turns_left loggers (duty_of v a); made = h.turns a lt; none = free_left loggers made v kept_so a };
      steps = answers_tell tells files failures places limit size loggers first made v leads;
      few = subst (λ (q : Queue Item). length q.cells ≤ places) left
          (reached_states_are_sound Item (Unit {0}) places 0 es (omega (arith, facts.1)) legal).1;
      once = no_ticket_is_handed_out_twice Item (Unit {0}) places 0 es legal;
      all = λ t.
          subst (λ (q : Queue Item). Contains (issued es) t ↔ (Contains (handed_out es) t ⊎ IsListed t q.cells)) left (there t legal).0;
      apart = λ t. subst (λ (q : Queue Item). Contains (handed_out es) t → ¬ IsListed t q.cells) left (there t legal).1;
      same = λ t i taken. (tickets_keep_their_items Item (Unit {0}) places 0 es t i legal (inl taken)).0;
      levels = kept_so.levels;
      kept = kept_messages loggers made v kept_so;
      sinks = λ told. sinks_stand tells files failures told places limit loggers first made v leads;
      fine = λ told.
          fine_sinks_stand tells files failures told (steps_in made) first v.outputs.sinks
          (sinks_stand tells files failures told places limit loggers first made v leads);
    }
