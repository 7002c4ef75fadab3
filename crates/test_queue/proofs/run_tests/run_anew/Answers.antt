use Rattle.std.proofs.Common.{ℕ, [], ap, subst, ◌∙◌}
use Rattle.alog_core.specs.History.{StandsFor}
use Rattle.alog_core.specs.World.{Machine, fresh}
use Rattle.alog_core.specs.Run.{GoesOn, entries_of_run}
use Rattle.alog_core.proofs.SharedFronts.{leads_start}
use Rattle.alog_core.proofs.SharedRuns.{places_after_calls}
use Rattle.test_queue.proofs.run_tests.run_anew.Goals as goal

-- the empty history leads to the new queue, so it goes on with the entries of the run
pub returns-clause-stands : goal.returns-clause-stands
returns-clause-stands c =
    let entries = entries_of_run (fresh c.args.places c.args.first) c.args.calls.items in
    let goes =
    subst (λ (m : Machine ℕ). GoesOn m (entries_of_run m c.args.calls.items) c.run.new.self) c.in_ok-world.ensures.made
    c.in-Ok.ensures.history in
    let places =
    ap (λ (m : Machine ℕ). m.places) c.in-Ok.ensures.after
    ∙ places_after_calls _ c.args.calls.items ∙ ap (λ (m : Machine ℕ). m.places) c.in_ok-world.ensures.made in
    subst (λ n. StandsFor n c.args.first entries c.run.new.self.queue) places
    (goes c.args.first [] (leads_start c.args.places c.args.first)).stands
