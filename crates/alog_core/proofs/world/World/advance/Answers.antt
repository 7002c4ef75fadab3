use Rattle.std.proofs.Common.{◌≡◌, ◌+◌, ◌<◌, Some, length, ap, sym, subst, ◌∙◌, arith}
use Rattle.alog_core.specs.Queue.{Event, Allows}
use Rattle.alog_core.specs.World.{is_size, Machine, next_move, stepped}
use Rattle.alog_core.specs.Run.{GoesOn, HasItsCell, entries_of_step}
use Rattle.alog_core.specs.Staged.{IsReached}
use Rattle.alog_core.proofs.SharedReached.{kept, taken_round, table_of, staged_in, stepped_in, reached_stepped, fine_step}
use Rattle.alog_core.proofs.SharedFronts.{goes_step}
use Rattle.alog_core.proofs.SharedRuns.{has_its_cell}
use Rattle.alog_core.proofs.world.World.advance.Goals as goal

pub advance-said-requires-clause-table : goal.advance-said-requires-clause-table
advance-said-requires-clause-table g c =
    table_of c.self.inside.table c.self.inside.rounds.items c.self.invariant.size c.self.invariant.reached
    c.self.invariant.shows

pub advance-said-requires-clause-staged : goal.advance-said-requires-clause-staged
advance-said-requires-clause-staged g c =
    let rounds = c.self.inside.rounds.items in
    let lt : c.args.actor < length rounds = omega (arith, c.self.invariant.reached.actors, c.requires) in
    let is = taken_round rounds c.args.actor c.index_mut.result.now c.replace-round.result lt c.index_mut.ensures.value
    c.replace-round.ensures.value in
    staged_in c.self.inside.table rounds c.args.actor c.replace-round.result c.self.invariant.reached c.requires is

pub invariant_of-self : goal.invariant_of-self
invariant_of-self g c =
    let rounds = c.self.inside.rounds.items in
    let lt : c.args.actor < length rounds = omega (arith, c.self.invariant.reached.actors, c.requires) in
    let is = taken_round rounds c.args.actor c.index_mut.result.now c.replace-round.result lt c.index_mut.ensures.value
    c.replace-round.ensures.value in
    let after =
    stepped_in rounds c.replace-round.new.dest is c.advance-said.ensures in
    record {
      size = ap (λ k. is_size (k + 1)) c.advance-said.ensures.mask ∙ c.self.invariant.size;
      reached = subst IsReached (sym after)
          (reached_stepped (kept c.self.inside.table rounds) c.args.actor c.self.invariant.reached c.requires);
      shows = c.advance-said.ensures.shows;
    }

pub returns-clause-stepped : goal.returns-clause-stepped
returns-clause-stepped g c =
    let rounds = c.self.inside.rounds.items in
    let lt : c.args.actor < length rounds = omega (arith, c.self.invariant.reached.actors, c.requires) in
    let is = taken_round rounds c.args.actor c.index_mut.result.now c.replace-round.result lt c.index_mut.ensures.value
    c.replace-round.ensures.value in
    stepped_in rounds c.replace-round.new.dest is c.advance-said.ensures
    ∙ ap (λ m. stepped m c.args.actor) c.self.view_is

pub returns-clause-allowed : goal.returns-clause-allowed
returns-clause-allowed g c =
    subst (λ (m : Machine g.row.T.Denot). (e : Event g.row.T.Denot) → (next_move m c.args.actor).event ≡ Some e
    → Allows m.places m.queue c.args.actor e) c.self.view_is
    (fine_step (kept c.self.inside.table c.self.inside.rounds.items) c.args.actor c.self.invariant.reached
    c.requires).allowed

pub returns-clause-history : goal.returns-clause-history
returns-clause-history g c =
    let a = c.args.actor in
    let m = kept c.self.inside.table c.self.inside.rounds.items in
    let goes : GoesOn c.args.self.now (entries_of_step c.args.self.now a) (stepped c.args.self.now a) =
    subst (λ (m : Machine g.row.T.Denot). GoesOn m (entries_of_step m a) (stepped m a)) c.self.view_is
    (goes_step m a c.self.invariant.reached c.requires) in
    subst (λ (k : Machine g.row.T.Denot). GoesOn c.args.self.now (entries_of_step c.args.self.now a) k)
    (sym (returns-clause-stepped g c)) goes

pub returns-clause-cell : goal.returns-clause-cell
returns-clause-cell g c =
    subst (λ (m : Machine g.row.T.Denot). HasItsCell m c.args.actor) c.self.view_is
    (has_its_cell (kept c.self.inside.table c.self.inside.rounds.items) c.args.actor c.self.invariant.reached c.requires)
