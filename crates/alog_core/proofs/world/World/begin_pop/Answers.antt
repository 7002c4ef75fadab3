use Rattle.std.proofs.Common.{[], refl, subst}
use Rattle.alog_core.specs.World.{Machine, began}
use Rattle.alog_core.specs.Run.{GoesOn}
use Rattle.alog_core.specs.declared.round.Round.TheVariants as round
use Rattle.alog_core.proofs.SharedFronts.{goes_began}
use Rattle.alog_core.proofs.SharedReached.{kept, reached_began}
use Rattle.alog_core.proofs.world.World.begin_pop.Goals as goal

pub invariant_of-self : goal.invariant_of-self
invariant_of-self g c =
    record {
      size = c.self.invariant.size;
      reached = reached_began (kept c.self.inside.table c.self.inside.rounds.items) c.args.actor
          (round.Pop) c.self.invariant.reached (c.in_ok-may_begin.ensures.begins.0 refl).0 tt;
      shows = c.self.invariant.shows;
    }

pub returns-clause-history : goal.returns-clause-history
returns-clause-history g c =
    let was = kept c.self.inside.table c.self.inside.rounds.items in
    subst (λ (m : Machine g.row.T.Denot). GoesOn {N = Unit {0}} m [] (began was c.args.actor round.Pop)) c.self.view_is
    (goes_began was c.args.actor round.Pop c.self.invariant.reached.actors (c.in_ok-may_begin.ensures.begins.0 refl).0 (λ p is. cc))
