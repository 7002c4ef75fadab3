use Rattle.std.proofs.Common.{List, get_or, refl, ap, ◌∙◌}
use Rattle.alog_core.specs.World.{is_idle}
use Rattle.alog_core.specs.declared.round.Round.{Round}
use Rattle.alog_core.specs.declared.round.Round.TheVariants as round
use Rattle.alog_policy.proofs.desk_outlet.DeskOutletOutlet.count_discarded.Goals as goal

pub returns-clause-counted : goal.returns-clause-counted
returns-clause-counted g c = (refl, refl, c.count_discarded.ensures c.args.self.now.actor)

pub returns-clause-fit : goal.returns-clause-fit
returns-clause-fit g c =
    let free = c.requires in
    let a = c.args.self.now.actor in
    let same = (c.count_discarded.ensures a).makes.rounds in
    (free.0, ap (λ (rs : List (Round g.row.T.Denot)). is_idle (get_or rs a round.Idle)) same ∙ free.1)
