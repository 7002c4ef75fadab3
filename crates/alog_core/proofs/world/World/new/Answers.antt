use Rattle.std.proofs.Common.{◌≡◌, List, [], replicate, get_or, ap, subst, ◌∙◌, arith}
use Rattle.alog_core.specs.World.{fresh}
use Rattle.alog_core.specs.declared.TheConstants.{ACTORS}
use Rattle.alog_core.specs.declared.round.Round.{Round}
use Rattle.alog_core.specs.declared.round.Round.TheVariants as round
use Rattle.alog_core.proofs.SharedFronts.{goes_nowhere, leads_start}
use Rattle.alog_core.proofs.SharedReached.{kept}
use Rattle.alog_core.proofs.world.World.new.Goals as goal

pub returns-clause-history : goal.returns-clause-history
returns-clause-history g c =
    let all : c.loop.counter ≡ ACTORS = omega arith in
    let rounds = c.loop.invariant.items ∙ ap (λ n. replicate n round.Idle) all in
    goes_nowhere (fresh c.args.places c.args.first) (kept c.in_ok-table.table c.loop.rounds.items) c.in_ok-table.ensures.places
    c.in_ok-table.ensures.queue
    (λ a p is. subst (λ (rs : List (Round g.row.T.Denot)). get_or rs a round.Idle ≡ round.PopFronted p) rounds is) c.args.first []
    (leads_start c.args.places c.args.first)
