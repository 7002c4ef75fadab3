use Rattle.std.proofs.Common.{◌≡◌, None, replicate, refl, ap, ◌∙◌, arith}
use Rattle.alog_core.specs.declared.TheConstants.{ACTORS}
use Rattle.alog_policy.specs.Desk.{DeskView}
use Rattle.alog_policy.specs.DeskInside.{desk_in}
use Rattle.alog_policy.proofs.SharedDeskSteps.{kept_fresh, desk_is}
use Rattle.alog_policy.proofs.desk.Desk.new.Goals as goal

pub returns-clause-made : goal.returns-clause-made
returns-clause-made g c =
    let all : c.loop.counter ≡ ACTORS = omega arith in
    let d : DeskView g.row.T.Denot =
    record { world = c.in_ok-world.world; posts = c.loop.posts.items; counts = record { overrun = 0; discarded = 0 } } in
    desk_is d _ (replicate ACTORS None) (record { overrun = 0; discarded = 0 }) c.in_ok-world.ensures.made
    (c.loop.invariant.items ∙ ap (λ n. replicate n None) all) refl

pub invariant_of-result : goal.invariant_of-result
invariant_of-result g c =
    kept_fresh
    (desk_in (record { world = c.in_ok-world.world; posts = c.loop.posts; counts = record { overrun = 0; discarded = 0 } }))
    c.args.places c.args.first (returns-clause-made g c)
