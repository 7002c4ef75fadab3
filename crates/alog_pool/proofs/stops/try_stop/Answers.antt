use Rattle.std.proofs.Common.{[], ◌∷◌, refl, ap, subst}
use Rattle.alog_msg.specs.Block.{BlockFields}
use Rattle.alog_msg.specs.declared.item.Item.{Item}
use Rattle.alog_pool.specs.Accounts.{Moved}
use Rattle.alog_pool.proofs.Halting.{refused_idles, refused_spent}
use Rattle.alog_pool.proofs.SharedMoves.{pushed_moved}
use Rattle.alog_pool.proofs.stops.try_stop.Goals as goal

pub returns-in-Ok-clause-tried : goal.returns-in-Ok-clause-tried
returns-in-Ok-clause-tried c =
    let old = c.args.pass.now.known in
    let new = c.push_swap_from.new.pass.known in
    let t = c.in-Ok._ticket in
    let P : Item → Type 0 = λ x. Moved old new ((t, x) ∷ []) [] in
    (t, subst P (ap (λ (b : BlockFields). b.item) c.write_stop.ensures) (pushed_moved old new t _ c.in-Ok.ensures.pushed.0))

pub returns-then-is_spent-clause-tried : goal.returns-then-is_spent-clause-tried
returns-then-is_spent-clause-tried c =
    let old = c.args.pass.now.known in
    let new = c.push_swap_from.new.pass.known in
    let refused = c.in-Err.ensures.refused in
    (refused_idles old new c.in-Err.error refused, refused_spent old new c.in-Err.error (c.if-is_spent.ensures.0 refl) refused)

pub returns-else-is_spent-clause-tried : goal.returns-else-is_spent-clause-tried
returns-else-is_spent-clause-tried c =
    refused_idles c.args.pass.now.known c.push_swap_from.new.pass.known c.in-Err.error c.in-Err.ensures.refused
