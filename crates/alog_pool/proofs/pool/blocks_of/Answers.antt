use Rattle.std.proofs.Common.{◌≡◌, refl, sym, subst}
use Rattle.std.proofs.lemmas.Result.{IfOk-weaker}
use Rattle.alog_msg.specs.Block.{BlockFields}
use Rattle.alog_msg.specs.declared.item.Item.TheVariants.{Stop}
use Rattle.alog_registry.specs.Limit.{HoldsTo}
use Rattle.alog_ring.proofs.SharedLists.{each_of}
use Rattle.alog_pool.proofs.pool.blocks_of.Goals as goal

-- a new block holds no text, so it keeps to its limit
pub returns-clause-each : goal.returns-clause-each
returns-clause-each c =
    let Holds : BlockFields → Type 0 = HoldsTo (record { most = c.args.text_limit }) in
    IfOk-weaker c.many.result _ _
    (λ v each.
    each_of (λ (b : BlockFields). b ≡ record { limit = c.args.text_limit; item = Stop }) Holds v.items
    (λ b is. subst Holds (sym is) (refl, tt)) each) c.many.ensures.each
