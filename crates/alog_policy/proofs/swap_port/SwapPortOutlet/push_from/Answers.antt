use Rattle.std.proofs.Common.{[], ◌∷◌, refl, subst, sym, Option}
use Rattle.alog_core.specs.Queue.{Claim, Write}
use Rattle.alog_ring.proofs.SharedCalling.{for_value}
use Rattle.alog_policy.specs.SwapPort.{IsThere, SwapPortDid}
use Rattle.alog_policy.proofs.SwapPorts.{swap_pushed, swap_push_refused}
use Rattle.alog_policy.proofs.swap_port.SwapPortOutlet.push_from.Goals as goal

pub returns-in-Ok-clause-pushed : goal.returns-in-Ok-clause-pushed
returns-in-Ok-clause-pushed g c =
    let there : IsThere (g.L.Limit.admits c.args.self.now.ring.now.ring.limit) c.swap.new.x =
    let P : Option g.row.B.Denot → Type 0 = λ h. IsThere (g.L.Limit.admits c.args.self.now.ring.now.ring.limit) h in
    subst P (sym c.swap.ensures.x_after) (refl, c.in-Ok.ensures.limit) in
    let P : g.row.B.Denot → Type 0 =
    λ v. SwapPortDid g.L.Limit.admits c.args.self.now (Claim c.in-Ok.ticket (g.W.Shows.shows v) ∷ Write c.in-Ok.ticket ∷ []) 0 0 _ in
    for_value P c.args.hand.now c.in-Some.block.now (sym c.in-Some.ensures.value)
    (swap_pushed g.L.Limit.admits c.args.self.now _ c.requires.fit refl refl refl refl refl refl refl c.in-Ok.ensures.ring refl _ _
    c.in-Ok.ensures.pushed.0 there)

pub returns-in-Err-clause-refused : goal.returns-in-Err-clause-refused
returns-in-Err-clause-refused g c =
    swap_push_refused g.L.Limit.admits c.args.self.now _ c.requires.fit refl refl refl refl refl refl refl c.in-Err.ensures.ring refl refl
    c.requires.fit.2 (tt {0}) c.in-Err.error c.in-Err.ensures.refused
