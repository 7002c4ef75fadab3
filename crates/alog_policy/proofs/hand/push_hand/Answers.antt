use Rattle.std.proofs.Common.{[], ◌∷◌, ℕ, Some, Result, Ok, Err, refl, sym, ap, ◌∙◌}
use Rattle.std.proofs.lemmas.Result.{IfOk-weaker}
use Rattle.std.specs.Prelude.{IfErr}
use Rattle.alog_core.specs.Queue.{Claim, Write}
use Rattle.alog_ring.specs.declared.push.PushError.{PushError}
use Rattle.alog_ring.proofs.SharedCalling.{for_value}
use Rattle.alog_policy.specs.SwapPort.{SwapPortDid}
use Rattle.alog_policy.proofs.SwapPorts.{swap_pushed, swap_push_refused}
use Rattle.alog_policy.proofs.hand.push_hand.Goals as goal

pub returns-clause-pushed : goal.returns-clause-pushed
returns-clause-pushed g c =
    let a = c.args.port.now in
    let admits = g.L.Limit.admits in
    IfOk-weaker c.push_swap_from.result _ _
    (λ (t : ℕ) pushed.
    for_value (λ b. SwapPortDid admits a (Claim t (g.W.Shows.shows b) ∷ Write t ∷ []) 0 0 _) a.hand.now c.in-Some.block.now
    (sym c.in-Some.ensures.value)
    (swap_pushed admits a _ c.requires.fit refl refl refl refl refl refl refl c.push_swap_from.ensures.ring refl t _ pushed.0
    (refl, c.push_swap_from.ensures.limit))) c.push_swap_from.ensures.pushed

-- what follows of an error from two facts of it
err_both : {X E : Type 0} (P Q R : E → Type 0) (r : Result X E) → ((e : E) → P e → Q e → R e) → IfErr r P → IfErr r Q → IfErr r R
err_both P Q R (Ok x) f p q = tt
err_both P Q R (Err e) f p q = f e p q

pub returns-clause-refused : goal.returns-clause-refused
returns-clause-refused g c =
    err_both _ _ _ c.push_swap_from.result
    (λ (e : PushError (Unit {0})) is left.
    swap_push_refused g.L.Limit.admits c.args.port.now _ c.requires.fit refl refl refl refl refl refl refl c.push_swap_from.ensures.ring refl
    (ap Some left ∙ c.in-Some.ensures.value) c.requires.fit.2 (tt {0}) e is) c.push_swap_from.ensures.refused c.push_swap_from.ensures.left
