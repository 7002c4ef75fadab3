use Rattle.std.proofs.Common.{◌≡◌, replicate, ap, ◌∙◌, arith}
use Rattle.alog_core.specs.declared.TheConstants.{ACTORS}
use Rattle.alog_system.specs.declared.duty.Duty.TheVariants.{Free}
use Rattle.alog_system.proofs.system.free_duties.Goals as goal

pub returns : goal.returns
returns c =
    let all : c.loop.counter ≡ ACTORS = omega (arith, c.loop-test.false, c.loop.auto.counter-end) in
    c.loop.invariant.items ∙ ap (λ k. replicate k Free) all
