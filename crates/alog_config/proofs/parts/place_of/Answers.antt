use Rattle.std.proofs.Common.{ap, ◌∙◌, arith}
use Rattle.alog_config.specs.declared.parts.Part.{Part}
use Rattle.alog_config.proofs.parts.place_of.Goals as goal

pub returns-clause-none : goal.returns-clause-none
returns-clause-none g c = λ is x.
    let within = x.2 in
    let past = c.loop-i-test.false in
    c.loop-i.invariant x.0 x.1 (omega (arith, within, past)) (ap (λ (p : Part g.row.S.Denot). p.config.now.name) x.3 ∙ x.4)
