use Rattle.std.proofs.Common.{◌≡◌, ◌∙◌, refl}
use Rattle.alog_sink.specs.declared.target.Target.{Target}
use Rattle.alog_sink.specs.declared.target.Target.TheVariants.{Memory}
use Rattle.alog_sink.proofs.Opens.{opened}
use Rattle.alog_sink.proofs.sink.Sink.memory.Goals as goal

pub returns-in-Ok-clause-opened : goal.returns-in-Ok-clause-opened
returns-in-Ok-clause-opened g c =
    let store = c.args.store in
    let its : Target = Memory (record { file = c.args.file.now }) in
    opened {tells = g.S.Store.tells} g.S.Store.files (λ t. t ≡ its) {opening = g.S.Store.files store}
    (c.open.ensures.opened ∙ (let same = c.in-Ok.ensures in cc)) refl (λ t n. refl)
