use Rattle.alog_system.proofs.system.new.System+MemStore.new.Goals as goal

pub of-requires-clause-sinks : goal.of-requires-clause-sinks
of-requires-clause-sinks c =
    let sound = c.args.config.now.sound in
    record { least = sound.limited.0; most = sound.limited.1; each = c.in-Ok.ensures.suits }
