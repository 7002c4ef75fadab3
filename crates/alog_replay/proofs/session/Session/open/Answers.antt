use Rattle.std.proofs.Common.{◌≡◌, ap, ◌∙◌, false, arith}
use Rattle.alog_core.specs.declared.TheConstants.{ACTORS}
use Rattle.alog_replay.specs.Memory.{MemoryFile, memory_name}
use Rattle.alog_replay.proofs.Opening.{opened_stage}
use Rattle.alog_replay.proofs.session.Session.open.Goals as goal

pub returns-clause-opened : goal.returns-clause-opened
returns-clause-opened g c =
    let all : c.loop.counter ≡ ACTORS = omega (arith, c.loop-test.false, c.loop.auto.counter-end) in
    let none = c.requires.empty memory_name in
    let memory = c.in_ok-memory.ensures ∙ ap (λ b. let m : MemoryFile = record { bytes = b; broken = false } in m) none in
    opened_stage c.in_ok-desk.ensures.made c.loop.invariant.items all memory
