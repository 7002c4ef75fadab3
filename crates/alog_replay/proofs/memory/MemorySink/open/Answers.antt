use Rattle.std.proofs.Common.{refl, sym, ◌∙◌}
use Rattle.alog_replay.proofs.Opening.{opened_sink}
use Rattle.alog_replay.proofs.memory.MemorySink.open.Goals as goal

pub invariant_of-result : goal.invariant_of-result
invariant_of-result g c =
    let files = g.S.Store.files in
    opened_sink c.requires c.in-Ok-memory.ensures.opened refl c.in-Ok.ensures.items c.in-Ok.ensures.text_limit
    (sym c.longest.ensures.value ∙ sym c.in_ok-line.ensures.capacity)
