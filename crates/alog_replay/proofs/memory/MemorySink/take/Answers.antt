use Rattle.std.proofs.Common.{true, Bool, sym, subst}
use Rattle.std.specs.Prelude.{is_ok}
use Rattle.alog_msg.specs.declared.message.Message.{Message}
use Rattle.alog_replay.specs.Memory.{MemoryFile, Turns}
use Rattle.alog_replay.specs.MemorySink.{file_of}
use Rattle.alog_replay.proofs.Turning.{turned}
use Rattle.alog_replay.proofs.memory.MemorySink.take.Goals as goal

pub returns : goal.returns
returns g c =
    let files = g.S.Store.files in
    let i = c.self.inside in
    let m = c.message.result.now in
    let after = file_of files c.take.new.self in
    let did = turned g.S.Store.tells files g.S.Store.failures i.sink c.take.new.self m i.line.capacity c.take.result c.self.invariant
    c.take.ensures.takes in
    subst (λ (f : MemoryFile). Turns true f c.args.pushed.now.text c.is_ok.result after) c.self.view_is
    (subst (λ (b : Bool). Turns true (file_of files i.sink) c.args.pushed.now.text b after) (sym c.is_ok.ensures.value)
    (subst (λ (p : Message). Turns true (file_of files i.sink) p.text (is_ok c.take.result) after) c.message.ensures.message did))
