use Rattle.std.proofs.Common.{◌↔◌, ◌≤◌, IsTrue, length, subst}
use Rattle.alog_pattern.specs.Compiled.{Compiled, longest}
use Rattle.alog_sink.proofs.face.Scribe.may_write.Goals as goal

pub returns : goal.returns
returns c =
    let May : Compiled → Type 0 = λ p. (length c.args.message.now.text ≤ p.text_limit) × (longest p ≤ c.args.line.now.capacity) in
    subst (λ (p : Compiled). IsTrue c.has_room.result ↔ May p) c.pattern.ensures c.has_room.ensures
