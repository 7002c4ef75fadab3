use Rattle.std.proofs.Common.{◌∙◌, sym, take}
use Rattle.alog_format.specs.Line.{shown_by}
use Rattle.alog_format.proofs.Named.{named_texts}
use Rattle.alog_format.proofs.naming.Naming.write.Goals as goal

pub write_behind-requires-clause-known : goal.write_behind-requires-clause-known
write_behind-requires-clause-known c =
    let t = c.turn_to.ensures in
    let texts = named_texts (shown_by c.args.facts.now) (take c.turn_to.new.self.count c.args.items.now) t.name t.level t.known.1 in
    c.as_slice.ensures.value ∙ t.known.2 ∙ sym texts
