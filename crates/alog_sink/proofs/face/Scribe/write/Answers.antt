use Rattle.std.proofs.Common.{◌≡◌, ◌∙◌, ◌++◌, ℕ, List, ap, subst, sym}
use Rattle.alog_format.specs.Buffer.{Buffer}
use Rattle.alog_format.specs.Line.{IsLine}
use Rattle.alog_sink.specs.Lines.{IsLineOf, name_of}
use Rattle.alog_sink.specs.declared.face.Face.{Face}
use Rattle.alog_sink.proofs.face.Scribe.write.Goals as goal

pub returns-clause-line : goal.returns-clause-line
returns-clause-line c =
    let l = c.format.ensures.line in
    let bytes : c.format.new.line.bytes ≡ l.0 =
    ap (λ (b : Buffer). b.bytes) l.2 ∙ ap (λ (b : Buffer). b.bytes ++ l.0) c.clear.ensures in
    let i = c.self.inside in
    let m = c.args.message.now in
    let line : IsLine i.context i.formatter.pattern.items (name_of i.names m.logger) m c.args.previous l.0 =
    subst (λ (n : List ℕ). IsLine i.context i.formatter.pattern.items n m c.args.previous l.0) c.get-name.ensures.name l.1 in
    let mine : IsLineOf c.args.self.now c.args.previous m l.0 = subst (λ (f : Face). IsLineOf f c.args.previous m l.0) c.self.view_is line in
    subst (λ (b : List ℕ). IsLineOf c.args.self.now c.args.previous m b) (sym bytes) mine
