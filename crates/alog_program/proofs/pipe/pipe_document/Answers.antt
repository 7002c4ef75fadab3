use Rattle.std.proofs.Common.{Result, inl, inr, subst}
use Rattle.std.proofs.KnownBytes.{Keeps-refl}
use Rattle.alog_config.specs.Meaning.{Reads}
use Rattle.alog_config.specs.declared.config.Config.{Config}
use Rattle.alog_config.specs.declared.fault.ConfigFault.{ConfigFault}
use Rattle.alog_program.proofs.pipe.pipe_document.Goals as goal

pub returns-in-Ok : goal.returns-in-Ok
returns-in-Ok g c =
    let reads = subst (λ (r : Result Config ConfigFault). Reads c.args.document.now r) c.in-Ok.is c.read.ensures in
    inr (inr (c.in-Ok.config, reads, c.pipe_with.ensures))

pub returns-in-Err : goal.returns-in-Err
returns-in-Err g c =
    let reads = subst (λ (r : Result Config ConfigFault). Reads c.args.document.now r) c.in-Err.is c.read.ensures in
    let read = Keeps-refl (g.I.Read.remaining c.args.input.now) in
    let written = Keeps-refl (g.O.Write.contents c.args.output.now) in
    elim c.refuse.ensures [
      | inl none ↦ inr (inl (none.1, (read, written)))
      | inr is ↦ inl (is.1, (c.in-Err.fault, is.0, reads), (read, written))
    ]
