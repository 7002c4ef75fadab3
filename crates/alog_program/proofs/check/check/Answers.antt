use Rattle.std.proofs.Common.{inl, subst, refl, arith, Result}
use Rattle.alog_config.specs.Meaning.{Reads}
use Rattle.alog_config.specs.declared.config.Config.{Config}
use Rattle.alog_config.specs.declared.fault.ConfigFault.{ConfigFault}
use Rattle.alog_program.proofs.check.check.Goals as goal

pub returns-in-Ok-write_out : goal.returns-in-Ok-write_out
returns-in-Ok-write_out g c =
    record {
      ok = λ _. ((c.in-Ok.field-0, subst (λ (r : Result Config ConfigFault). Reads c.args.document.now r) c.in-Ok.is c.read.ensures), c.in-Ok-write_out.ensures);
      refused = λ two. absurd (omega arith);
      unwritten = λ four. absurd (omega arith);
      others = inl refl;
    }
