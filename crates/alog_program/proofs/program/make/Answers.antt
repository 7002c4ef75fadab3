use Rattle.std.proofs.Common.{inl, inr, arith}
use Rattle.alog_program.proofs.program.make.Goals as goal

pub returns-in-Format-clause-made : goal.returns-in-Format-clause-made
returns-in-Format-clause-made g c =
    let format = c.format_command.ensures in
    rw c.in-Format.is (
      λ one. elim format.status [ inl is ↦ omega (arith, is, one) | inr is ↦ let low = is.0 in omega (arith, low, one) ],
      format.line,
      λ two. (format.refused two, format.unwritten (inl two)),
    )
