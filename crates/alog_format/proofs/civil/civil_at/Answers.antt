use Rattle.std.proofs.Common.{◌≡◌, ◌∙◌, ◌+ℤ◌, ℤ, ap, FitsSigned, w32, w64, rules}
use Rattle.std.proofs.lemmas.Int.{to_z-of_z}
use Rattle.alog_format.specs.Civil.{fields, offset_seconds}
use Rattle.jiff.specs.Words.{civil_nanos, nanos_of_seconds}
use Rattle.alog_format.proofs.civil.civil_at.Goals as goal

pub returns : goal.returns
returns c =
    let time : FitsSigned w64 c.args.time = search rules in
    let small : FitsSigned w32 c.offset_seconds-offset.result = search rules in
    let offset : c.offset_seconds-offset.result ≡ offset_seconds c.args.zone.now c.args.time = simp to_z-of_z at c.offset_seconds-offset.ensures.value in
    let shown : civil_nanos c.local.result ≡ c.args.time +ℤ nanos_of_seconds c.offset_seconds-offset.result = simp to_z-of_z at c.local.ensures in
    let made : c.fields_of.result ≡ fields c.offset_seconds-offset.result c.local.result = simp to_z-of_z at c.fields_of.ensures in (
      c.local.result,
      shown ∙ ap (λ (o : ℤ). c.args.time +ℤ nanos_of_seconds o) offset,
      made ∙ ap (λ (o : ℤ). fields o c.local.result) offset,
    )
