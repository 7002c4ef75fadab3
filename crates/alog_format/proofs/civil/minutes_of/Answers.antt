use Rattle.std.proofs.Common.{pos, int_div, arith, FitsSigned, w16, w32, rules}
use Rattle.std.proofs.lemmas.Int.{quot_fits, to_z-of_z}
use Rattle.jiff_core.proofs.SignedLemmas.{signed_arith}
use Rattle.alog_format.proofs.SharedOffsets.{minutes_fit}
use Rattle.alog_format.proofs.civil.minutes_of.Goals as goal

pub returns : goal.returns
returns c =
    let fits : FitsSigned w32 c.args.offset = search rules in
    let whole : FitsSigned w32 (int_div c.args.offset (pos 60)) = quot_fits w32 c.args.offset (pos 60) fits (omega (arith, signed_arith)) in
    let small : FitsSigned w16 (int_div c.args.offset (pos 60)) = minutes_fit c.args.offset c.requires in
    simp to_z-of_z
