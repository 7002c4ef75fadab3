use Rattle.std.proofs.Common.{inl, inr}
use Rattle.std.proofs.KnownBytes.{Keeps-refl}
use Rattle.alog_program.proofs.Loading.{match_both, match_map}
use Rattle.alog_program.proofs.load.load_command.Goals as goal

pub returns-in-Ok : goal.returns-in-Ok
returns-in-Ok g c =
    match_map c.args.request.now.folder _ _ _ _ (λ made. inl (c.as_slice.result.now, made)) (λ x made. inl (c.as_slice.result.now, made))
    c.load_document.ensures

pub returns-in-Err : goal.returns-in-Err
returns-in-Err g c =
    let kept = Keeps-refl (g.O.Write.contents c.args.output.now) in
    match_both c.args.request.now.folder _ _ (inr (c.in-Err.ensures, kept)) (λ x. inr (c.in-Err.ensures, kept))
