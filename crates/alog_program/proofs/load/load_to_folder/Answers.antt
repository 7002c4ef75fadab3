use Rattle.std.proofs.Common.{◌≡◌, All, Some, subst}
use Rattle.alog_patient.specs.declared.patience.Patience.{Patience}
use Rattle.alog_program.proofs.Loading.{folder_refused, no_memory}
use Rattle.alog_program.proofs.load.load_to_folder.Goals as goal

pub returns-in-Some : goal.returns-in-Some
returns-in-Some g c = folder_refused _ _ _ _ c.args.config.now c.args.request.now _ _ c.in-Some.ensures

pub returns : goal.returns
returns g c =
    no_memory _ _ _ _ c.args.config.now c.args.request.now c.refuse_load.result (g.O.Write.contents c.args.output.now) c.refuse_load.ensures

pub returns-in-Ok : goal.returns-in-Ok
returns-in-Ok g c =
    c.load_over.ensures (Some g.R.Folders.tries)
    (subst (λ (p : Patience). All (λ s. g.R.Folders.tries s ≡ p) c.in-Ok.stores.items) c.patience_of-patience.ensures c.in-Ok.ensures.tries)
