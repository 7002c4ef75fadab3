use Rattle.std.proofs.Common.{◌≡◌, All, subst}
use Rattle.alog_patient.specs.declared.patience.Patience.{Patience}
use Rattle.alog_program.proofs.pipe.pipe_held.Goals as goal

pub pipe_over-requires-clause-patient : goal.pipe_over-requires-clause-patient
pipe_over-requires-clause-patient g c κs lives =
    subst (λ (p : Patience). All (λ s. g.R.Folders.tries s ≡ p) c.in-Ok.stores.items)
    c.patience_of-patience.ensures c.in-Ok.ensures.tries
