use Rattle.std.proofs.Common.{◌≡◌, true}
use Rattle.alog_sink.specs.Files.{AreSame}
use Rattle.alog_patient.proofs.Rows.{FailedSo}
use Rattle.alog_patient.proofs.patient_store.PatientStoreStore.flush.Given as goal

abbrev pub invariant-loop : goal.invariant-loop
invariant-loop g l =
    (g.S.Store.tells ≡ true → AreSame (g.S.Store.files l.fn.self.store) (g.S.Store.files l.self.1.0))
    × FailedSo l.fn.self.patience l.row.left (g.S.Store.failures l.fn.self.store) (g.S.Store.failures l.self.1.0)
