use Rattle.std.proofs.Common.{◌≡◌, ◌≤◌, true, length}
use Rattle.alog_sink.specs.Calls.{TakesFront}
use Rattle.alog_patient.proofs.Rows.{FailedSo}
use Rattle.alog_patient.proofs.patient_store.PatientStore.append_rest.Given as goal

abbrev pub invariant-loop : goal.invariant-loop
invariant-loop g l =
    (l.taken ≤ length l.bytes)
    × (g.S.Store.tells ≡ true → TakesFront l.taken l.name l.bytes (g.S.Store.files l.fn.self.store) (g.S.Store.files l.self.1.0))
    × FailedSo l.fn.self.patience l.row.left (g.S.Store.failures l.fn.self.store) (g.S.Store.failures l.self.1.0)
