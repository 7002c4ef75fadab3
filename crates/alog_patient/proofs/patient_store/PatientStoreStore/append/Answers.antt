use Rattle.alog_patient.proofs.Fronts.{front_taken}
use Rattle.alog_patient.proofs.patient_store.PatientStoreStore.append.Goals as goal

pub returns-in-Err-clause-failed : goal.returns-in-Err-clause-failed
returns-in-Err-clause-failed g c = λ tells.
    front_taken c.args.name.now c.args.bytes.now (g.S.Store.files c.args.self.now.store) (g.S.Store.files c.append_rest.new.self.store)
    c.in-Err.field-0.taken (c.in-Err.ensures.failed tells)
