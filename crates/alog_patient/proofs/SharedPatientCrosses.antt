-- A patient store may go to another thread where the store below may, and what it waits and prints by.
use denote.RattleType.{RattleType}
use denote.Param.Send.{IsSend, sendable, struct_send, recorded_send}
use denote.Struct.Declared.{shape}
use Rattle.alog_sink.proofs.SharedFolderCrosses.{reason_send}
use Rattle.alog_patient.specs.contracts.patient_store.PatientStore as PatientStore

pub patient_store_send : (S R : RattleType) → IsSend S → IsSend R → IsSend (PatientStore.the_row S R)
patient_store_send S R s r = recorded_send (PatientStore.the_field S R).row _ _ (PatientStore.the_type S R).to_one (struct_send
    (shape (PatientStore.the_type S R)) (s, (search sendable, (reason_send, (r, (search sendable, tt))))))
