use Rattle.std.proofs.Common.{◌-◌, length, drop, subst, take_all, length-drop, arith, rules}
use Rattle.alog_sink.specs.Calls.{TakesFront}
use Rattle.alog_sink.specs.Files.{AreSame, appended}
use Rattle.alog_patient.proofs.Fronts.{append_ended, append_more}
use Rattle.alog_patient.proofs.patient_store.PatientStore.append_rest.Goals as goal

pub returns-in-Ok-clause-done : goal.returns-in-Ok-clause-done
returns-in-Ok-clause-done g c = λ tells.
    let xs = c.args.bytes.now in
    let mid = g.S.Store.files c.loop.self.1.0 in
    let new = g.S.Store.files c.append_some.new.self in
    let rest = take_all (length xs - c.loop.taken) (drop c.loop.taken xs) (omega (arith, length-drop c.loop.taken xs)) in
    append_ended c.args.name.now xs (g.S.Store.files c.args.self.now.store) mid new c.loop.taken (c.loop.invariant.1 tells)
    (subst (λ bs. AreSame (appended c.args.name.now bs mid) new) rest (c.in-Ok.ensures.done tells))

pub returns-then-not-goes_on-clause-failed : goal.returns-then-not-goes_on-clause-failed
returns-then-not-goes_on-clause-failed g c = λ tells.
    let xs = c.args.bytes.now in
    let mid = g.S.Store.files c.loop.self.1.0 in
    let new = g.S.Store.files c.append_some.new.self in
    let rest = take_all (length xs - c.loop.taken) (drop c.loop.taken xs) (omega (arith, length-drop c.loop.taken xs)) in
    append_more c.args.name.now xs (g.S.Store.files c.args.self.now.store) mid new c.loop.taken c.in-Err.error.taken (c.loop.invariant.1 tells)
    (subst (λ bs. TakesFront c.in-Err.error.taken c.args.name.now bs mid new) rest (c.in-Err.ensures.failed tells))

pub loop-preserved : goal.loop-preserved
loop-preserved g c =
    let xs = c.args.bytes.now in
    let mid = g.S.Store.files c.loop.self.1.0 in
    let new = g.S.Store.files c.append_some.new.self in
    let rest = take_all (length xs - c.loop.taken) (drop c.loop.taken xs) (omega (arith, length-drop c.loop.taken xs)) in (
      search rules,
      λ tells. append_more c.args.name.now xs (g.S.Store.files c.args.self.now.store) mid new c.loop.taken c.in-Err.error.taken
          (c.loop.invariant.1 tells) (subst (λ bs. TakesFront c.in-Err.error.taken c.args.name.now bs mid new) rest (c.in-Err.ensures.failed tells)),
      search rules,
    )
