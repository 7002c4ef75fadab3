use Rattle.std.proofs.Common.{rules, refl, sym, subst, All, arith}
use Rattle.std.proofs.lemmas.List.{take_all}
use Rattle.std.specs.Prelude.{false, IsTrue}
use Rattle.alog_outbox.specs.Views.{HasAll}
use Rattle.alog_ffi.proofs.Lefts.{all_over, have_more}
use Rattle.alog_ffi.specs.Files.{IsOver}
use Rattle.alog_ffi.proofs.files.have_ended.Goals as goal

pub loop-drain-preserved : goal.loop-drain-preserved
loop-drain-preserved c = have_more c.args.drains.now c.loop-drain.drain-index c.drain-item.result (omega arith) c.loop-drain.invariant
    (subst HasAll c.drain-item.is (c.if-not-has_ended.ensures.all (search rules)))

pub returns-then-not-has_ended-clause-over : goal.returns-then-not-has_ended-clause-over
returns-then-not-has_ended-clause-over c = (
  (λ yes. absurd (cc)),
  (λ over.
      let one : IsOver c.drain-item.result = subst IsOver (sym c.drain-item.is) (over c.loop-drain.drain-index c.drain-item.result (omega arith)) in
      let yes : IsTrue false = c.if-not-has_ended.ensures.ended.1 one in
      absurd (cc)),
)

pub returns-clause-all : goal.returns-clause-all
returns-clause-all c _ = subst (All HasAll) (take_all c.loop-drain.drain-index c.args.drains.now (omega arith)) c.loop-drain.invariant

pub returns-clause-over : goal.returns-clause-over
returns-clause-over c =
    let have : All HasAll c.args.drains.now = subst (All HasAll) (take_all c.loop-drain.drain-index c.args.drains.now (omega arith)) c.loop-drain.invariant in
    ((λ _. all_over c.args.drains.now have), (λ _. refl))
