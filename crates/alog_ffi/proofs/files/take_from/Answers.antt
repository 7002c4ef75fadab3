use Rattle.std.proofs.Common.{rules, refl, sym, ap, subst, ◌∙◌, inl, inr, drop, All, List, ℕ, arith}
use Rattle.std.specs.Prelude.{false, IsTrue}
use Rattle.alog_outbox.specs.Views.{HasAll}
use Rattle.alog_ffi.specs.Files.{IsOver}
use Rattle.alog_ffi.proofs.Lefts.{left_on, left_same}
use Rattle.alog_ffi.proofs.files.take_from.Goals as goal

pub loop-number-init : goal.loop-number-init
loop-number-init c = (left_same _, refl, c.requires, refl)

pub loop-number-preserved : goal.loop-number-preserved
loop-number-preserved c =
    let i = c.loop-number.invariant in let e = c.in_default.ensures in (left_on _ _ _ i.0 e.taken.0, e.taken.1 ∙ i.1, i.2, e.count ∙ i.3)

pub returns-in-Some : goal.returns-in-Some
returns-in-Some c =
    let i = c.loop-number.invariant in let e = c.in-Some.ensures.taken in let one = e.0 in
    inl (
      refl,
      omega arith,
      (
        record {
          at = one.at;
          was = one.was;
          now = one.now;
          left = one.left;
          others = left_on _ _ _ i.0 one.others;
          old_is = one.old_is;
          new_is = one.new_is;
          line = one.line;
          got = one.got;
          goes_on = one.goes_on;
        },
        e.1,
        e.2 ∙ ap (λ (l : List ℕ). drop c.in-Some.count l) i.1,
        e.3,
        e.4,
      ),
    )

pub returns-then-have_ended : goal.returns-then-have_ended
returns-then-have_ended c =
    let i = c.loop-number.invariant in inr (inr (inl (refl, omega arith, i.0, subst (All HasAll) c.as_slice.ensures.value (c.if-have_ended.ensures.all (search rules)), (i.1, i.2))))

pub returns-else-have_ended : goal.returns-else-have_ended
returns-else-have_ended c =
    let i = c.loop-number.invariant in
    inr (inl (refl, omega arith, i.0, (λ over. let yes : IsTrue false = c.if-have_ended.ensures.over.1 (subst (All IsOver) (sym c.as_slice.ensures.value) over) in absurd (cc)), (i.1, i.2)))
