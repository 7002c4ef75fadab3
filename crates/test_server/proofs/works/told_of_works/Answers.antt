use Rattle.std.proofs.Common.{◌≡◌, ◌<◌, ◌≤◌, ℕ, Some, None, refl, ap, ◌∙◌, arith}
use Rattle.std.proofs.lemmas.Result.{IfOk-weaker}
use Rattle.std.specs.Prelude.{Option}
use Rattle.alog_server.specs.Ends.{TellsError}
use Rattle.test_server.specs.Works.{EndsLate}
use Rattle.test_server.proofs.works.told_of_works.Goals as goal
use mathlib.Core.Logic.{dite}
use native.Mathlib.Decide.{dec_lt}

more_than_two : (threads : ℕ) (o : Option ℕ) → TellsError EndsLate threads o → 2 < threads → o ≡ Some 2
more_than_two threads None tells many = absurd (let low = tells 2 many in omega (arith, low))
more_than_two threads (Some e) tells many =
    let high = tells.early.0 in
    let third : tells.thread ≡ 2 =
    dite (dec_lt 2 tells.thread) (λ later. absurd (let low = tells.before 2 later in omega (arith, low)))
    (λ first. omega (arith, high, first)) in
    ap Some (tells.early.1 ∙ third)

at_most_two : (threads : ℕ) (o : Option ℕ) → TellsError EndsLate threads o → threads ≤ 2 → o ≡ None
at_most_two threads None tells few = refl
at_most_two threads (Some e) tells few =
    let high = tells.early.0 in
    let one = tells.one in
    absurd (omega (arith, high, one, few))

pub returns-clause-more : goal.returns-clause-more
returns-clause-more g c =
    IfOk-weaker c.run.result _ _ (λ r tells many. more_than_two c.args.threads r.error tells many) c.run.ensures.error

pub returns-clause-two : goal.returns-clause-two
returns-clause-two g c =
    IfOk-weaker c.run.result _ _ (λ r tells few. at_most_two c.args.threads r.error tells few) c.run.ensures.error
