use Rattle.std.proofs.Common.{◌≡◌, ◌<◌, length, refl, subst, arith}
use Rattle.alog_server.specs.Ends.{AllEnd}
use Rattle.alog_server.proofs.Homes.{at_home, of_home}
use Rattle.alog_server.proofs.SharedMaking.{makes_shared}
use Rattle.alog_server.proofs.server.work_with.Goals as goal

pub returns-then-not-make-clause-works : goal.returns-then-not-make-clause-works
returns-then-not-make-clause-works g c = record {
  begun = c.make.new.producers.items;
  makes = c.make.ensures.makes;
  many = refl;
  own = (makes_shared c.args.pool.now c.make.new.pool c.make.new.producers.items c.make.ensures.makes).1;
  each = λ t. absurd t;
}

pub run_all-requires-clause-home : goal.run_all-requires-clause-home
run_all-requires-clause-home g c κs within =
    let all = c.make.new.producers.items in
    let many : length all ≡ c.args.threads = c.if-not-make.ensures.many refl in
    let some : 0 < length all = omega (arith, many, c.requires) in
    at_home c.args.pool.now.shared all some (makes_shared c.args.pool.now c.make.new.pool all c.make.ensures.makes).1

pub returns-clause-works : goal.returns-clause-works
returns-clause-works g c =
    let all = c.make.new.producers.items in
    let many : length all ≡ c.args.threads = c.if-not-make.ensures.many refl in
    let some : 0 < length all = omega (arith, many, c.requires) in
    record {
      begun = all;
      makes = c.make.ensures.makes;
      many = c.run_all.ensures.count;
      own = of_home c.args.pool.now.shared all c.run_all.result.0.items some
          (makes_shared c.args.pool.now c.make.new.pool all c.make.ensures.makes).1 c.run_all.ensures.home;
      each = λ t. many;
    }

pub returns-clause-ends : goal.returns-clause-ends
returns-clause-ends g c =
    subst (λ n. AllEnd (g.W.Work.ends c.args.work.now) n c.run_all.result.1) (c.if-not-make.ensures.many refl) c.run_all.ensures.ends
