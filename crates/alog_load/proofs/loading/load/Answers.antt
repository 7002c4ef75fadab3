use Rattle.std.proofs.Common.{◌≡◌, ℕ, List, length, Result, Ok, Err, sym, ap, subst, arith}
use Rattle.std.specs.Prelude.{IfOk}
use Rattle.alog_config.specs.Built.{IsLoggerOf}
use Rattle.alog_config.proofs.SharedPicking.{each_is_long}
use Rattle.alog_load.proofs.loading.load.Goals as goal
use Rattle.alog_load.specs.Load.{HasServed}
use Rattle.alog_pool.specs.Places.{Each2}
use Rattle.alog_pool.specs.declared.shared.Shared.{Shared}
use Rattle.alog_registry.specs.declared.logger.Logger.{Logger}
use Rattle.alog_server.proofs.SharedMaking.{makes_count, makes_shared}
use Rattle.alog_server.specs.Making.{AreOf}

pub run_all-back-requires-clause-loggers : goal.run_all-back-requires-clause-loggers
run_all-back-requires-clause-loggers g c κs within =
    let config = c.args.config.now in
    let setup = c.in_ok-setup.setup in
    let given = c.in_ok-setup.ensures.given in
    let long = each_is_long (IsLoggerOf given.built.tops) config.loggers.items setup.loggers given.built.loggers in
    let same = ap (λ (l : List Logger). length l) c.in-Ok.ensures.started.loggers in
    let few = config.sound.few_loggers in
    (omega (arith, long, same, c.len-loggers.ensures, config.loggers.ok.0), omega (arith, few, c.len-loggers.ensures, config.loggers.ok.0))

pub ended-requires-clause-own : goal.ended-requires-clause-own
ended-requires-clause-own g c κs within =
    let run = c.run_all-back.ensures in
    let shared = makes_shared c.in-Ok.pool c.run_all-back.new.pool run.begun run.makes in
    subst (λ (s : Shared). AreOf s c.run_all-back.result.0.items) (sym shared.0) run.own

pub ended-requires-clause-all : goal.ended-requires-clause-all
ended-requires-clause-all g c =
    let run = c.run_all-back.ensures in
    let count = makes_count c.in-Ok.pool c.run_all-back.new.pool run.begun run.makes in
    let none = c.in-Ok.ensures.started.made in
    let many = run.many in
    omega (arith, count, none, many)

if_ok : {T E : Type 0} {P Q : T → Type 0} (r : Result T E) → ((t : T) → P t → Q t) → IfOk r P → IfOk r Q
if_ok (Ok t) f h = f t h
if_ok (Err e) f h = tt

pub returns-clause-loads : goal.returns-clause-loads
returns-clause-loads g c =
    let config = c.args.config.now in
    let run = c.run_all-back.ensures in
    let loggers : c.len-loggers.result ≡ length config.loggers.items = omega (arith, c.len-loggers.ensures, config.loggers.ok.0) in
    if_ok c.ended.result
    (λ r h.
    let each = run.each h.0 in
    record {
      setup = c.in_ok-setup.setup;
      given = c.in_ok-setup.ensures.given;
      start = c.in-Ok.pool;
      starts = c.in-Ok.ensures.started;
      begun = run.begun;
      many = each.0;
      pool = c.run_all-back.new.pool;
      makes = run.makes;
      ended = c.run_all-back.result.0.items;
      served = subst (λ (n : ℕ). Each2 (HasServed n c.args.messages) run.begun c.run_all-back.result.0.items) loggers each.1;
      ends = h.1;
    })
    c.ended.ensures.ends
