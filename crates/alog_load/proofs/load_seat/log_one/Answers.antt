use Rattle.std.proofs.Common.{◌≡◌, ℕ, ℤ, List, None, ap, subst, ◌∙◌}
use Rattle.std.proofs.lemmas.Int.{to_z-of_z}
use Rattle.alog_registry.proofs.SharedListing.{spec_there}
use Rattle.alog_load.specs.Load.{text_of}
use Rattle.alog_load.proofs.load_seat.log_one.Goals as goal
use Rattle.alog_msg.specs.declared.level.Level.TheVariants.{Info}
use Rattle.alog_policy.specs.SwapPort.{SwapDid}
use Rattle.alog_pool.specs.Producer.{Lent}
use Rattle.alog_registry.specs.Given.{message_with}
use Rattle.alog_registry.specs.LaneKeeper.{KeepsByTurn, NeverPasses}
use Rattle.alog_registry.specs.Logging.{Logs}

pub returns-in-Ok-log-clause-logged : goal.returns-in-Ok-log-clause-logged
returns-in-Ok-log-clause-logged g c = λ _.
    let old = c.args.producer.now in
    let s = spec_there old.shared.loggers c.args.logger c.requires.known in
    let text : c.as_str.result.now ≡ text_of old.number c.args.i =
    c.as_str.ensures.value ∙ c.in-Ok.ensures.ok ∙ ap (λ n. text_of n c.args.i) c.number-number.ensures in
    record {
      spec = s.0;
      found = s.1;
      reply = c.in-Ok-log.field-0;
      log = subst (λ (z : ℤ). Lent old c.log.new.self c.args.logger (λ p k q l. Logs SwapDid KeepsByTurn NeverPasses s.0.policy s.0
          (message_with c.args.logger Info z old.number (text_of old.number c.args.i) None) p k c.in-Ok-log.field-0 q l))
          c.requires.time
          (subst (λ (t : List ℕ). Lent old c.log.new.self c.args.logger (λ p k q l. Logs SwapDid KeepsByTurn NeverPasses s.0.policy s.0
          (message_with c.args.logger Info c.args.time old.number t None) p k c.in-Ok-log.field-0 q l)) text
          (simp (to_z-of_z, c.ranges.time) at (c.in-Ok-log.ensures.logs s.0 s.1)));
      same = c.log.ensures.same;
    }
