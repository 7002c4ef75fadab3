use Rattle.std.proofs.Common.{◌++◌, ◌∷◌, [], sym, ap, ◌∙◌, map, take, arith}
use Rattle.std.proofs.lemmas.List.{take_all}
use Rattle.alog_registry.specs.Backtrace.{Room}
use Rattle.alog_registry.specs.declared.logger.Spec.{Spec}
use Rattle.alog_system.specs.Roster.{room, room_of}
use Rattle.alog_system.proofs.Rooms.{more_made, fresh_whole}
use Rattle.alog_system.proofs.roster.Roster.new.Goals as goal

pub loop-number-preserved : goal.loop-number-preserved
loop-number-preserved c =
    let ls = c.args.loggers in
    let n = c.loop-number.number in
    let s : Spec = c.in-Some.spec.now in
    let so = c.loop-number.invariant in
    let e = sym c.in-Some.ensures.value in
    record {
      levels = c.push_reserved.ensures.items ∙ (ap (λ xs. xs ++ s.level ∷ []) so.levels ∙ sym (more_made (λ (s : Spec). s.level) ls n s e));
      kept = c.push_reserved-in-loop-number.ensures.items ∙ (ap (λ xs. xs ++ c.in-Ok.backtrace ∷ []) so.kept
          ∙ (ap (λ (b : Room). map room_of (take n ls) ++ b ∷ []) c.in-Ok.ensures.made
          ∙ sym (more_made (λ (s : Spec). room s.backtrace) ls n s e)));
      level_room = c.push_reserved.ensures.capacity ∙ so.level_room;
      kept_room = c.push_reserved-in-loop-number.ensures.capacity ∙ so.kept_room;
      many = so.many;
    }

pub invariant_of-result : goal.invariant_of-result
invariant_of-result c =
    let so = c.loop-number.invariant in
    fresh_whole c.args.loggers (take c.loop-number.number c.args.loggers) c.loop-number.levels.items c.loop-number.kept.items
    (take_all c.loop-number.number c.args.loggers (omega (arith, c.loop-number-test.false, so.many))) so.levels so.kept
