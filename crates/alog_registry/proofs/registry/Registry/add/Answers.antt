use Rattle.std.proofs.Common.{List, [], ◌∷◌, ◌++◌, refl, sym, ap, subst, ◌∙◌}
use Rattle.alog_msg.specs.declared.level.Level.{Level}
use Rattle.alog_registry.specs.declared.logger.Logger.{Logger}
use Rattle.alog_registry.specs.Listed.{IsListing, IsTaken, MayBeAdded}
use Rattle.alog_registry.proofs.Listing.{listing_more}
use Rattle.alog_registry.proofs.registry.Registry.add.Goals as goal

pub invariant_of-self : goal.invariant_of-self
invariant_of-self c =
    let old = c.self.inside in
    let x : Logger = record { name = c.in-Ok.name; spec = c.args.spec } in
    let may : MayBeAdded c.deref.result.now c.args.name.now c.args.spec.backtrace = c.in_default.ensures.none refl in
    let may2 = subst (λ ls. MayBeAdded ls c.args.name.now c.args.spec.backtrace) c.deref.ensures.value may in
    let free = subst (λ t. ¬ IsTaken old.loggers.items t) (sym c.in-Ok.ensures.name) may2.free in
    let more = listing_more old.loggers.items old.levels.items x c.args.spec.level c.self.invariant free may2.room in
    let one = c.push_reserved-in-Ok.ensures.items ∙ ap (λ (ls : List Logger). ls ++ x ∷ []) c.in-Ok.ensures.same.0 in
    let two = c.push_reserved.ensures.items ∙ ap (λ (ls : List Level). ls ++ c.args.spec.level ∷ []) c.in-Ok.ensures.same.1 in
    subst (λ (ls : List Logger). IsListing ls c.push_reserved.new.self.items) (sym one)
    (subst (λ (ls : List Level). IsListing (old.loggers.items ++ x ∷ []) ls) (sym two) more)
