use Rattle.std.proofs.Common.{◌≡◌, ◌++◌, ◌∷◌, [], ℕ, List, length, take, inl, inr, refl, sym, ap, subst, arith}
use Rattle.std.proofs.lemmas.Option.{slice_get_read}
use Rattle.alog_config.specs.Built.{EachIs, IsLoggerOf, IsPlace}
use Rattle.alog_config.specs.Parts.{AreAllKnown}
use Rattle.alog_config.specs.declared.config.LoggerConfig.{LoggerConfig}
use Rattle.alog_config.proofs.Parting.{take_long}
use Rattle.alog_config.proofs.SharedPicking.{Has, each_is_long, each_is_more, has_any, take_one_more}
use Rattle.alog_config.proofs.Taking.{taken_earlier}
use Rattle.alog_registry.specs.Listed.{RegistryView}
use Rattle.alog_config.proofs.building.loggers_of.Goals as goal

pub places_of-requires-clause-known : goal.places_of-requires-clause-known
places_of-requires-clause-known g c =
    let ls = c.args.loggers.now in
    let i = c.loop-logger.logger-index in
    let l = c.logger-item.result in
    let here = slice_get_read ls (length ls) i l refl c.loop-logger-test.true c.logger-item.is in
    subst (AreAllKnown c.args.parts.now) (sym c.as_slice.ensures) (c.requires.each i l here).known

pub unreachable-requires : goal.unreachable-requires
unreachable-requires g c =
    let ls = c.args.loggers.now in
    let i = c.loop-logger.logger-index in
    let l = c.logger-item.result in
    let within = c.loop-logger-test.true in
    let here = slice_get_read ls (length ls) i l refl within c.logger-item.is in
    let may = c.requires.each i l here in
    let same = ap length c.as_str.ensures in
    elim c.in-FieldTooLong.is [
      | inl long ↦
          let far = c.in-Err.ensures.field_too_long.0 long in
          let short = may.short in
          omega (arith, far, short, same)
      | inr a ↦ elim a [
        | inl taken ↦
            let t = (c.in-Err.ensures.name_taken.0 taken).1 in
            let earlier = taken_earlier c.args.parts.now (take i ls) _ t.0 _ c.loop-logger.invariant t.1 in
            may.free (has_any (λ (x : LoggerConfig). x.name ≡ l.name) (take i ls)
            (subst (λ n. Has (λ (x : LoggerConfig). x.name ≡ n) (take i ls)) c.as_str.ensures earlier))
        | inr b ↦ elim b [
          | inl many ↦
              let full = (c.in-Err.ensures.too_many.0 many).2 in
              let long = each_is_long (IsLoggerOf c.args.parts.now) (take i ls) _ c.loop-logger.invariant in
              let short = take_long ls i l here in
              let few = c.requires.few in
              omega (arith, full, long, short, few, within)
          | inr kept ↦
              let over = (c.in-Err.ensures.bad_limit.0 kept).3 in
              let few = may.few in
              omega (arith, over, few)
        ]
      ]
    ]

pub loop-logger-preserved : goal.loop-logger-preserved
loop-logger-preserved g c =
    let ls = c.args.loggers.now in
    let i = c.loop-logger.logger-index in
    let l = c.logger-item.result in
    let here = slice_get_read ls (length ls) i l refl c.loop-logger-test.true c.logger-item.is in
    let places = subst (λ (ns : List (List ℕ)). EachIs (IsPlace c.args.parts.now) ns c.in_ok-places_of.field-0.items) c.as_slice.ensures
    c.in_ok-places_of.ensures in
    rw (take_one_more ls i l here)
    (subst (λ (r : RegistryView). EachIs (IsLoggerOf c.args.parts.now) (take i ls ++ l ∷ []) r.loggers) (sym c.in-Ok.ensures.added)
    (each_is_more (IsLoggerOf c.args.parts.now) (take i ls) _ l _ c.loop-logger.invariant
    (record { name = c.as_str.ensures; level = refl; policy = refl; flush_on = refl; backtrace = refl; sinks = places })))
