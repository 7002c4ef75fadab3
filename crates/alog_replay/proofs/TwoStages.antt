-- Two stages of one configuration agree from the start.
use Rattle.std.proofs.Common.{◌≡◌, ℕ, Bool, true, List, refl, sym, ap, subst, ◌∙◌, map}
use Rattle.alog_config.specs.declared.config.Config.{Config}
use Rattle.alog_msg.specs.declared.level.Level.{Level}
use Rattle.alog_registry.specs.Backtrace.{Room}
use Rattle.alog_registry.specs.declared.logger.Logger.{Logger}
use Rattle.alog_sink.specs.Files.{Files}
use Rattle.alog_sink.specs.declared.sink.Sink.{Sink}
use Rattle.alog_system.specs.Roster.{first_level, room, room_of}
use Rattle.alog_system.specs.System.{SystemView, fresh_system, with_outputs, with_roster}
use Rattle.alog_replay.specs.Configured.{Stage, with_system}
use Rattle.alog_replay.specs.OfConfig.{IsStageOf, names_of, places_of}
use Rattle.alog_replay.specs.declared.places.Place.{Place}
use Rattle.alog_replay.proofs.AlikeLoggers.{AgreeingStages}
use Rattle.alog_replay.proofs.Beginning.{OneReading, loggers_same, sinks_alike}
use Rattle.alog_replay.proofs.LoggersOf.{IsSameLogger, same_loggers}
use Rattle.alog_replay.proofs.Pairing.{each_map}

abbrev stage_of : {S : Type 0} → SystemView S → List (List ℕ) → List Place → Stage S
stage_of v names places = record { system = v; names = names; places = places }

-- the stage of a configuration over these loggers and sinks
abbrev staged : {S : Type 0} → Config → List Logger → List (Sink S) → Stage S
staged c loggers sinks = stage_of (fresh_system c.queue c.text loggers sinks) (names_of c) (places_of c)

stage_is : {S : Type 0} (tells : Bool) (files : S → Files) (failures : S → ℕ) (c : Config) (s : Stage S)
    → (is : IsStageOf tells files failures c s) → s ≡ staged c is.system.loggers is.system.sinks
stage_is {S} tells files failures c s is =
    ap (λ (v : SystemView S). stage_of v s.names s.places) is.system.is
    ∙ (ap (λ ns. stage_of (fresh_system c.queue c.text is.system.loggers is.system.sinks) ns s.places) is.names
    ∙ ap (stage_of (fresh_system c.queue c.text is.system.loggers is.system.sinks) (names_of c)) is.places)

pub begins_agree : {S : Type 0} → OneReading → {tells : Bool} → tells ≡ true → {files : S → Files} {failures : S → ℕ} {c : Config}
    {s r : Stage S} → IsStageOf tells files failures c s → IsStageOf tells files failures c r → AgreeingStages files s r
begins_agree {S} law {tells} tell {files} {failures} {c} {s} {r} h g =
    let v = h.system in
    let w = g.system in
    let sinks = sinks_alike law tells tell files failures c v.stores w.stores v.loggers w.loggers v.sinks w.sinks v.empty
    w.empty v.built w.built in
    let same = loggers_same law tells tell files failures c v.stores w.stores v.loggers w.loggers v.sinks w.sinks v.empty
    w.empty v.built w.built in
    let levels = each_map IsSameLogger first_level first_level (λ x y e. e.level) v.loggers w.loggers same in
    let rooms = each_map IsSameLogger room_of room_of (λ x y e. ap room e.backtrace) v.loggers w.loggers same in
    let made : SystemView S = fresh_system c.queue c.text v.loggers v.sinks in
    let outputs = (fresh_system c.queue c.text w.loggers w.sinks).outputs in
    let by : List Level → List Room → Stage S = λ ls ks.
    with_system (staged c v.loggers v.sinks)
    (with_outputs (with_roster made (record { loggers = v.loggers; levels = ls; kept = ks })) outputs) in
    let is : by (map first_level w.loggers) (map room_of w.loggers) ≡ by (map first_level v.loggers) (map room_of v.loggers) =
    ap (λ ls. by ls (map room_of w.loggers)) (sym levels) ∙ ap (by (map first_level v.loggers)) (sym rooms) in
    let agree : AgreeingStages files (staged c v.loggers v.sinks) (staged c w.loggers w.sinks) =
    record { loggers = same_loggers v.loggers w.loggers same; stages = (outputs, is, (refl, sinks)) } in
    subst (λ (z : Stage S). AgreeingStages files z r) (sym (stage_is tells files failures c s h))
    (subst (λ (z : Stage S). AgreeingStages files (staged c v.loggers v.sinks) z) (sym (stage_is tells files failures c r g)) agree)
