use Rattle.std.proofs.Common.{◌≡◌, ℕ, Bool, true, List, [], ◌∷◌, refl, subst}
use Rattle.alog_registry.specs.declared.logger.Logger.{Logger}
use Rattle.alog_sink.specs.Files.{Files}
use Rattle.alog_sink.specs.declared.sink.Sink.{Sink}
use Rattle.alog_system.specs.Acts.{Act, Did, BeginsDeed, MakesStep}
use Rattle.alog_system.specs.Begin.{MayBegin, begun}
use Rattle.alog_core.specs.World.{is_size}
use Rattle.alog_core.specs.declared.TheConstants.{ACTORS}
use Rattle.alog_system.specs.Runs.{Leads, starts, begins, steps, did_by, IsSystemRun, SystemRuns}
use Rattle.alog_system.specs.Step.{SystemSteps}
use Rattle.alog_system.specs.System.{SystemView, fresh_system}
use Rattle.alog_system.specs.declared.deed.Deed.{Deed}
use Rattle.alog_system.specs.declared.deed.Deed.TheVariants as deed
use Rattle.alog_system.specs.declared.stepped.Stepped.{Stepped}
use Rattle.std.specs.Prelude.{◌<◌}
use Rattle.test_laws.proofs.stepped.a_log_and_a_work.Goals as goal

size : is_size 8 ≡ true
unfolding lib.Count.ones
size = refl

-- what two deeds, each with a step, are by the law
two_deeds : {S : Type 0} (tells : Bool) (files : S → Files) (failures : S → ℕ) → SystemRuns tells files failures → (loggers : List Logger)
    (sinks : List (Sink S)) (v0 v1 v2 : SystemView S) (a b : ℕ) (d e : Deed) → v0 ≡ fresh_system 8 64 loggers sinks
    → MayBegin v0 a d × (t : Stepped) × (a < ACTORS) × SystemSteps tells files failures (begun v0 a d) a t v1
    → MayBegin v1 b e × (u : Stepped) × (b < ACTORS) × SystemSteps tells files failures (begun v1 b e) b u v2
    → (x y : Did) × (t u : Stepped) × IsSystemRun tells files 8 loggers sinks
    (BeginsDeed a d ∷ MakesStep (record { actor = a; did = x; told = t }) ∷ BeginsDeed b e ∷ MakesStep (record { actor = b; did = y; told = u }) ∷ []) v2
two_deeds {S} tells files failures law loggers sinks v0 v1 v2 a b d e is one two =
    let l1 = steps a one.1 (begins a d starts one.0) one.2 one.3 in
    let l2 = steps b two.1 (begins b e l1 two.0) two.2 two.3 in
    let run : List Act =
    BeginsDeed a d ∷ MakesStep (record { actor = a; did = did_by (begun v0 a d) a; told = one.1 })
    ∷ BeginsDeed b e ∷ MakesStep (record { actor = b; did = did_by (begun v1 b e) b; told = two.1 }) ∷ [] in (
      did_by (begun v0 a d) a,
      did_by (begun v1 b e) b,
      one.1,
      two.1,
      law 8 64 loggers sinks run v2 size (subst (λ (v : SystemView S). Leads tells files failures v run v2) is l2),
    )

pub returns : goal.returns
returns g c =
    two_deeds g.S.Store.tells g.S.Store.files g.S.Store.failures c.runs_of_a_system.ensures c.args.loggers c.args.sinks.items _ _ _ 1 2 _ deed.Work
    c.in-Ok.ensures.made (c.begins_and_steps.ensures c.if-not-begins_and_steps.false)
    (c.begins_and_steps-else-not-begins_and_steps.ensures c.if-not-begins_and_steps-2.false)
