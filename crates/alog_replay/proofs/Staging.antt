-- The stage of a configuration, and a line that is refused on it.
use Rattle.std.proofs.Common.{◌≡◌, ℕ, Bool, Bor, Option, None, Some, List, Result, Ok, Err, sym, ap, ◌∙◌}
use Rattle.std.specs.Prelude.{map, IfErr, IfSome}
use Rattle.std.proofs.lemmas.Simd.{map-map}
use Rattle.alog_config.specs.declared.config.Config.{Config}
use Rattle.alog_config.specs.declared.config.SinkConfig.{SinkConfig}
use Rattle.alog_sink.specs.Files.{Files}
use Rattle.alog_replay.specs.Configured.{Stage}
use Rattle.alog_replay.specs.OfConfig.{IsStageOf, OnStage}
use Rattle.alog_replay.specs.declared.error.ReplayError.{ReplayError}
use Rattle.alog_replay.specs.declared.error.ReplayError.TheVariants as fault

-- the names of these sinks
pub names_from : (tops : List (Bor SinkConfig)) (all : List SinkConfig) (names : List (List ℕ)) → map (λ (s : Bor SinkConfig). s.now) tops ≡ all
    → names ≡ map (λ (s : Bor SinkConfig). s.now.name) tops → names ≡ map (λ (s : SinkConfig). s.name) all
names_from tops all names are e =
    e ∙ (sym (map-map (λ (s : SinkConfig). s.name) (λ (s : Bor SinkConfig). s.now) tops) ∙ ap (map (λ (s : SinkConfig). s.name)) are)

known_on : {S : Type 0} {tells : Bool} {files : S → Files} {failures : S → ℕ} {c : Config} {s : Stage S}
    → IsStageOf tells files failures c s → (o : Option (List ℕ)) (P : List ℕ → Stage S → Type 0) → IfSome o (λ x. P x s)
    → IfSome o (λ x. OnStage tells files failures c (P x))
known_on is None P h = h
known_on {s} is (Some x) P h = (s, is, h)

-- where a line is refused
pub refused_on : {S : Type 0} {tells : Bool} {files : S → Files} {failures : S → ℕ} {c : Config} {s : Stage S}
    → IsStageOf tells files failures c s → (o : Option (List ℕ)) (r : Result ℕ ReplayError) (P : ℕ → List ℕ → Stage S → Type 0)
    → IfErr r (λ e. (line : ℕ) → e ≡ fault.LineRefused line → IfSome o (λ x. P line x s))
    → IfErr r (λ e. (line : ℕ) → e ≡ fault.LineRefused line → IfSome o (λ x. OnStage tells files failures c (P line x)))
refused_on is o (Ok n) P h = h
refused_on {tells} {files} {failures} {c} {s} is o (Err e) P h = λ line at. known_on is o (P line) (h line at)
