-- A script with a configuration where no store fails tells one text.
use Rattle.std.specs.Prelude.{◌≡◌, ℕ, Bool, List}
use Rattle.alog_config.specs.declared.config.Config.{Config}
use Rattle.alog_sink.specs.Files.{Files}
use Rattle.alog_replay.specs.Configured.{Stage}
use Rattle.alog_replay.specs.Faultless.{faultless}
use Rattle.alog_replay.specs.OfConfig.{IsStageOf}
use Rattle.alog_replay.specs.Script.{Told, ScriptTells}

-- from any two stages of one configuration a script tells the same where no store fails
abbrev pub OneTextOfConfig : {S : Type 0} (tells : Bool) (files : S → Files) (failures : S → ℕ) → (S → List (List ℕ × List ℕ)) → Type 0
OneTextOfConfig {S} tells files failures listing =
    (c : Config) (s r : Stage S) (script : List ℕ) (t u : Told) → IsStageOf tells files failures c s → IsStageOf tells files failures c r
    → ScriptTells (faultless tells files failures listing) s script t → ScriptTells (faultless tells files failures listing) r script u
    → t ≡ u
