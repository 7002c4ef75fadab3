-- Stores that were just made, and how often they try again.
use Rattle.std.specs.Prelude.{◌≡◌, ℕ, Bool, true, Option, None, Some}
use Rattle.alog_patient.specs.declared.patience.Patience.{Patience}
use Rattle.alog_patient.specs.declared.patience.Patience.TheVariants.{Times}
use Rattle.alog_sink.specs.Files.{AreSame, Files, no_files}

-- by what they tell, their files and their failures: it has no files as far as it tells them, and did not fail
abbrev pub IsNew : {S : Type 0} → Bool → (S → Files) → (S → ℕ) → S → Type 0
IsNew tells files failures s = (tells ≡ true → AreSame no_files (files s)) × (failures s ≡ 0)

-- how often a failed call on a file is tried again: as often as the key `retry` says, and else so
abbrev pub patience_of : Patience → Option ℕ → Patience
patience_of default None = default
patience_of default (Some times) = Times times
