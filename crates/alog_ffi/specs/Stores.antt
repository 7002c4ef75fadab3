-- The stores of a pool that is opened here.
use Rattle.std.specs.Prelude.{◌≡◌, ℕ, List, [], None}
use Rattle.alog_outbox.specs.Views.{DrainView, OutboxView}
use Rattle.alog_outbox.specs.declared.found.FoundFile.{FoundFile}

-- how many of its calls failed
abbrev pub failures_of : OutboxView → ℕ
failures_of s = s.failures

-- A new store over a folder in which these files were found, and its drain, of which nothing was taken.
pub record Begins (found : List FoundFile) (s : OutboxView) (d : DrainView) : Type 0 where
  pub found_are : s.found ≡ found
  pub untold : (s.calls ≡ []) × (s.sent ≡ []) × (s.hand ≡ None) × (s.failures ≡ 0)
  pub untaken : (d.got ≡ []) × (d.told ≡ None)
  pub line : d.line ≡ s.line
