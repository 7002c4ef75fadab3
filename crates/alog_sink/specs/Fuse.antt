-- A fuse: how many calls it lets pass before the one that it fails.
use Rattle.std.specs.Prelude.{◌≡◌, ◌≢◌, ℕ, zero, suc, Result, IsErr}
use Rattle.alog_sink.specs.Calls.{Counts}
use Rattle.alog_sink.specs.declared.fuse_store.Fuse.{Fuse}
use Rattle.alog_sink.specs.declared.fuse_store.Fuse.TheVariants.{Left, Burnt, Spared}

-- the fuse after a call
abbrev pub burnt : Fuse → Fuse
burnt (Left zero) = Burnt
burnt (Left (suc calls)) = Left calls
burnt Burnt = Burnt
burnt Spared = Spared

-- how many calls it has failed
abbrev pub own_failures : Fuse → ℕ
own_failures (Left _) = 0
own_failures Burnt = 1
own_failures Spared = 0

-- A call that the fuse fails leaves the failures of the store below; of the others, those that fail are counted there.
pub record Passes {A E : Type 0} (old new : Fuse) (below after : ℕ) (answer : Result A E) : Type 0 where
  pub fuse : new ≡ burnt old
  pub fails : old ≡ Left 0 → IsErr answer
  pub stays : old ≡ Left 0 → after ≡ below
  pub passes : old ≢ Left 0 → Counts below after answer
