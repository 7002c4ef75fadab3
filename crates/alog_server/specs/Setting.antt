-- What a configuration gives to start a pool with.
use Rattle.std.specs.Prelude.{◌≡◌, ℕ, Bool, false, List}
use Rattle.alog_config.specs.Built.{Built}
use Rattle.alog_config.specs.declared.config.Config.{Config}
use Rattle.alog_pool.specs.declared.setup.Setup.{Setup}
use Rattle.alog_sink.specs.Files.{Files}

-- What a configuration gives, over these stores, for a pool that tells so many tickets of each worker, and no gaps.
pub record IsSetupOf {S : Type 0} (tells : Bool) (files : S → Files) (failures : S → ℕ) (c : Config) (stores : List S) (most : ℕ)
    (setup : Setup S) : Type 0 where
  pub built : Built tells files failures c stores setup.loggers setup.sinks.items
  pub queue : setup.queue ≡ c.queue
  pub first : setup.first ≡ 0
  pub workers : setup.workers ≡ c.workers
  pub limit : setup.text_limit ≡ c.text
  pub most_is : setup.tickets_max ≡ most
  pub no_gaps : setup.tells_gaps ≡ false
