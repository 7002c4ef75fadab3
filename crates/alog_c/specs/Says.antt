-- What a program says in the arguments of a call.
use Rattle.std.specs.Prelude.{◌≡◌, ℕ, ℤ, List, Option}
use Rattle.alog_ffi.specs.declared.said.Said.{Said}
use Rattle.alog_ffi.specs.declared.said.Source.{Source}

-- it is a message of these arguments
pub record Says (logger level : ℕ) (time : ℤ) (text : List ℕ) (source : Option Source) (said : Said) : Type 0 where
  pub logger_is : said.logger ≡ logger
  pub level_is : said.level ≡ level
  pub time_is : said.time ≡ time
  pub text_is : said.text.now ≡ text
  pub source_is : said.source ≡ source
