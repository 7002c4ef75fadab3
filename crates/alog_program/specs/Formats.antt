-- What `alog format` does.
use Rattle.std.specs.Prelude.{◌≡◌, ℕ, List, Option}
use Rattle.std.specs.Io.KnownBytes.{Keeps}
use Rattle.alog_program.specs.Line.{IsRefused, WritesLineOf}
use Rattle.alog_program.specs.Options.{Values, AsksFor, IsFirstRefused}
use Rattle.alog_program.specs.declared.options.ValueError.{ValueError}
use Rattle.alog_program.specs.declared.request.LineRequest.{LineRequest}

-- By the exit status: the line that the values ask for was written, or nothing since a value is refused or a limit passed.
pub record Formats (values : Values) (status : ℕ) (old new : Option (List ℕ)) : Type 0 where
  pub done : status ≡ 0 → (r : LineRequest) × AsksFor values r × WritesLineOf r old new
  pub usage : status ≡ 1 → (fault : ValueError) × IsFirstRefused values fault × Keeps old new
  pub refused : status ≡ 2 → (r : LineRequest) × AsksFor values r × IsRefused r × Keeps old new
