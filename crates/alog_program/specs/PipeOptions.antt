-- What the values of the options of `alog pipe` say.
use Rattle.std.specs.Prelude.{◌≡◌, ◌↔◌, Some, true, codes}
use Rattle.std.specs.Option.{option_map}
use Rattle.alog_program.specs.Options.{IsAllowed, IsLevel, Values, text_of}
use Rattle.alog_program.specs.declared.options.FormatOption.TheVariants as option
use Rattle.alog_program.specs.declared.request.PipeRequest.{PipeRequest}

-- The pipe is asked for by these values, and each is allowed. A flag that is given has the value `true`.
pub record AsksForPipe (values : Values) (r : PipeRequest) : Type 0 where
  pub file : r.file.now ≡ text_of values (codes "CONFIG")
  pub folder : r.folder.now ≡ text_of values (codes "folder")
  pub logger : option_map (λ n. n.now) r.logger ≡ values (codes "logger")
  pub allowed : IsAllowed values option.Level
  pub level : IsLevel (values (codes "level")) r.level
  pub totals : (r.totals ≡ true) ↔ (values (codes "totals") ≡ Some (codes "true"))
