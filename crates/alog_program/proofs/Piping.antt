-- What holds of a pipe by the words that ask for it.
use Rattle.std.proofs.Common.{◌≡◌, ℕ, Bool, Option, List, codes, inl, inr, subst}
use Rattle.clap.specs.Words.{Row, Text}
use Rattle.alog_patient.specs.declared.patience.Patience.{Patience}
use Rattle.alog_sink.specs.Files.{Files}
use Rattle.alog_program.proofs.CommandLines.{one_row}
use Rattle.alog_program.specs.CommandLine.{Names, values_in}
use Rattle.alog_program.specs.Options.{Refuses}
use Rattle.alog_program.specs.PipeOptions.{AsksForPipe}
use Rattle.alog_program.specs.Piped.{IsUntouched, PipesBy, PipesFile}
use Rattle.alog_program.specs.declared.options.FormatOption.TheVariants as option
use Rattle.alog_program.specs.declared.options.ValueError.{ValueError}
use Rattle.alog_program.specs.declared.request.PipeRequest.{PipeRequest}

module _ {S : Type 0} (tells : Bool) (files : S → Files) (failures : S → ℕ) (tries : S → Patience) (status : ℕ)
    (before after old new : Option (List ℕ)) where
  abbrev Pipes : List Row → Type 0
  Pipes rows = PipesBy tells files failures tries (values_in rows) status before after old new

  -- what the words ask for was made
  pub pipe_made : (words : List Text) (rows others : List Row) (r : PipeRequest) → Names (codes "pipe") words rows
      → Names (codes "pipe") words others → AsksForPipe (values_in rows) r
      → PipesFile tells files failures tries r status before after old new → PipesBy tells files failures tries (values_in others) status before after old new
  pipe_made words rows others r one other asks made =
      subst Pipes (one_row (codes "pipe") words rows others one other) (inl (r, asks, made))

  -- the level was refused
  pub pipe_refused : (words : List Text) {rows others : List Row} (fault : ValueError) → Names (codes "pipe") words rows
      → Names (codes "pipe") words others → Refuses (values_in rows) option.Level fault → status ≡ 1 → IsUntouched before after old new
      → PipesBy tells files failures tries (values_in others) status before after old new
  pipe_refused words {rows} {others} fault one other refuses is kept =
      subst Pipes (one_row (codes "pipe") words rows others one other) (inr (inl (is, (fault, refuses), kept)))
