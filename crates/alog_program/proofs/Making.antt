-- What holds of a run by the words that it is given.
use Rattle.std.proofs.Common.{◌≡◌, ℕ, Bool, Option, List, codes, arith, inl, inr, refl, subst}
use Rattle.std.proofs.KnownBytes.{Keeps-refl}
use Rattle.clap.specs.Words.{Row, Text}
use Rattle.alog_patient.specs.declared.patience.Patience.{Patience}
use Rattle.alog_sink.specs.Files.{Files}
use Rattle.alog_sink.specs.declared.mem_store.MemStore.{MemStore}
use Rattle.alog_program.proofs.CommandLines.{one_row, replay_lacks_memory, replay_no_format, replay_no_check, replay_no_config, replay_no_load, format_is_no_check}
use Rattle.alog_program.proofs.CommandLines.{format_is_no_replay, check_is_no_replay, load_is_no_check, load_is_no_format, load_is_no_replay, not_both, lacks_memory}
use Rattle.alog_program.proofs.CommandLines.{pipe_is_no_check, pipe_is_no_format, pipe_is_no_load, pipe_is_no_replay, replay_no_pipe}
use Rattle.alog_program.proofs.Loading.{Loads2, load_made, load_unasked, load_unread}
use Rattle.alog_program.proofs.Piping.{pipe_made, pipe_refused}
use Rattle.alog_program.specs.Checks.{ChecksFile}
use Rattle.alog_program.specs.CommandLine.{Asks, AsksCheck, AsksFormat, AsksLoad, AsksPipe, AsksReplayConfig, IsRefusedBy, config_in, values_in}
use Rattle.alog_program.specs.Formats.{Formats}
use Rattle.alog_program.specs.Made.{IsAnswerTo, Makes}
use Rattle.alog_program.specs.Piped.{PipesBy}
use Rattle.alog_program.specs.Replays.{Replays, ReplaysFile}
use Rattle.alog_program.specs.Words.{AsksReplay}
use Rattle.alog_program.specs.declared.request.Request.{Request}
use Rattle.alog_program.specs.declared.request.Request.TheVariants.{Replay, ReplayConfig, Format, Check, Load, Pipe}
use Rattle.alog_program.specs.declared.words.WordsError.{WordsError}
use Rattle.alog_program.specs.declared.words.WordsError.TheVariants.{Clap, Value, LoadValue}

module _ {F : Type 0} (tells : Bool) (files : MemStore → Files) (failures : MemStore → ℕ) (tells2 : Bool) (files2 : F → Files)
    (failures2 : F → ℕ) (tries2 : F → Patience) (words : List Text) (status : ℕ) (before after old new : Option (List ℕ)) where
  abbrev pub Made : Request → Type 0
  Made r = Makes tells files failures tells2 files2 failures2 tries2 r status before after old new

  -- the words ask for a request, which was made
  pub made_replays : (r : Request) → Asks words r → Made r → AsksReplay words → Replays status before after old new
  made_replays Replay asked made asks = made
  made_replays (ReplayConfig file) asked made asks = absurd (replay_no_config words asked.0 file.now asks asked.1.1 asked.2)
  made_replays (Format r) asked made asks = absurd (replay_no_format words asked.0 asks asked.1.1)
  made_replays (Check file) asked made asks = absurd (replay_no_check words asked.0 asks asked.1.1)
  made_replays (Load r) asked made asks = absurd (replay_no_load words asked.0 asks asked.1.1)
  made_replays (Pipe r) asked made asks = absurd (replay_no_pipe words asked.0 asks asked.1.1)

  pub made_configured : (r : Request) → Asks words r → Made r → (rows : List Row) → AsksReplayConfig words rows
      → ReplaysFile tells files failures status before after old new
  made_configured Replay asked made rows asks = absurd (not_both (config_in rows) (asked.5 rows asks.0.1) asks.1)
  made_configured (ReplayConfig file) asked made rows asks = made
  made_configured (Format r) asked made rows asks = absurd (format_is_no_replay words asked.0 rows asked.1.1 asks.0.1)
  made_configured (Check file) asked made rows asks = absurd (check_is_no_replay words asked.0 rows asked.1.1 asks.0.1)
  made_configured (Load r) asked made rows asks = absurd (load_is_no_replay words asked.0 rows asked.1.1 asks.0.1)
  made_configured (Pipe r) asked made rows asks = absurd (pipe_is_no_replay words asked.0 rows asked.1.1 asks.0.1)

  pub made_formats : (r : Request) → Asks words r → Made r → (rows : List Row) → AsksFormat words rows
      → Formats (values_in rows) status old new
  made_formats Replay asked made rows asks = absurd (asked.1 rows asks.1)
  made_formats (ReplayConfig file) asked made rows asks = absurd (format_is_no_replay words rows asked.0 asks.1 asked.1.1)
  made_formats (Format r) asked made rows asks =
      subst (λ (rs : List Row). Formats (values_in rs) status old new) (one_row (codes "format") words asked.0 rows asked.1.1 asks.1) (record {
        done = λ zero. (r, asked.2, made.1 zero);
        usage = λ one. absurd (made.0 one);
        refused = λ two. (r, asked.2, (made.2 two).0, (made.2 two).1);
      })
  made_formats (Check file) asked made rows asks = absurd (format_is_no_check words rows asked.0 asks.1 asked.1.1)
  made_formats (Load r) asked made rows asks = absurd (load_is_no_format words asked.0 rows asked.1.1 asks.1)
  made_formats (Pipe r) asked made rows asks = absurd (pipe_is_no_format words asked.0 rows asked.1.1 asks.1)

  pub made_checks : (r : Request) → Asks words r → Made r → (rows : List Row) → AsksCheck words rows → ChecksFile status old new
  made_checks Replay asked made rows asks = absurd (asked.2 rows asks.1)
  made_checks (ReplayConfig file) asked made rows asks = absurd (check_is_no_replay words rows asked.0 asks.1 asked.1.1)
  made_checks (Format r) asked made rows asks = absurd (format_is_no_check words asked.0 rows asked.1.1 asks.1)
  made_checks (Check file) asked made rows asks = made
  made_checks (Load r) asked made rows asks = absurd (load_is_no_check words asked.0 rows asked.1.1 asks.1)
  made_checks (Pipe r) asked made rows asks = absurd (pipe_is_no_check words asked.0 rows asked.1.1 asks.1)

  pub made_loads : (r : Request) → Asks words r → Made r → (rows : List Row) → AsksLoad words rows
      → Loads2 tells files failures tells2 files2 failures2 tries2 status old new rows
  made_loads Replay asked made rows asks = absurd (asked.3 rows asks.1)
  made_loads (ReplayConfig file) asked made rows asks = absurd (load_is_no_replay words rows asked.0 asks.1 asked.1.1)
  made_loads (Format r) asked made rows asks = absurd (load_is_no_format words rows asked.0 asks.1 asked.1.1)
  made_loads (Check file) asked made rows asks = absurd (load_is_no_check words rows asked.0 asks.1 asked.1.1)
  made_loads (Load r) asked made rows asks =
      load_made tells files failures tells2 files2 failures2 tries2 status old new words asked.0 rows r asked.1.1 asks.1 asked.2 made
  made_loads (Pipe r) asked made rows asks = absurd (pipe_is_no_load words asked.0 rows asked.1.1 asks.1)

  pub made_pipes : (r : Request) → Asks words r → Made r → (rows : List Row) → AsksPipe words rows
      → PipesBy tells2 files2 failures2 tries2 (values_in rows) status before after old new
  made_pipes Replay asked made rows asks = absurd (asked.4 rows asks.1)
  made_pipes (ReplayConfig file) asked made rows asks = absurd (pipe_is_no_replay words rows asked.0 asks.1 asked.1.1)
  made_pipes (Format r) asked made rows asks = absurd (pipe_is_no_format words rows asked.0 asks.1 asked.1.1)
  made_pipes (Check file) asked made rows asks = absurd (pipe_is_no_check words rows asked.0 asks.1 asked.1.1)
  made_pipes (Load r) asked made rows asks = absurd (pipe_is_no_load words rows asked.0 asks.1 asked.1.1)
  made_pipes (Pipe r) asked made rows asks =
      pipe_made tells2 files2 failures2 tries2 status before after old new words asked.0 rows r asked.1.1 asks.1 asked.2 made

-- the words are refused, and that was answered
module _ (words : List Text) (status : ℕ) (before old new : Option (List ℕ)) where
  pub refused_replays : (e : WordsError) → IsRefusedBy words e → IsAnswerTo e status old new → AsksReplay words
      → Replays status before before old new
  refused_replays (Clap error) refused answer asks =
      let four : status ≡ 4 = answer.0.1 (replay_lacks_memory words error asks refused) in
      record {
        understood = λ one. absurd (omega (arith, four, one));
        whole = λ zero. absurd (omega (arith, four, zero));
        refused = λ two. absurd (omega (arith, four, two));
        front = λ _. inl (answer.1 four);
      }
  refused_replays (Value fault) refused answer asks =
      elim refused.1 [
        | inl format ↦ absurd (replay_no_format words refused.0 asks format.0.1)
        | inr pipe ↦ absurd (replay_no_pipe words refused.0 asks pipe.0.1)
      ]
  refused_replays (LoadValue fault) refused answer asks = absurd (replay_no_load words refused.0 asks refused.1.1)

  pub refused_formats : (e : WordsError) → IsRefusedBy words e → IsAnswerTo e status old new → (rows : List Row)
      → AsksFormat words rows → Formats (values_in rows) status old new
  refused_formats (Clap error) refused answer rows asks =
      let four : status ≡ 4 = answer.0.1 (lacks_memory words error asks.0 refused) in
      record {
        done = λ zero. absurd (omega (arith, four, zero));
        usage = λ one. absurd (omega (arith, four, one));
        refused = λ two. absurd (omega (arith, four, two));
      }
  refused_formats (Value fault) refused answer rows asks =
      elim refused.1 [
        | inl format ↦ subst (λ (rs : List Row). Formats (values_in rs) status old new)
            (one_row (codes "format") words refused.0 rows format.0.1 asks.1) (record {
              done = λ zero. absurd (omega (arith, answer.0, zero));
              usage = λ one. (fault, format.1, answer.1);
              refused = λ two. absurd (omega (arith, answer.0, two));
            })
        | inr pipe ↦ absurd (pipe_is_no_format words refused.0 rows pipe.0.1 asks.1)
      ]
  refused_formats (LoadValue fault) refused answer rows asks = absurd (load_is_no_format words refused.0 rows refused.1.1 asks.1)

  pub refused_checks : (e : WordsError) → IsRefusedBy words e → IsAnswerTo e status old new → (rows : List Row)
      → AsksCheck words rows → ChecksFile status old new
  refused_checks (Clap error) refused answer rows asks =
      let four : status ≡ 4 = answer.0.1 (lacks_memory words error asks.0 refused) in inr (inr four, answer.1 four)
  refused_checks (Value fault) refused answer rows asks =
      elim refused.1 [
        | inl format ↦ absurd (format_is_no_check words refused.0 rows format.0.1 asks.1)
        | inr pipe ↦ absurd (pipe_is_no_check words refused.0 rows pipe.0.1 asks.1)
      ]
  refused_checks (LoadValue fault) refused answer rows asks = absurd (load_is_no_check words refused.0 rows refused.1.1 asks.1)

  module _ (tells : Bool) (files : MemStore → Files) (failures : MemStore → ℕ) where
    pub refused_configured : (e : WordsError) → IsRefusedBy words e → IsAnswerTo e status old new → (rows : List Row)
        → AsksReplayConfig words rows → ReplaysFile tells files failures status before before old new
    refused_configured (Clap error) refused answer rows asks =
        let four : status ≡ 4 = answer.0.1 (lacks_memory words error asks.0.0 refused) in inr (inr four, (refl, answer.1 four))
    refused_configured (Value fault) refused answer rows asks =
        elim refused.1 [
          | inl format ↦ absurd (format_is_no_replay words refused.0 rows format.0.1 asks.0.1)
          | inr pipe ↦ absurd (pipe_is_no_replay words refused.0 rows pipe.0.1 asks.0.1)
        ]
    refused_configured (LoadValue fault) refused answer rows asks = absurd (load_is_no_replay words refused.0 rows refused.1.1 asks.0.1)

  module _ {F : Type 0} (tells : Bool) (files : F → Files) (failures : F → ℕ) (tries : F → Patience) where
    pub refused_pipes : (e : WordsError) → IsRefusedBy words e → IsAnswerTo e status old new → (rows : List Row)
        → AsksPipe words rows → PipesBy tells files failures tries (values_in rows) status before before old new
    refused_pipes (Clap error) refused answer rows asks =
        let four : status ≡ 4 = answer.0.1 (lacks_memory words error asks.0 refused) in inr (inr (four, (Keeps-refl before, answer.1 four)))
    refused_pipes (Value fault) refused answer rows asks =
        elim refused.1 [
          | inl format ↦ absurd (pipe_is_no_format words rows refused.0 asks.1 format.0.1)
          | inr pipe ↦ pipe_refused tells files failures tries status before before old new words fault pipe.0.1 asks.1 pipe.1 answer.0
              (Keeps-refl before, answer.1)
        ]
    refused_pipes (LoadValue fault) refused answer rows asks = absurd (pipe_is_no_load words rows refused.0 asks.1 refused.1.1)

  module _ {F : Type 0} (tells : Bool) (files : MemStore → Files) (failures : MemStore → ℕ) (tells2 : Bool) (files2 : F → Files)
      (failures2 : F → ℕ) (tries2 : F → Patience) where
    pub refused_loads : (e : WordsError) → IsRefusedBy words e → IsAnswerTo e status old new → (rows : List Row)
        → AsksLoad words rows → Loads2 tells files failures tells2 files2 failures2 tries2 status old new rows
    refused_loads (Clap error) refused answer rows asks =
        let four : status ≡ 4 = answer.0.1 (lacks_memory words error asks.0 refused) in
        load_unasked tells files failures tells2 files2 failures2 tries2 status old new rows four (answer.1 four)
    refused_loads (Value fault) refused answer rows asks =
        elim refused.1 [
          | inl format ↦ absurd (load_is_no_format words rows refused.0 asks.1 format.0.1)
          | inr pipe ↦ absurd (pipe_is_no_load words refused.0 rows pipe.0.1 asks.1)
        ]
    refused_loads (LoadValue fault) refused answer rows asks =
        load_unread tells files failures tells2 files2 failures2 tries2 status old new words refused.1.1 asks.1 refused.2 answer.0 answer.1
