use Rattle.std.proofs.Common.{codes, ◌≡◌, ◌∙◌, ap, refl, sym, subst, List, None, true, false, inl, inr}
use Rattle.std.specs.Prelude.{IsNone, is_some}
use Rattle.clap.specs.Words.{Row, found_of, rows_of}
use Rattle.alog_program.specs.CommandLine.{IsRefusedBy, config_in}
use Rattle.alog_program.specs.LoadOptions.{AsksForLoad, IsFirstUnread}
use Rattle.alog_program.specs.Options.{Values, AsksFor, IsFirstRefused, Refuses, text_of}
use Rattle.alog_program.specs.PipeOptions.{AsksForPipe}
use Rattle.alog_program.specs.declared.options.FormatOption.TheVariants as option
use Rattle.alog_program.specs.declared.words.WordsError.TheVariants.{LoadValue, Value}
use Rattle.alog_program.proofs.CommandLines.{error_is, names_command, names_no_command, one_row, values_are}
use Rattle.alog_program.proofs.words.request_of.Goals as goal
use Rattle.alog_program.proofs.words.request_of.Goals.{in-Some-subcommand_matches+in_default-get_str, in_default-subcommand_matches}

pub returns-in_err-line_request-clause-refused : goal.returns-in_err-line_request-clause-refused
returns-in_err-line_request-clause-refused c =
    λ words are.
    let all = c.args.matches.now in
    let m = c.in-Some.format.now in
    let rows : List Row = rows_of (found_of m) in
    let fault = c.in_err-line_request.field-0.0 in
    error_is c.from_residual.result (Value fault) (IsRefusedBy words) c.from_residual.ensures.1 (
      rows,
      inl (
        names_command words all are (codes "format") rows (c.in-Some.ensures.found.0 refl) c.in-Some.ensures.rows,
        subst (λ (v : Values). IsFirstRefused v fault) (values_are m) c.in_err-line_request.ensures.refused,
      ),
    )

pub returns-in-Some-clause-asked : goal.returns-in-Some-clause-asked
returns-in-Some-clause-asked c =
    λ words are.
    let all = c.args.matches.now in
    let m = c.in-Some.format.now in
    let rows : List Row = rows_of (found_of m) in (
      rows,
      names_command words all are (codes "format") rows (c.in-Some.ensures.found.0 refl) c.in-Some.ensures.rows,
      subst (λ (v : Values). AsksFor v c.in_ok-line_request.field-0) (values_are m) c.in_ok-line_request.ensures.asked,
    )

pub returns-in-Some-get_str-clause-asked : goal.returns-in-Some-get_str-clause-asked
returns-in-Some-get_str-clause-asked c =
    λ words are.
    let all = c.args.matches.now in
    let m = c.in-Some-subcommand_matches.replay.now in
    let rows : List Row = rows_of (found_of m) in (
      rows,
      names_command words all are (codes "replay") rows (c.in-Some-subcommand_matches.ensures.found.0 refl) c.in-Some-subcommand_matches.ensures.rows,
      ap (λ (v : Values). v (codes "config")) (sym (values_are m)) ∙ sym c.in-Some-get_str.ensures,
    )

pub returns-in_err-load_request-clause-refused : goal.returns-in_err-load_request-clause-refused
returns-in_err-load_request-clause-refused c =
    λ words are.
    let all = c.args.matches.now in
    let m = c.in-Some-subcommand_matches-2.load.now in
    let rows : List Row = rows_of (found_of m) in
    let fault = c.in_err-load_request.field-0.0 in
    error_is c.from_residual-in_err-load_request.result (LoadValue fault) (IsRefusedBy words) c.from_residual-in_err-load_request.ensures.1 (
      rows,
      names_command words all are (codes "load") rows (c.in-Some-subcommand_matches-2.ensures.found.0 refl) c.in-Some-subcommand_matches-2.ensures.rows,
      subst (λ (v : Values). IsFirstUnread v fault) (values_are m) c.in_err-load_request.ensures.refused,
    )

pub returns-in-Some-subcommand_matches-2-clause-asked : goal.returns-in-Some-subcommand_matches-2-clause-asked
returns-in-Some-subcommand_matches-2-clause-asked c =
    λ words are.
    let all = c.args.matches.now in
    let m = c.in-Some-subcommand_matches-2.load.now in
    let rows : List Row = rows_of (found_of m) in (
      rows,
      names_command words all are (codes "load") rows (c.in-Some-subcommand_matches-2.ensures.found.0 refl) c.in-Some-subcommand_matches-2.ensures.rows,
      subst (λ (v : Values). AsksForLoad v c.in_ok-load_request.field-0) (values_are m) c.in_ok-load_request.ensures.asked,
    )

pub returns-in_err-pipe_request-clause-refused : goal.returns-in_err-pipe_request-clause-refused
returns-in_err-pipe_request-clause-refused c =
    λ words are.
    let all = c.args.matches.now in
    let m = c.in-Some-subcommand_matches-3.pipe.now in
    let rows : List Row = rows_of (found_of m) in
    let fault = c.in_err-pipe_request.field-0.0 in
    error_is c.from_residual-in_err-pipe_request.result (Value fault) (IsRefusedBy words) c.from_residual-in_err-pipe_request.ensures.1 (
      rows,
      inr (
        names_command words all are (codes "pipe") rows (c.in-Some-subcommand_matches-3.ensures.found.0 refl) c.in-Some-subcommand_matches-3.ensures.rows,
        subst (λ (v : Values). Refuses v option.Level fault) (values_are m) c.in_err-pipe_request.ensures.refused,
      ),
    )

pub returns-in-Some-subcommand_matches-3-clause-asked : goal.returns-in-Some-subcommand_matches-3-clause-asked
returns-in-Some-subcommand_matches-3-clause-asked c =
    λ words are.
    let all = c.args.matches.now in
    let m = c.in-Some-subcommand_matches-3.pipe.now in
    let rows : List Row = rows_of (found_of m) in (
      rows,
      names_command words all are (codes "pipe") rows (c.in-Some-subcommand_matches-3.ensures.found.0 refl) c.in-Some-subcommand_matches-3.ensures.rows,
      subst (λ (v : Values). AsksForPipe v c.in_ok-pipe_request.field-0) (values_are m) c.in_ok-pipe_request.ensures.asked,
    )

pub returns-in-Some-subcommand_matches-4-clause-asked : goal.returns-in-Some-subcommand_matches-4-clause-asked
returns-in-Some-subcommand_matches-4-clause-asked c =
    λ words are.
    let all = c.args.matches.now in
    let m = c.in-Some-subcommand_matches-4.check.now in
    let rows : List Row = rows_of (found_of m) in (
      rows,
      names_command words all are (codes "check") rows (c.in-Some-subcommand_matches-4.ensures.found.0 refl) c.in-Some-subcommand_matches-4.ensures.rows,
      c.text.ensures ∙ ap (λ (v : Values). text_of v (codes "FILE")) (values_are m),
    )

pub returns-in-None-clause-asked : goal.returns-in-None-clause-asked
returns-in-None-clause-asked c =
    λ words are.
    let all = c.args.matches.now in (
      are.0,
      λ rows named. names_no_command words all are (codes "format") rows
          (λ name. let bad : false ≡ true = c.in_default.ensures.found.1 name in cc) named,
      λ rows named. names_no_command words all are (codes "check") rows
          (λ name. let bad : false ≡ true = c.in-None.ensures.found.1 name in cc) named,
      λ rows named. names_no_command words all are (codes "load") rows
          (λ name. let bad : false ≡ true = c.in_default-subcommand_matches-2.ensures.found.1 name in cc) named,
      λ rows named. names_no_command words all are (codes "pipe") rows
          (λ name. let bad : false ≡ true = c.in_default-subcommand_matches-3.ensures.found.1 name in cc) named,
      λ rows named. elim c.match-subcommand_matches-2.branch [
        | in-Some-subcommand_matches+in_default-get_str w ↦
            let m = w.in-Some-subcommand_matches.replay.now in
            let own : List Row = rows_of (found_of m) in
            let none : config_in own ≡ None =
            sym (w.in_default-get_str.ensures ∙ ap (λ (v : Values). v (codes "config")) (values_are m)) in
            subst (λ (rs : List Row). IsNone (config_in rs)) (one_row (codes "replay") words own rows (names_command words all are
            (codes "replay") own (w.in-Some-subcommand_matches.ensures.found.0 refl) w.in-Some-subcommand_matches.ensures.rows).1 named) (ap is_some none)
        | in_default-subcommand_matches w ↦ absurd (names_no_command words all are (codes "replay") rows
            (λ name. let bad : false ≡ true = w.in_default-subcommand_matches.ensures.found.1 name in cc) named)
      ],
    )
