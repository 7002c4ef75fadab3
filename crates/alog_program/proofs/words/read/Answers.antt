use Rattle.std.proofs.Common.{List, map}
use Rattle.clap.specs.Words.{Text, app_of}
use Rattle.alog_program.specs.CommandLine.{IsRefusedBy}
use Rattle.alog_program.specs.declared.words.WordsError.TheVariants.{Clap}
use Rattle.alog_program.proofs.CommandLines.{entered_is, error_is, has_kind, no_fault}
use Rattle.alog_program.proofs.words.read.Goals as goal

pub returns-in_err-matches-clause-refused : goal.returns-in_err-matches-clause-refused
returns-in_err-matches-clause-refused g c =
    let words : List Text = map g.S.AsStr.text c.args.words.now in
    let error = c.in_err-matches.field-0.0 in
    error_is c.from_residual-in_err-matches.result (Clap error) (IsRefusedBy words) c.from_residual-in_err-matches.ensures.1
    (has_kind (app_of c.in_ok-alog.field-0) c.in_ok-alog.ensures words error c.in_err-matches.ensures.kinds)

pub returns-clause-asked : goal.returns-clause-asked
returns-clause-asked g c =
    let words : List Text = map g.S.AsStr.text c.args.words.now in
    let app = app_of c.in_ok-alog.field-0 in
    let is = c.in_ok-alog.ensures in
    let m = c.in_ok-matches.matches in
    c.request_of.ensures.asked words (no_fault app is words c.in_ok-matches.ensures.kinds, entered_is app is words m c.in_ok-matches.ensures.matches)

pub returns-clause-refused : goal.returns-clause-refused
returns-clause-refused g c =
    let words : List Text = map g.S.AsStr.text c.args.words.now in
    let app = app_of c.in_ok-alog.field-0 in
    let is = c.in_ok-alog.ensures in
    let m = c.in_ok-matches.matches in
    c.request_of.ensures.refused words (no_fault app is words c.in_ok-matches.ensures.kinds, entered_is app is words m c.in_ok-matches.ensures.matches)
