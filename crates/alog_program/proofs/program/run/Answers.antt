use Rattle.std.proofs.Common.{map}
use Rattle.alog_program.proofs.Making.{made_checks, made_configured, made_formats, made_loads, made_pipes, made_replays}
use Rattle.alog_program.proofs.Making.{refused_checks, refused_configured, refused_formats, refused_loads, refused_pipes, refused_replays}
use Rattle.alog_program.proofs.program.run.Goals as goal

pub returns-in-Ok-clause-replays : goal.returns-in-Ok-clause-replays
returns-in-Ok-clause-replays g c =
    λ asks.
    made_replays _ _ _ _ _ _ _ (map g.S.AsStr.text c.args.words.now) c.make.result (g.I.Read.remaining c.args.input.now)
    (g.I.Read.remaining c.make.new.input) (g.O.Write.contents c.args.output.now) (g.O.Write.contents c.make.new.output) c.in-Ok.request
    c.in-Ok.ensures.asked c.make.ensures.made asks

pub returns-in-Err-clause-replays : goal.returns-in-Err-clause-replays
returns-in-Err-clause-replays g c =
    λ asks.
    refused_replays (map g.S.AsStr.text c.args.words.now) c.refuse_words.result (g.I.Read.remaining c.args.input.now)
    (g.O.Write.contents c.args.output.now) (g.O.Write.contents c.refuse_words.new.output) c.in-Err.error c.in-Err.ensures.refused
    c.refuse_words.ensures.refused asks

pub returns-in-Ok-clause-configured : goal.returns-in-Ok-clause-configured
returns-in-Ok-clause-configured g c =
    λ rows asks.
    made_configured _ _ _ _ _ _ _ (map g.S.AsStr.text c.args.words.now) c.make.result (g.I.Read.remaining c.args.input.now)
    (g.I.Read.remaining c.make.new.input) (g.O.Write.contents c.args.output.now) (g.O.Write.contents c.make.new.output) c.in-Ok.request
    c.in-Ok.ensures.asked c.make.ensures.made rows asks

pub returns-in-Err-clause-configured : goal.returns-in-Err-clause-configured
returns-in-Err-clause-configured g c =
    λ rows asks.
    refused_configured (map g.S.AsStr.text c.args.words.now) c.refuse_words.result (g.I.Read.remaining c.args.input.now)
    (g.O.Write.contents c.args.output.now) (g.O.Write.contents c.refuse_words.new.output) _ _ _ c.in-Err.error c.in-Err.ensures.refused
    c.refuse_words.ensures.refused rows asks

pub returns-in-Ok-clause-formats : goal.returns-in-Ok-clause-formats
returns-in-Ok-clause-formats g c =
    λ rows asks.
    made_formats _ _ _ _ _ _ _ (map g.S.AsStr.text c.args.words.now) c.make.result (g.I.Read.remaining c.args.input.now)
    (g.I.Read.remaining c.make.new.input) (g.O.Write.contents c.args.output.now) (g.O.Write.contents c.make.new.output) c.in-Ok.request
    c.in-Ok.ensures.asked c.make.ensures.made rows asks

pub returns-in-Err-clause-formats : goal.returns-in-Err-clause-formats
returns-in-Err-clause-formats g c =
    λ rows asks.
    refused_formats (map g.S.AsStr.text c.args.words.now) c.refuse_words.result (g.I.Read.remaining c.args.input.now)
    (g.O.Write.contents c.args.output.now) (g.O.Write.contents c.refuse_words.new.output) c.in-Err.error c.in-Err.ensures.refused
    c.refuse_words.ensures.refused rows asks

pub returns-in-Ok-clause-checks : goal.returns-in-Ok-clause-checks
returns-in-Ok-clause-checks g c =
    λ rows asks.
    made_checks _ _ _ _ _ _ _ (map g.S.AsStr.text c.args.words.now) c.make.result (g.I.Read.remaining c.args.input.now)
    (g.I.Read.remaining c.make.new.input) (g.O.Write.contents c.args.output.now) (g.O.Write.contents c.make.new.output) c.in-Ok.request
    c.in-Ok.ensures.asked c.make.ensures.made rows asks

pub returns-in-Err-clause-checks : goal.returns-in-Err-clause-checks
returns-in-Err-clause-checks g c =
    λ rows asks.
    refused_checks (map g.S.AsStr.text c.args.words.now) c.refuse_words.result (g.I.Read.remaining c.args.input.now)
    (g.O.Write.contents c.args.output.now) (g.O.Write.contents c.refuse_words.new.output) c.in-Err.error c.in-Err.ensures.refused
    c.refuse_words.ensures.refused rows asks

pub returns-in-Ok-clause-loads : goal.returns-in-Ok-clause-loads
returns-in-Ok-clause-loads g c =
    λ rows asks.
    made_loads _ _ _ _ _ _ _ (map g.S.AsStr.text c.args.words.now) c.make.result (g.I.Read.remaining c.args.input.now)
    (g.I.Read.remaining c.make.new.input) (g.O.Write.contents c.args.output.now) (g.O.Write.contents c.make.new.output) c.in-Ok.request
    c.in-Ok.ensures.asked c.make.ensures.made rows asks

pub returns-in-Err-clause-loads : goal.returns-in-Err-clause-loads
returns-in-Err-clause-loads g c =
    λ rows asks.
    refused_loads (map g.S.AsStr.text c.args.words.now) c.refuse_words.result (g.I.Read.remaining c.args.input.now)
    (g.O.Write.contents c.args.output.now) (g.O.Write.contents c.refuse_words.new.output) _ _ _ _ _ _ _ c.in-Err.error c.in-Err.ensures.refused
    c.refuse_words.ensures.refused rows asks

pub returns-in-Ok-clause-pipes : goal.returns-in-Ok-clause-pipes
returns-in-Ok-clause-pipes g c =
    λ rows asks.
    made_pipes _ _ _ _ _ _ _ (map g.S.AsStr.text c.args.words.now) c.make.result (g.I.Read.remaining c.args.input.now)
    (g.I.Read.remaining c.make.new.input) (g.O.Write.contents c.args.output.now) (g.O.Write.contents c.make.new.output) c.in-Ok.request
    c.in-Ok.ensures.asked c.make.ensures.made rows asks

pub returns-in-Err-clause-pipes : goal.returns-in-Err-clause-pipes
returns-in-Err-clause-pipes g c =
    λ rows asks.
    refused_pipes (map g.S.AsStr.text c.args.words.now) c.refuse_words.result (g.I.Read.remaining c.args.input.now)
    (g.O.Write.contents c.args.output.now) (g.O.Write.contents c.refuse_words.new.output) _ _ _ _ c.in-Err.error c.in-Err.ensures.refused
    c.refuse_words.ensures.refused rows asks
