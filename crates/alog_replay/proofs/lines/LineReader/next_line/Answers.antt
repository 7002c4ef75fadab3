use Rattle.std.proofs.Common.{◌++◌, sym, ◌∙◌, subst}
use Rattle.alog_replay.specs.LineState.{rest_of}
use Rattle.alog_replay.proofs.KnownLemmas.{consumes_more, consumes_same, takes_whole, finds_ended, finds_too_long, finds_last}
use Rattle.alog_replay.proofs.LineLemmas.{unbroken-append}
use Rattle.alog_replay.specs.Lines.{IsUnbroken}
use Rattle.alog_replay.proofs.lines.LineReader.next_line.Goals as goal

pub returns-in-Ended-clause-found : goal.returns-in-Ended-clause-found
returns-in-Ended-clause-found g c =
    finds_ended _ (g.R.Read.remaining c.loop-self.reader) c.loop-self.self c.take_piece.new.self c.loop-self.invariant.0
    c.loop-self.invariant.1 c.in-Ended.ensures.piece c.in-Ended.ensures.fits

pub returns-in-TooLong-clause-found : goal.returns-in-TooLong-clause-found
returns-in-TooLong-clause-found g c =
    finds_too_long _ (g.R.Read.remaining c.loop-self.reader) c.loop-self.self c.take_piece.new.self c.loop-self.invariant.0
    c.loop-self.invariant.1 c.in-TooLong.ensures.piece

pub returns-in-End-clause-found : goal.returns-in-End-clause-found
returns-in-End-clause-found g c =
    let moved = c.in-Whole.ensures.piece in
    let grown = c.in_ok-fill.ensures.line ∙ moved.1 in
    let before = rest_of c.loop-self.self (g.R.Read.remaining c.loop-self.reader) in
    let between = rest_of c.take_piece.new.self (g.R.Read.remaining c.loop-self.reader) in
    let script = rest_of c.args.self.now (g.R.Read.remaining c.args.reader.now) in
    let after = rest_of c.fill.new.self (g.R.Read.remaining c.fill.new.reader) in
    let line = c.loop-self.self.line in
    let pending = c.loop-self.self.pending in
    let taken = consumes_more script before between line pending c.loop-self.invariant.1
    (takes_whole (g.R.Read.remaining c.loop-self.reader) c.loop-self.self c.take_piece.new.self moved) in
    let kept = consumes_same script between after (line ++ pending) c.fill.new.self.line taken c.in_ok-fill.ensures.rest grown in
    let unbroken = subst IsUnbroken (sym grown) (unbroken-append line pending c.loop-self.invariant.0 moved.2) in
    finds_last script after c.fill.new.self.line unbroken kept (c.in_ok-fill.ensures.end c.in-End.is)
    (rw c.in_ok-fill.ensures.line c.in-Whole.ensures.fits) c.last.ensures
