use Rattle.std.proofs.Common.{◌≡◌, ◌+◌, ℕ, List, refl, sym, subst, arith}
use Rattle.std.specs.Prelude.{IfSome}
use Rattle.std.proofs.lemmas.Result.{err_from_is_err_and}
use Rattle.alog_replay.specs.LineState.{rest_of}
use Rattle.alog_replay.specs.Script.{RefusedAt, WritesText, WritesLine, WritesRefused, WritesLineFront}
use Rattle.alog_replay.proofs.KnownBytes.{read_same, read_pending, consumed, known_read}
use Rattle.alog_replay.proofs.Telling.{point, told_start, told_line}
use Rattle.alog_replay.proofs.Endings.{on_any_err, nothing_front, finish_front, end_whole, too_long_refused, line_refused, line_front}
use Rattle.alog_replay.proofs.player.play.Goals as goal

pub returns-in_err-lines-clause-front : goal.returns-in_err-lines-clause-front
returns-in_err-lines-clause-front g c =
    let scene = g.S.Playable.scene in
    let remaining = g.R.Read.remaining in
    let contents = g.W.Write.contents in
    let from = point (remaining c.args.reader.now) c.args.stage.now 0 (contents c.args.writer.now) in
    on_any_err c.from_residual.result
    (nothing_front scene g.met.S.Playable.goes_on from from (remaining c.args.reader.now) (told_start scene from refl)
    (read_same (remaining c.args.reader.now)))

pub returns-in_err-next_line-clause-front : goal.returns-in_err-next_line-clause-front
returns-in_err-next_line-clause-front g c =
    let scene = g.S.Playable.scene in
    let remaining = g.R.Read.remaining in
    let contents = g.W.Write.contents in
    let from = point (remaining c.args.reader.now) c.args.stage.now 0 (contents c.args.writer.now) in
    let at = point (rest_of c.lines.lines (remaining c.lines.reader)) c.lines.stage c.lines.count (contents c.lines.writer) in
    let left = remaining c.next_line.new.reader in
    let lines = c.next_line.new.self in
    on_any_err c.from_residual-in_err-next_line.result
    (nothing_front scene g.met.S.Playable.goes_on from at left c.lines.invariant.told
    (read_pending at.rest left lines.pending (consumed at.rest (rest_of lines left) lines.line c.in_err-next_line.ensures.fault)))

pub returns-in-TooLong-clause-refused : goal.returns-in-TooLong-clause-refused
returns-in-TooLong-clause-refused g c line e =
    let scene = g.S.Playable.scene in
    let remaining = g.R.Read.remaining in
    let contents = g.W.Write.contents in
    let from = point (remaining c.args.reader.now) c.args.stage.now 0 (contents c.args.writer.now) in
    let at = point (rest_of c.lines.lines (remaining c.lines.reader)) c.lines.stage c.lines.count (contents c.lines.writer) in
    let left = remaining c.next_line.new.reader in
    let lines = c.next_line.new.self in
    let found = rw c.in-TooLong.is at c.in_ok-next_line.ensures.found in
    let number : c.lines.count + 1 ≡ line = cc in
    subst (λ (k : ℕ). IfSome from.rest (λ script. WritesText scene from.stage script (RefusedAt k) from.held at.held)) number
    (too_long_refused scene from at (rest_of lines left) lines.line c.lines.invariant.told found)

pub returns-in-TooLong-clause-front : goal.returns-in-TooLong-clause-front
returns-in-TooLong-clause-front g c =
    let scene = g.S.Playable.scene in
    let remaining = g.R.Read.remaining in
    let contents = g.W.Write.contents in
    let from = point (remaining c.args.reader.now) c.args.stage.now 0 (contents c.args.writer.now) in
    let at = point (rest_of c.lines.lines (remaining c.lines.reader)) c.lines.stage c.lines.count (contents c.lines.writer) in
    let left = remaining c.next_line.new.reader in
    let lines = c.next_line.new.self in
    let found = rw c.in-TooLong.is at c.in_ok-next_line.ensures.found in
    nothing_front scene g.met.S.Playable.goes_on from at left c.lines.invariant.told
    (read_pending at.rest left lines.pending (known_read at.rest (rest_of lines left) _ (λ x y h. (lines.line, h.0)) found))

pub returns-in_err-finish-in-End-clause-front : goal.returns-in_err-finish-in-End-clause-front
returns-in_err-finish-in-End-clause-front g c =
    let scene = g.S.Playable.scene in
    let remaining = g.R.Read.remaining in
    let contents = g.W.Write.contents in
    let from = point (remaining c.args.reader.now) c.args.stage.now 0 (contents c.args.writer.now) in
    let at = point (rest_of c.lines.lines (remaining c.lines.reader)) c.lines.stage c.lines.count (contents c.lines.writer) in
    let left = remaining c.next_line.new.reader in
    let lines = c.next_line.new.self in
    let found = rw c.in-End.is at c.in_ok-next_line.ensures.found in
    on_any_err c.from_residual-in_err-finish-in-End.result
    (finish_front scene from at left lines.pending lines.line c.lines.invariant.told found c.in_err-finish-in-End.ensures.front.1)

pub returns-in-End-clause-whole : goal.returns-in-End-clause-whole
returns-in-End-clause-whole g c =
    let scene = g.S.Playable.scene in
    let remaining = g.R.Read.remaining in
    let contents = g.W.Write.contents in
    let from = point (remaining c.args.reader.now) c.args.stage.now 0 (contents c.args.writer.now) in
    let at = point (rest_of c.lines.lines (remaining c.lines.reader)) c.lines.stage c.lines.count (contents c.lines.writer) in
    let left = remaining c.next_line.new.reader in
    let lines = c.next_line.new.self in
    let found = rw c.in-End.is at c.in_ok-next_line.ensures.found in
    end_whole scene from at (rest_of lines left) (contents c.finish.new.writer) lines.line c.lines.invariant.told found
    c.in_ok-finish-in-End.ensures.done

pub lines-preserved : goal.lines-preserved
lines-preserved g c =
    let scene = g.S.Playable.scene in
    let remaining = g.R.Read.remaining in
    let contents = g.W.Write.contents in
    let from = point (remaining c.args.reader.now) c.args.stage.now 0 (contents c.args.writer.now) in
    let at = point (rest_of c.lines.lines (remaining c.lines.reader)) c.lines.stage c.lines.count (contents c.lines.writer) in
    let left = remaining c.next_line.new.reader in
    let lines = c.next_line.new.self in
    let next = point (rest_of lines left) c.play_and_write.new.stage (c.lines.count + 1) (contents c.play_and_write.new.writer) in
    let less = c.in_ok-next_line.ensures.fewer c.in-Found.is in
    let found = rw c.in-Found.is at c.in_ok-next_line.ensures.found in
    let wrote = subst (λ (line : List ℕ). WritesLine scene at.stage line next.stage at.held next.held) c.line.ensures.value
    c.in_ok-play_and_write.ensures.done in
    record {
      few = omega (arith, less, c.lines.invariant.few);
      told = told_line scene from at next lines.line refl wrote c.lines.invariant.told found;
    }

pub returns-in_err-play_and_write-clause-refused : goal.returns-in_err-play_and_write-clause-refused
returns-in_err-play_and_write-clause-refused g c =
    let scene = g.S.Playable.scene in
    let remaining = g.R.Read.remaining in
    let contents = g.W.Write.contents in
    let from = point (remaining c.args.reader.now) c.args.stage.now 0 (contents c.args.writer.now) in
    let at = point (rest_of c.lines.lines (remaining c.lines.reader)) c.lines.stage c.lines.count (contents c.lines.writer) in
    let left = remaining c.next_line.new.reader in
    let lines = c.next_line.new.self in
    let held = contents c.play_and_write.new.writer in
    let p = err_from_is_err_and c.from_residual-in_err-play_and_write.result c.from_residual-in_err-play_and_write.ensures.1 in
    let found = rw c.in-Found.is at c.in_ok-next_line.ensures.found in
    rw (p.1, p.2) (λ line e.
    let told = c.in_err-play_and_write.ensures.refused line e in
    let wrote = subst (λ (text : List ℕ). WritesRefused scene at.stage text at.held held) c.line.ensures.value told.1 in
    subst (λ (k : ℕ). IfSome from.rest (λ script. WritesText scene from.stage script (RefusedAt k) from.held held)) (sym told.0)
    (line_refused scene from at (rest_of lines left) held lines.line c.lines.invariant.told found wrote))

pub returns-in_err-play_and_write-clause-front : goal.returns-in_err-play_and_write-clause-front
returns-in_err-play_and_write-clause-front g c =
    let scene = g.S.Playable.scene in
    let remaining = g.R.Read.remaining in
    let contents = g.W.Write.contents in
    let from = point (remaining c.args.reader.now) c.args.stage.now 0 (contents c.args.writer.now) in
    let at = point (rest_of c.lines.lines (remaining c.lines.reader)) c.lines.stage c.lines.count (contents c.lines.writer) in
    let left = remaining c.next_line.new.reader in
    let lines = c.next_line.new.self in
    let held = contents c.play_and_write.new.writer in
    let found = rw c.in-Found.is at c.in_ok-next_line.ensures.found in
    let wrote = subst (λ (line : List ℕ). WritesLineFront scene at.stage line at.held held) c.line.ensures.value
    c.in_err-play_and_write.ensures.front in
    on_any_err c.from_residual-in_err-play_and_write.result
    (line_front scene g.met.S.Playable.goes_on from at left lines.pending lines.line c.lines.invariant.told found wrote)
