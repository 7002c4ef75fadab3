use Rattle.std.proofs.Common.{◌<◌, length, drop, length-drop, refl, arith}
use Rattle.std.specs.String.{string_bytes}
use Rattle.std.proofs.lemmas.List.{take_rest}
use Rattle.bstr.proofs.lemmas.PieceLemmas.{piece-bounds}
use Rattle.alog_lines.specs.Building.{piece_built}
use Rattle.alog_lines.proofs.BuildLemmas.{at_end, goes_on, stops}
use Rattle.alog_lines.proofs.build.build.Goals as goal

pub loop-built-smaller : goal.loop-built-smaller
loop-built-smaller c =
    let bytes = c.args.bytes.now in
    let taken = c.loop-built.built.taken in
    let some : 0 < length (drop taken bytes) = omega (arith, c.loop-built-test.true, length-drop taken bytes) in
    let bounds = piece-bounds (drop taken bytes) some in
    let after = (rw (take_rest bytes taken) at (c.if-not-adds.ensures.added refl)).2 in
    omega (arith, bounds.0, after, c.loop-built-test.true)

pub loop-built-preserved : goal.loop-built-preserved
loop-built-preserved c =
    let l = c.loop-built in
    let added = rw (take_rest c.args.bytes.now l.built.taken) at (c.if-not-adds.ensures.added refl) in
    record {
      walks = goes_on c.args.limit c.args.bytes.now l.built.taken (piece_built (string_bytes l.text) l.built) l.invariant.walks
          c.requires.least.0 c.loop-built-test.true _ _ added;
      room = omega (arith, l.invariant.room, c.if-not-adds.ensures.room);
    }

pub returns-after-loop-built-clause-builds : goal.returns-after-loop-built-clause-builds
returns-after-loop-built-clause-builds c =
    let l = c.loop-built in
    at_end c.args.limit c.args.bytes.now l.built.taken (piece_built (string_bytes l.text) l.built) l.invariant.walks c.loop-built-test.false

pub returns-then-not-adds-clause-builds : goal.returns-then-not-adds-clause-builds
returns-then-not-adds-clause-builds c =
    let l = c.loop-built in
    let full = rw (take_rest c.args.bytes.now l.built.taken) at (c.if-not-adds.ensures.full (λ e. absurd (cc e))) in
    rw (full.1, full.2) (stops c.args.limit c.args.bytes.now l.built.taken (piece_built (string_bytes l.text) l.built) l.invariant.walks
    c.requires.least.0 c.loop-built-test.true full.0)
