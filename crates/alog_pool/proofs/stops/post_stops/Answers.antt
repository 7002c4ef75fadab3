use Rattle.std.proofs.Common.{◌≡◌, subst, arith}
use Rattle.alog_pool.specs.Stops.{PutsStops}
use Rattle.alog_pool.proofs.Halting.{put_none, put_one, put_all, put_last}
use Rattle.alog_pool.proofs.stops.post_stops.Goals as goal

pub loop-posted-init : goal.loop-posted-init
loop-posted-init g c = (c.requires.ring, c.requires.hand, put_none _ c.requires.faithful)

pub post_stop-requires-clause-ring : goal.post_stop-requires-clause-ring
post_stop-requires-clause-ring g c = c.loop-posted.invariant.0

pub post_stop-requires-clause-faithful : goal.post_stop-requires-clause-faithful
post_stop-requires-clause-faithful g c = c.loop-posted.invariant.2.moved.made.faithful

pub returns-then-not-post_stop-clause-stops : goal.returns-then-not-post_stop-clause-stops
returns-then-not-post_stop-clause-stops g c =
    let did = c.if-not-post_stop.ensures.did in
    put_last {count = c.args.count} c.loop-posted.invariant.2 c.loop-posted-test.true did.0 did.1

pub loop-posted-preserved : goal.loop-posted-preserved
loop-posted-preserved g c =
    let did = c.if-not-post_stop.ensures.did in
    (c.if-not-post_stop.ensures.ring, c.if-not-post_stop.ensures.hand, put_one _ _ _ c.loop-posted._posted did.0 c.loop-posted.invariant.2 did.1)

pub returns-clause-ring : goal.returns-clause-ring
returns-clause-ring g c = c.loop-posted.invariant.0

pub returns-clause-stops : goal.returns-clause-stops
returns-clause-stops g c =
    let all : c.loop-posted._posted ≡ c.args.count = omega (arith, c.loop-posted.auto._posted-end, c.loop-posted-test.false) in
    subst (λ n. PutsStops c.args.pass.now.known c.loop-posted.pass.known n) all
    (put_all _ _ c.loop-posted._posted c.loop-posted.invariant.2)
