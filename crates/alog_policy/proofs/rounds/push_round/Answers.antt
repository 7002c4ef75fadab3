use Rattle.std.proofs.Common.{◌<◌, length, arith}
use Rattle.alog_core.specs.World.{round_of}
use Rattle.alog_policy.proofs.SharedMaking.{push_of, push_next, push_result, idle_is, round_begins_push}
use Rattle.alog_policy.proofs.rounds.push_round.Goals as goal

pub push_answer-requires : goal.push_answer-requires
push_answer-requires g c =
    let a = c.args.actor in
    let old = c.args.world.now in
    let now = c.loop-said.world in
    let new = c.step.new.self in
    let said = c.in-Ok-step.ensures in
    let lt : a < length old.rounds = omega (arith, c.is_reached.ensures.actors, c.requires.actor) in
    push_of a old now new lt said.cell said.stepped said.history c.args.item c.in-Ok-step.said c.loop-said.invariant said.said

pub returns-in-Some-clause-pushed : goal.returns-in-Some-clause-pushed
returns-in-Some-clause-pushed g c =
    let a = c.args.actor in
    let old = c.args.world.now in
    let now = c.loop-said.world in
    let new = c.step.new.self in
    let said = c.in-Ok-step.ensures in
    let lt : a < length old.rounds = omega (arith, c.is_reached.ensures.actors, c.requires.actor) in
    let next = push_next a old now new lt said.cell said.stepped said.history c.args.item c.in-Ok-step.said c.push_answer.result
    c.loop-said.invariant said.said c.push_answer.ensures in
    let stop = next.stops c.in-Some.answer c.in-Some.is (idle_is (round_of old a) c.requires.idle) in
    (push_result c.args.item c.in-Some.answer stop.1 stop.2 stop.3).0

pub returns-in-Some-clause-refused : goal.returns-in-Some-clause-refused
returns-in-Some-clause-refused g c =
    let a = c.args.actor in
    let old = c.args.world.now in
    let now = c.loop-said.world in
    let new = c.step.new.self in
    let said = c.in-Ok-step.ensures in
    let lt : a < length old.rounds = omega (arith, c.is_reached.ensures.actors, c.requires.actor) in
    let next = push_next a old now new lt said.cell said.stepped said.history c.args.item c.in-Ok-step.said c.push_answer.result
    c.loop-said.invariant said.said c.push_answer.ensures in
    let stop = next.stops c.in-Some.answer c.in-Some.is (idle_is (round_of old a) c.requires.idle) in
    (push_result c.args.item c.in-Some.answer stop.1 stop.2 stop.3).1

pub loop-said-preserved : goal.loop-said-preserved
loop-said-preserved g c =
    let a = c.args.actor in
    let old = c.args.world.now in
    let now = c.loop-said.world in
    let new = c.step.new.self in
    let said = c.in-Ok-step.ensures in
    let lt : a < length old.rounds = omega (arith, c.is_reached.ensures.actors, c.requires.actor) in
    let next = push_next a old now new lt said.cell said.stepped said.history c.args.item c.in-Ok-step.said c.push_answer.result
    c.loop-said.invariant said.said c.push_answer.ensures in
    (next.goes c.in_default-push_answer.is).0

pub loop-said-smaller : goal.loop-said-smaller
loop-said-smaller g c =
    let a = c.args.actor in
    let old = c.args.world.now in
    let now = c.loop-said.world in
    let new = c.step.new.self in
    let said = c.in-Ok-step.ensures in
    let lt : a < length old.rounds = omega (arith, c.is_reached.ensures.actors, c.requires.actor) in
    let next = push_next a old now new lt said.cell said.stepped said.history c.args.item c.in-Ok-step.said c.push_answer.result
    c.loop-said.invariant said.said c.push_answer.ensures in
    (next.goes c.in_default-push_answer.is).1

pub loop-said-init : goal.loop-said-init
loop-said-init g c =
    let a = c.args.actor in
    let old = c.args.world.now in
    let lt : a < length old.rounds = omega (arith, c.is_reached.ensures.actors, c.requires.actor) in
    round_begins_push old a lt c.args.item c.begin_push.new.self c.in-Ok.ensures.began c.in-Ok.ensures.history
