use Rattle.std.proofs.Common.{◌++◌, List, refl, sym, ap, subst, ◌∙◌}
use Rattle.std.specs.List.{AllByRecursion}
use Rattle.std.specs.Prelude.{drop}
use Rattle.alog_core.proofs.SharedCalls.{all_given, given_front}
use Rattle.alog_hosted.proofs.Disbanding.{owed_more}
use Rattle.alog_hosted.proofs.Tries.{still_alone}
use Rattle.alog_hosted.proofs.disband.finish_all.Goals as goal
use Rattle.alog_hosted.specs.Closing.{AreAtLimit, owed_in}
use Rattle.alog_hosted.specs.declared.blank.Half.{Half}
use Rattle.alog_msg.specs.declared.item.Item.{Item}
use Rattle.alog_pool.proofs.SharedDeeds.{have_none, have_then}
use Rattle.alog_pool.proofs.SharedRows.{place_lanes}
use Rattle.alog_pool.proofs.SharedSharing.{all_next}
use Rattle.alog_pool.specs.Deeds.{Due, HaveMade, dues_of}
use Rattle.alog_pool.specs.SinkSeat.{Place}
use Rattle.alog_pool.specs.Working.{AreLimited}
use Rattle.alog_registry.specs.Limit.{KeepsTo}

pub loop-half-init : goal.loop-half-init
loop-half-init g c = record { turns = have_none 0 c.args.places.now.items; places = refl; line = c.requires.line }

pub make_all-requires-clause-lanes : goal.make_all-requires-clause-lanes
make_all-requires-clause-lanes g c =
    place_lanes c.args.places.now.items c.loop-half.places.items c.loop-half.invariant.places ∙ c.requires.lanes

pub make_all-requires-clause-alone : goal.make_all-requires-clause-alone
make_all-requires-clause-alone g c =
    still_alone c.args.places.now.items c.loop-half.places.items c.loop-half.invariant.places c.requires.alone

pub make_all-requires-clause-limits : goal.make_all-requires-clause-limits
make_all-requires-clause-limits g c =
    let limit = c.requires.limits.0 in
    let yielded = c.loop-half.yielded in
    let front = given_front c.into_iter-half-iterator.result yielded c.loop-half.half-iterator c.loop-half.yielded_by in
    let all = sym c.into_iter-half-iterator.ensures.into_iter_gives.0 ∙ front ∙ ap (λ (l : List Half). yielded ++ l) c.in-Some.ensures.steps.0 in
    let keeps = all_next (AreAtLimit limit) yielded c.in-Some.half _
    (subst (λ (l : List Half). AllByRecursion (AreAtLimit limit) l) all c.requires.limits.2) in (
      limit,
      subst (λ (ps : List (Place g.row.S.Denot)). AreLimited limit ps) (sym c.loop-half.invariant.places) c.requires.limits.1,
      subst (λ (x : Item). KeepsTo limit x) (sym c.item.ensures) keeps,
    )

pub make_all-requires-clause-line : goal.make_all-requires-clause-line
make_all-requires-clause-line g c = c.loop-half.invariant.line

pub loop-half-preserved : goal.loop-half-preserved
loop-half-preserved g c =
    let old = c.args.places.now.items in
    let mid = c.loop-half.places.items in
    let new = c.make_all.new.places.items in
    let half = c.in-Some.half in
    let loggers = c.args.loggers.now in
    let rest : List Due = drop half.owed.place (dues_of loggers half.owed.ticket half.block.item) in
    let made = subst (λ (x : Item). HaveMade 0 mid new (drop half.owed.place (dues_of loggers half.owed.ticket x))) c.item.ensures
    c.make_all.ensures.turns in
    record {
      turns = subst (λ (l : List Due). HaveMade 0 old new l) (sym (owed_more loggers c.loop-half.yielded half))
          (have_then 0 old mid new (owed_in loggers c.loop-half.yielded) rest c.loop-half.invariant.turns made);
      places = c.make_all.ensures.places ∙ c.loop-half.invariant.places;
      line = c.make_all.ensures.line;
    }

pub returns-clause-turns : goal.returns-clause-turns
returns-clause-turns g c =
    let all = all_given c.into_iter-half-iterator.result c.loop-half.yielded c.loop-half.half-iterator c.loop-half.yielded_by
    c.in-None.ensures.steps.0 in
    subst (λ (l : List Half). HaveMade 0 c.args.places.now.items c.loop-half.places.items (owed_in c.args.loggers.now l))
    (sym all ∙ c.into_iter-half-iterator.ensures.into_iter_gives.0) c.loop-half.invariant.turns

pub returns-clause-places : goal.returns-clause-places
returns-clause-places g c = c.loop-half.invariant.places

pub returns-clause-line : goal.returns-clause-line
returns-clause-line g c = c.loop-half.invariant.line
