use Rattle.std.proofs.Common.{◌≡◌, ℕ, ◌+◌, ◌%◌, ◌^◌, false, true, ◌++◌, ◌∷◌, [], List, refl, sym, ap, subst, ◌∙◌, arith}
use Rattle.std.specs.List.{AllByRecursion}
use Rattle.alog_core.proofs.SharedCalls.{all_given, given_front}
use Rattle.alog_core.specs.Accounts.{weigh}
use Rattle.alog_hosted.proofs.Disbanding.{counts_stop, counts_work, dues_more}
use Rattle.alog_hosted.proofs.Tries.{still_alone}
use Rattle.alog_hosted.proofs.disband.hand_out.Goals.{then-not-is_stop, else-not-is_stop}
use Rattle.alog_hosted.proofs.disband.hand_out.Goals as goal
use Rattle.alog_hosted.specs.Closing.{items_of}
use Rattle.alog_msg.specs.Block.{BlockFields}
use Rattle.alog_msg.specs.declared.item.Item.{Item}
use Rattle.alog_pool.proofs.SharedDeeds.{have_none, have_then}
use Rattle.alog_pool.proofs.SharedRows.{place_lanes}
use Rattle.alog_pool.proofs.SharedSharing.{all_next}
use Rattle.alog_pool.specs.Accounts.{of_work}
use Rattle.alog_pool.specs.Deeds.{Due, HaveMade, all_dues, dues_of}
use Rattle.alog_pool.specs.SinkSeat.{Place}
use Rattle.alog_pool.specs.Working.{AreLimited}
use Rattle.alog_registry.specs.Limit.{KeepsTo}

pub loop-ticket-init : goal.loop-ticket-init
loop-ticket-init g c = record {
  turns = have_none 0 c.args.places.now.items;
  places = refl;
  line = c.requires.line;
  handled = omega (arith, c.ranges.taken.fits);
}

pub make_all-requires-clause-lanes : goal.make_all-requires-clause-lanes
make_all-requires-clause-lanes g c =
    place_lanes c.args.places.now.items c.loop-ticket.places.items c.loop-ticket.invariant.places ∙ c.requires.lanes

pub make_all-requires-clause-alone : goal.make_all-requires-clause-alone
make_all-requires-clause-alone g c =
    still_alone c.args.places.now.items c.loop-ticket.places.items c.loop-ticket.invariant.places c.requires.alone

pub make_all-requires-clause-limits : goal.make_all-requires-clause-limits
make_all-requires-clause-limits g c =
    let P : Type 0 = ℕ × BlockFields in
    let limit = c.requires.limits.0 in
    let yielded = c.loop-ticket.yielded in
    let front = given_front c.into_iter-ticket-iterator.result yielded c.loop-ticket.ticket-iterator c.loop-ticket.yielded_by in
    let all = sym c.into_iter-ticket-iterator.ensures.into_iter_gives.0 ∙ front ∙ ap (λ (l : List P). yielded ++ l) c.in-Some.ensures.steps.0 in
    let keeps = all_next (λ (p : P). KeepsTo limit p.1.item) yielded (c.in-Some.ticket, c.in-Some.block) _
    (subst (λ (l : List P). AllByRecursion (λ (p : P). KeepsTo limit p.1.item) l) all c.requires.limits.2) in (
      limit,
      subst (λ (ps : List (Place g.row.S.Denot)). AreLimited limit ps) (sym c.loop-ticket.invariant.places) c.requires.limits.1,
      subst (λ (x : Item). KeepsTo limit x) (sym c.item-item.ensures) keeps,
    )

pub make_all-requires-clause-line : goal.make_all-requires-clause-line
make_all-requires-clause-line g c = c.loop-ticket.invariant.line

pub loop-ticket-preserved : goal.loop-ticket-preserved
loop-ticket-preserved g c =
    let old = c.args.places.now.items in
    let mid = c.loop-ticket.places.items in
    let new = c.make_all.new.places.items in
    let yielded = c.loop-ticket.yielded in
    let t = c.in-Some.ticket in
    let b = c.in-Some.block in
    let loggers = c.args.loggers.now in
    let made = subst (λ (x : Item). HaveMade 0 mid new (dues_of loggers t x)) c.item-item.ensures c.make_all.ensures.turns in
    let M : ℕ → Type 0 = λ n. n ≡ (c.args.taken + weigh of_work (items_of (yielded ++ (t, b) ∷ []))) % 2 ^ 64 in
    record {
      turns = subst (λ (l : List Due). HaveMade 0 old new l) (sym (dues_more loggers yielded t b))
          (have_then 0 old mid new (all_dues loggers (items_of yielded)) (dues_of loggers t b.item) c.loop-ticket.invariant.turns made);
      places = c.make_all.ensures.places ∙ c.loop-ticket.invariant.places;
      line = c.make_all.ensures.line;
      handled = elim c.if-not-is_stop.branch [
        | then-not-is_stop w ↦ subst M (sym w.handled-is)
            (counts_work c.args.taken c.loop-ticket.handled yielded t b c.loop-ticket.invariant.handled
            (λ stop. let yes : c.is_stop.result ≡ true = c.is_stop.ensures.1 (c.item-item.ensures ∙ stop) in
            let no : c.is_stop.result ≡ false = w.if-not-is_stop.true in let e : false ≡ true = sym no ∙ yes in absurd (cc e)))
        | else-not-is_stop w ↦ subst M (sym w.handled-is)
            (counts_stop c.args.taken c.loop-ticket.handled yielded t b c.loop-ticket.invariant.handled
            (sym c.item-item.ensures ∙ c.is_stop.ensures.0 w.if-not-is_stop.false))
      ];
    }

pub returns-clause-turns : goal.returns-clause-turns
returns-clause-turns g c =
    let all = all_given c.into_iter-ticket-iterator.result c.loop-ticket.yielded c.loop-ticket.ticket-iterator c.loop-ticket.yielded_by
    c.in-None.ensures.steps.0 in
    subst (λ (l : List (ℕ × BlockFields)). HaveMade 0 c.args.places.now.items c.loop-ticket.places.items (all_dues c.args.loggers.now (items_of l)))
    (sym all ∙ c.into_iter-ticket-iterator.ensures.into_iter_gives.0) c.loop-ticket.invariant.turns

pub returns-clause-handled : goal.returns-clause-handled
returns-clause-handled g c =
    let all = all_given c.into_iter-ticket-iterator.result c.loop-ticket.yielded c.loop-ticket.ticket-iterator c.loop-ticket.yielded_by
    c.in-None.ensures.steps.0 in
    subst (λ (l : List (ℕ × BlockFields)). c.loop-ticket.handled ≡ (c.args.taken + weigh of_work (items_of l)) % 2 ^ 64)
    (sym all ∙ c.into_iter-ticket-iterator.ensures.into_iter_gives.0) c.loop-ticket.invariant.handled

pub returns-clause-places : goal.returns-clause-places
returns-clause-places g c = c.loop-ticket.invariant.places

pub returns-clause-line : goal.returns-clause-line
returns-clause-line g c = c.loop-ticket.invariant.line
