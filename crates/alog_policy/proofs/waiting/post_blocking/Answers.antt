use Rattle.std.proofs.Common.{Option, [], ◌∷◌, refl, sym, subst, ◌∙◌}
use Rattle.std.specs.Prelude.{IsSome, IfSome}
use Rattle.alog_core.specs.Queue.{Claim, Write}
use Rattle.alog_ring.specs.declared.push.PushError.{PushError}
use Rattle.alog_ring.proofs.SharedCalling.{value_there, of_value, for_value}
use Rattle.alog_policy.specs.Outlet.{PushRefused, Posts}
use Rattle.alog_policy.specs.Progress.{begun, lost}
use Rattle.alog_policy.specs.declared.policy.Outcome.TheVariants.{Posted, Discarded}
use Rattle.alog_policy.specs.declared.policy.Policy.TheVariants.{Block}
use Rattle.alog_policy.specs.declared.policy.Why.TheVariants.{Spent}
use Rattle.alog_policy.proofs.Leading.{full_leads, push_busy_leads, spent_leads}
use Rattle.alog_policy.proofs.Way.{posting_begins, posting_goes_on, posting_is_lost, posting_wrote, stays_admitted, nothing_written}
use Rattle.alog_policy.proofs.waiting.post_blocking.Goals as goal

pub loop-init : goal.loop-init
loop-init g c =
    let o = g.O.Outlet in
    record {
      hand = refl;
      posting = λ v is.
          posting_begins o.did o.is_fit g.met.O.Outlet.together Block (o.shows v) (tt {0}) c.args.outlet.now (begun Block) refl
          c.requires.fit;
    }

pub push_from-requires : goal.push_from-requires
push_from-requires g c =
    let o = g.O.Outlet in
    let there = value_there c.args.hand.now c.requires.there in
    let v = there.0 in
    let now = c.loop.invariant.posting v there.1 in
    record {
      fit = now.ready;
      there = let P : Option _ → Type 0 = λ h. IsSome h in subst P (sym c.loop.invariant.hand) c.requires.there;
      admitted = let P : Option _ → Type 0 = λ h. IfSome h (o.admits c.loop.outlet) in
          subst P (sym (c.loop.invariant.hand ∙ there.1))
          (stays_admitted o.did o.admits g.met.O.Outlet.still c.args.outlet.now
          (nothing_written (begun Block) (o.shows v) now.part now.events now.fresh now.way) now.done
          (of_value (o.admits c.args.outlet.now) c.args.hand.now v there.1 c.requires.admitted));
    }

pub returns-in-Ok-clause-post : goal.returns-in-Ok-clause-post
returns-in-Ok-clause-post g c =
    let o = g.O.Outlet in
    let t = c.in-Ok.ticket in
    let there = value_there c.args.hand.now c.requires.there in
    let v = there.0 in
    let P : g.row.O-Value.Denot → Type 0 = λ w. o.did c.loop.outlet (Claim t (o.shows w) ∷ Write t ∷ []) 0 0 c.push_from.new.self in
    for_value (λ w. Posts o.did Block (o.shows w) (tt {0}) c.args.outlet.now c.push_from.new.self (Posted t 0)) c.args.hand.now v there.1
    (posting_wrote o.did o.is_fit g.met.O.Outlet.together Block (o.shows v) (tt {0}) c.args.outlet.now c.loop.outlet
    c.push_from.new.self (begun Block) (c.loop.invariant.posting v there.1) t refl
    (of_value P c.loop.hand v (c.loop.invariant.hand ∙ there.1) c.in-Ok.ensures.pushed))

pub loop-preserved-in-Err-Full : goal.loop-preserved-in-Err-Full
loop-preserved-in-Err-Full g c =
    let o = g.O.Outlet in
    let P : PushError (Unit {0}) → Type 0 = λ e. PushRefused o.did o.is_fit c.loop.outlet (tt {0}) e c.push_from.new.self in
    let refused = subst P c.in-Err-Full.field-0-is c.in-Err-Full.ensures.refused in
    record {
      hand = c.in-Err-Full.ensures.left ∙ c.loop.invariant.hand;
      posting = λ v is.
          let now = c.loop.invariant.posting v is in
          posting_goes_on o.did o.is_fit g.met.O.Outlet.together Block (o.shows v) (tt {0}) c.args.outlet.now c.loop.outlet
          c.push_from.new.self (begun Block) now (begun Block)
          (full_leads o.did o.is_fit (o.shows v) (tt {0}) (begun Block) c.loop.outlet c.push_from.new.self now.kept _
          c.in-Err-Full.next refl refl refused.1);
    }

pub loop-preserved : goal.loop-preserved
loop-preserved g c =
    let o = g.O.Outlet in
    let P : PushError (Unit {0}) → Type 0 = λ e. PushRefused o.did o.is_fit c.loop.outlet (tt {0}) e c.push_from.new.self in
    let refused = subst P c.in-Err-Busy.field-0-is c.in-Err-Busy.ensures.refused in
    record {
      hand = c.in-Err-Busy.ensures.left ∙ c.loop.invariant.hand;
      posting = λ v is.
          let now = c.loop.invariant.posting v is in
          posting_goes_on o.did o.is_fit g.met.O.Outlet.together Block (o.shows v) (tt {0}) c.args.outlet.now c.loop.outlet
          c.push_from.new.self (begun Block) now (begun Block)
          (push_busy_leads o.did o.is_fit (o.shows v) (tt {0}) (begun Block) c.loop.outlet c.push_from.new.self now.kept _
          c.in-Err-Busy.field-0-1 refl refl refused.1);
    }

pub returns-in-Err-Spent-clause-post : goal.returns-in-Err-Spent-clause-post
returns-in-Err-Spent-clause-post g c =
    let o = g.O.Outlet in
    let there = value_there c.args.hand.now c.requires.there in
    let v = there.0 in
    let P : PushError (Unit {0}) → Type 0 = λ e. PushRefused o.did o.is_fit c.loop.outlet (tt {0}) e c.push_from.new.self in
    let refused = subst P c.in-Err-Spent.field-0-is c.in-Err-Spent.ensures.refused in
    let now = c.loop.invariant.posting v there.1 in
    let l = lost (begun Block) Spent in
    for_value (λ w. Posts o.did Block (o.shows w) (tt {0}) c.args.outlet.now c.count_discarded.new.self (Discarded tt Spent 0)) c.args.hand.now v
    there.1
    (posting_is_lost o.did o.is_fit g.met.O.Outlet.together Block (o.shows v) (tt {0}) c.args.outlet.now c.loop.outlet
    c.push_from.new.self (begun Block) now l c.count_discarded.new.self
    (spent_leads o.did o.is_fit (o.shows v) (tt {0}) (begun Block) c.loop.outlet c.push_from.new.self now.kept l refl refl refused.1)
    c.count_discarded.ensures.counted)
