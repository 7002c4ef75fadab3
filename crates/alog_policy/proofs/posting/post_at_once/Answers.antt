use Rattle.std.proofs.Common.{◌≡◌, ◌≢◌, Option, Result, refl, sym, ap, subst, ◌∙◌}
use Rattle.std.proofs.Common.{[], ◌∷◌}
use Rattle.std.specs.Prelude.{IsSome, IfSome}
use Rattle.alog_core.specs.Queue.{Claim, Write}
use Rattle.alog_ring.proofs.SharedCalling.{value_there, of_value, for_value}
use Rattle.alog_policy.specs.Outlet.{Leads, PostsNow}
use Rattle.alog_policy.specs.Progress.{begun, without_waiting}
use Rattle.alog_policy.specs.declared.policy.Policy.{Policy}
use Rattle.alog_policy.specs.declared.policy.Policy.TheVariants.{Block}
use Rattle.alog_policy.specs.declared.policy.Outcome.TheVariants.{Posted, Discarded}
use Rattle.alog_policy.specs.declared.progress.Progress.{Progress}
use Rattle.alog_policy.specs.declared.progress.Lost.{Lost}
use Rattle.alog_policy.proofs.Way.{posting_begins, posting_goes_on, posting_is_lost, posting_wrote, never_block, leads_told, stays_admitted, nothing_written}
use Rattle.alog_policy.proofs.posting.post_at_once.Goals as goal
use Rattle.alog_policy.proofs.posting.post_at_once.Goals.{in-Push+in-Err, in-Pop}

pub returns-in-Ok-clause-post : goal.returns-in-Ok-clause-post
returns-in-Ok-clause-post g c =
    let o = g.O.Outlet in
    let there = value_there c.args.hand.now c.requires.there in
    let v = there.0 in
    let now = c.loop-progress.outlet in
    let before = c.loop-progress.progress in
    let posting = c.loop-progress.invariant.posting v there.1 in
    let t = c.in-Ok.ticket in
    let P : g.row.O-Value.Denot → Type 0 = λ w. o.did now (Claim t (o.shows w) ∷ Write t ∷ []) 0 0 c.push.new.outlet in
    for_value
    (λ w. PostsNow o.did c.args.policy (o.shows w) (tt {0}) c.args.outlet.now c.push.new.outlet (Posted t before.overran))
    c.args.hand.now v there.1
    (posting_wrote o.did o.is_fit g.met.O.Outlet.together (without_waiting c.args.policy) (o.shows v) (tt {0}) c.args.outlet.now now
    c.push.new.outlet before posting t c.in-Push.is
    (of_value P c.loop-progress.hand v (c.loop-progress.invariant.hand ∙ there.1) c.in-Ok.ensures.pushed))

pub loop-progress-smaller : goal.loop-progress-smaller
loop-progress-smaller g c =
    let o = g.O.Outlet in
    let there = value_there c.args.hand.now c.requires.there in
    let v = there.0 in
    let now = c.loop-progress.outlet in
    let before = c.loop-progress.progress in
    let posting = c.loop-progress.invariant.posting v there.1 in
    let next : Leads o.did o.is_fit (o.shows v) (tt {0}) before now c.match-progress.outlet c.match-progress.next =
    elim c.match-progress.branch [
      | in-Push+in-Err w ↦
          leads_told w.outlet-is w.next-is (w.in-Err.ensures.refused (o.shows v))
      | in-Pop w ↦
          leads_told w.outlet-is w.next-is (w.make_room-next.ensures (o.shows v))
    ]
    in
    let led = subst (λ (r : Result Progress Lost). Leads o.did o.is_fit (o.shows v) (tt {0}) before now c.match-progress.outlet r)
    c.in-Ok-next.is next in
    led.less (subst (λ (p : Policy). p ≢ Block) (sym posting.policy) (never_block c.args.policy))

pub loop-progress-preserved : goal.loop-progress-preserved
loop-progress-preserved g c =
    record {
      hand = elim c.match-progress.branch [
        | in-Push+in-Err w ↦ w.hand-is ∙ (w.in-Err.ensures.left ∙ c.loop-progress.invariant.hand)
        | in-Pop w ↦ w.hand-is ∙ c.loop-progress.invariant.hand
      ];
      posting = λ v is.
          let o = g.O.Outlet in
          let now = c.loop-progress.outlet in
          let before = c.loop-progress.progress in
          let next : Leads o.did o.is_fit (o.shows v) (tt {0}) before now c.match-progress.outlet c.match-progress.next =
          elim c.match-progress.branch [
            | in-Push+in-Err w ↦
                leads_told w.outlet-is w.next-is (w.in-Err.ensures.refused (o.shows v))
            | in-Pop w ↦
                leads_told w.outlet-is w.next-is (w.make_room-next.ensures (o.shows v))
          ]
          in
          let led = subst (λ (r : Result Progress Lost). Leads o.did o.is_fit (o.shows v) (tt {0}) before now c.match-progress.outlet r)
          c.in-Ok-next.is next in
          posting_goes_on o.did o.is_fit g.met.O.Outlet.together (without_waiting c.args.policy) (o.shows v) (tt {0}) c.args.outlet.now now
          c.match-progress.outlet before (c.loop-progress.invariant.posting v is) c.in-Ok-next.further led;
    }

pub returns-in-Err-next-clause-post : goal.returns-in-Err-next-clause-post
returns-in-Err-next-clause-post g c =
    let o = g.O.Outlet in
    let there = value_there c.args.hand.now c.requires.there in
    let v = there.0 in
    let now = c.loop-progress.outlet in
    let before = c.loop-progress.progress in
    let posting = c.loop-progress.invariant.posting v there.1 in
    let next : Leads o.did o.is_fit (o.shows v) (tt {0}) before now c.match-progress.outlet c.match-progress.next =
    elim c.match-progress.branch [
      | in-Push+in-Err w ↦
          leads_told w.outlet-is w.next-is (w.in-Err.ensures.refused (o.shows v))
      | in-Pop w ↦
          leads_told w.outlet-is w.next-is (w.make_room-next.ensures (o.shows v))
    ]
    in
    let led = subst (λ (r : Result Progress Lost). Leads o.did o.is_fit (o.shows v) (tt {0}) before now c.match-progress.outlet r)
    c.in-Err-next.is next in
    let l = c.in-Err-next.field-0 in
    for_value
    (λ w. PostsNow o.did c.args.policy (o.shows w) (tt {0}) c.args.outlet.now c.count_discarded.new.self (Discarded tt l.why l.overran))
    c.args.hand.now v there.1
    (posting_is_lost o.did o.is_fit g.met.O.Outlet.together (without_waiting c.args.policy) (o.shows v) (tt {0}) c.args.outlet.now now
    c.match-progress.outlet before posting l c.count_discarded.new.self led c.count_discarded.ensures.counted)

pub returns-in-Err-next-clause-left : goal.returns-in-Err-next-clause-left
returns-in-Err-next-clause-left g c =
    let same : c.match-progress.hand ≡ c.args.hand.now =
    elim c.match-progress.branch [
      | in-Push+in-Err w ↦ w.hand-is ∙ (w.in-Err.ensures.left ∙ c.loop-progress.invariant.hand)
      | in-Pop w ↦ w.hand-is ∙ c.loop-progress.invariant.hand
    ]
    in same

pub count_discarded-requires : goal.count_discarded-requires
count_discarded-requires g c =
    let o = g.O.Outlet in
    let there = value_there c.args.hand.now c.requires.there in
    let v = there.0 in
    let now = c.loop-progress.outlet in
    let before = c.loop-progress.progress in
    let posting = c.loop-progress.invariant.posting v there.1 in
    let next : Leads o.did o.is_fit (o.shows v) (tt {0}) before now c.match-progress.outlet c.match-progress.next =
    elim c.match-progress.branch [
      | in-Push+in-Err w ↦
          leads_told w.outlet-is w.next-is (w.in-Err.ensures.refused (o.shows v))
      | in-Pop w ↦
          leads_told w.outlet-is w.next-is (w.make_room-next.ensures (o.shows v))
    ]
    in
    next.ready

pub push-requires : goal.push-requires
push-requires g c =
    let o = g.O.Outlet in
    let there = value_there c.args.hand.now c.requires.there in
    let v = there.0 in
    let now = c.loop-progress.outlet in
    let before = c.loop-progress.progress in
    let posting = c.loop-progress.invariant.posting v there.1 in
    record {
      fit = posting.ready;
      there = let P : Option _ → Type 0 = λ h. IsSome h in subst P (sym c.loop-progress.invariant.hand) c.requires.there;
      admitted = let P : Option _ → Type 0 = λ h. IfSome h (o.admits now) in
          subst P (sym (c.loop-progress.invariant.hand ∙ there.1))
          (stays_admitted o.did o.admits g.met.O.Outlet.still c.args.outlet.now
          (nothing_written c.loop-progress.progress (o.shows v) posting.part posting.events posting.fresh posting.way) posting.done
          (of_value (o.admits c.args.outlet.now) c.args.hand.now v there.1 c.requires.admitted));
      side = c.in-Push.is;
      kept = posting.kept;
    }

pub make_room-next-requires : goal.make_room-next-requires
make_room-next-requires g c =
    let there = value_there c.args.hand.now c.requires.there in
    let posting = c.loop-progress.invariant.posting there.0 there.1 in
    record { fit = posting.ready; side = c.in-Pop.is; kept = posting.kept }

pub loop-progress-init : goal.loop-progress-init
loop-progress-init g c =
    let o = g.O.Outlet in
    record {
      hand = refl;
      posting = λ v is.
          posting_begins o.did o.is_fit g.met.O.Outlet.together (without_waiting c.args.policy) (o.shows v) (tt {0})
          c.args.outlet.now c.new-progress.result (c.new-progress.ensures ∙ ap begun c.without_waiting.ensures) c.requires.fit;
    }
