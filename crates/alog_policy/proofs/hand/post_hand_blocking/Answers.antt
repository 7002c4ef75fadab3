use Rattle.std.proofs.Common.{[], ◌∷◌, refl, sym, subst, ◌∙◌}
use Rattle.alog_core.specs.Queue.{Claim, Write}
use Rattle.alog_ring.specs.declared.push.PushError.{PushError}
use Rattle.alog_ring.proofs.SharedCalling.{value_there, of_value, for_value}
use Rattle.alog_policy.specs.Outlet.{PushRefused, Posts}
use Rattle.alog_policy.specs.Progress.{begun, lost}
use Rattle.alog_policy.specs.SwapPort.{IsThere, IsSwapFit, SwapPortDid}
use Rattle.alog_policy.specs.SwapTogether.{swap_together}
use Rattle.alog_policy.specs.declared.policy.Outcome.TheVariants.{Posted, Discarded}
use Rattle.alog_policy.specs.declared.policy.Policy.TheVariants.{Block}
use Rattle.alog_policy.specs.declared.policy.Why.TheVariants.{Spent}
use Rattle.alog_policy.proofs.Leading.{full_leads, push_busy_leads, spent_leads}
use Rattle.alog_policy.proofs.Way.{posting_begins, posting_goes_on, posting_is_lost, posting_wrote}
use Rattle.alog_policy.proofs.hand.post_hand_blocking.Goals as goal

pub loop-init : goal.loop-init
loop-init g c =
    let admits = g.L.Limit.admits in
    record {
      hand = refl;
      there = c.requires.there;
      posting = λ b is.
          posting_begins (SwapPortDid admits) (IsSwapFit admits) (swap_together admits) Block (g.W.Shows.shows b) (tt {0}) c.args.port.now
          (begun Block) refl c.requires.fit;
    }

pub push_hand-requires : goal.push_hand-requires
push_hand-requires g c =
    let there = value_there c.args.port.now.hand.now c.requires.there.0 in
    record { fit = (c.loop.invariant.posting there.0 there.1).ready; there = c.loop.invariant.there }

pub returns-in-Ok-clause-post : goal.returns-in-Ok-clause-post
returns-in-Ok-clause-post g c =
    let admits = g.L.Limit.admits in
    let t = c.in-Ok.ticket in
    let there = value_there c.args.port.now.hand.now c.requires.there.0 in
    let v = there.0 in
    let new = c.push_hand.new.port in
    let P : g.row.B.Denot → Type 0 = λ b. SwapPortDid admits c.loop.port (Claim t (g.W.Shows.shows b) ∷ Write t ∷ []) 0 0 new in
    for_value (λ b. Posts (SwapPortDid admits) Block (g.W.Shows.shows b) (tt {0}) c.args.port.now new (Posted t 0)) c.args.port.now.hand.now v
    there.1
    (posting_wrote (SwapPortDid admits) (IsSwapFit admits) (swap_together admits) Block (g.W.Shows.shows v) (tt {0}) c.args.port.now
    c.loop.port new (begun Block) (c.loop.invariant.posting v there.1) t refl
    (of_value P c.loop.port.hand.now v (c.loop.invariant.hand ∙ there.1) c.in-Ok.ensures.pushed))

pub loop-preserved-in-Err-Full : goal.loop-preserved-in-Err-Full
loop-preserved-in-Err-Full g c =
    let admits = g.L.Limit.admits in
    let new = c.push_hand.new.port in
    let P : PushError (Unit {0}) → Type 0 = λ e. PushRefused (SwapPortDid admits) (IsSwapFit admits) c.loop.port (tt {0}) e new in
    let refused = subst P c.in-Err-Full.field-0-is c.in-Err-Full.ensures.refused in
    let left = c.in-Err-Full.ensures.left in
    record {
      hand = left ∙ c.loop.invariant.hand;
      there = subst (λ r. IsThere (admits r.now.ring.limit) new.hand.now) (sym refused.1.0.0.ring)
          (subst (λ h. IsThere (admits c.loop.port.ring.now.ring.limit) h) (sym left) c.loop.invariant.there);
      posting = λ b is.
          let now = c.loop.invariant.posting b is in
          let d = refused.1.0.0 in
          posting_goes_on (SwapPortDid admits) (IsSwapFit admits) (swap_together admits) Block (g.W.Shows.shows b) (tt {0}) c.args.port.now
          c.loop.port _ (begun Block) now (begun Block)
          (full_leads (SwapPortDid admits) (IsSwapFit admits) (g.W.Shows.shows b) (tt {0}) (begun Block) c.loop.port _ now.kept _
          c.in-Err-Full.next refl refl (
            (
              record {
                ring = d.ring;
                book = d.book;
                pass_lent = d.pass_lent;
                seat_lent = d.seat_lent;
                hand_lent = d.hand_lent;
                spare_lent = d.spare_lent;
                pace_lent = d.pace_lent;
                pass = d.pass;
                seat = d.seat;
              },
              refused.1.0.1,
            ),
            refused.1.1,
          ));
    }

pub loop-preserved : goal.loop-preserved
loop-preserved g c =
    let admits = g.L.Limit.admits in
    let new = c.push_hand.new.port in
    let P : PushError (Unit {0}) → Type 0 = λ e. PushRefused (SwapPortDid admits) (IsSwapFit admits) c.loop.port (tt {0}) e new in
    let refused = subst P c.in-Err-Busy.field-0-is c.in-Err-Busy.ensures.refused in
    let left = c.in-Err-Busy.ensures.left in
    record {
      hand = left ∙ c.loop.invariant.hand;
      there = subst (λ r. IsThere (admits r.now.ring.limit) new.hand.now) (sym refused.1.0.0.ring)
          (subst (λ h. IsThere (admits c.loop.port.ring.now.ring.limit) h) (sym left) c.loop.invariant.there);
      posting = λ b is.
          let now = c.loop.invariant.posting b is in
          posting_goes_on (SwapPortDid admits) (IsSwapFit admits) (swap_together admits) Block (g.W.Shows.shows b) (tt {0}) c.args.port.now
          c.loop.port new (begun Block) now (begun Block)
          (push_busy_leads (SwapPortDid admits) (IsSwapFit admits) (g.W.Shows.shows b) (tt {0}) (begun Block) c.loop.port new now.kept _
          c.in-Err-Busy.field-0-1 refl refl refused.1);
    }

pub returns-in-Err-Spent-clause-post : goal.returns-in-Err-Spent-clause-post
returns-in-Err-Spent-clause-post g c =
    let admits = g.L.Limit.admits in
    let new = c.push_hand.new.port in
    let there = value_there c.args.port.now.hand.now c.requires.there.0 in
    let v = there.0 in
    let P : PushError (Unit {0}) → Type 0 = λ e. PushRefused (SwapPortDid admits) (IsSwapFit admits) c.loop.port (tt {0}) e new in
    let refused = subst P c.in-Err-Spent.field-0-is c.in-Err-Spent.ensures.refused in
    let now = c.loop.invariant.posting v there.1 in
    let l = lost (begun Block) Spent in
    for_value (λ b. Posts (SwapPortDid admits) Block (g.W.Shows.shows b) (tt {0}) c.args.port.now c.count_discarded.new.self
    (Discarded tt Spent 0)) c.args.port.now.hand.now v there.1
    (posting_is_lost (SwapPortDid admits) (IsSwapFit admits) (swap_together admits) Block (g.W.Shows.shows v) (tt {0}) c.args.port.now
    c.loop.port new (begun Block) now l c.count_discarded.new.self
    (spent_leads (SwapPortDid admits) (IsSwapFit admits) (g.W.Shows.shows v) (tt {0}) (begun Block) c.loop.port new now.kept l refl refl
    refused.1) c.count_discarded.ensures.counted)
