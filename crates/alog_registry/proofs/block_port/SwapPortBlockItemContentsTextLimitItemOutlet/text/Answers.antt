use Rattle.std.proofs.Common.{arith, inl, refl, subst, sym, Option}
use Rattle.alog_msg.specs.Block.{BlockFields}
use Rattle.alog_policy.specs.SwapPort.{IsThere}
use Rattle.alog_registry.specs.Limit.{HoldsTo}
use Rattle.alog_registry.proofs.BlockPosts.{limit_above}
use Rattle.alog_registry.proofs.block_port.SwapPortBlockItemContentsTextLimitItemOutlet.text.Goals as goal

-- a text of at most the text limit is not too long for the block
pub write_within-requires-clause-text : goal.write_within-requires-clause-text
write_within-requires-clause-text c =
    let limit = c.args.self.now.ring.now.ring.limit in
    let P : Option BlockFields → Type 0 = λ h. IsThere (HoldsTo limit) h in
    let holds = (subst P (sym c.in-Some.ensures.value) c.requires.ready.1).1 in
    let above = limit_above limit.most c.args.text_limit c.requires.admitted in
    omega (arith, holds.0, above, c.if-given-text_limit.false)

pub returns-clause-fit : goal.returns-clause-fit
returns-clause-fit c =
    let limit = c.args.self.now.ring.now.ring.limit in
    let P : Option BlockFields → Type 0 = λ h. IsThere (HoldsTo limit) h in
    let holds = (subst P (sym c.in-Some.ensures.value) c.requires.ready.1).1 in
    let above = limit_above limit.most c.args.text_limit c.requires.admitted in
    let written = subst (λ b. HoldsTo limit b) (sym c.write_within.ensures) (holds.0, omega (arith, above, c.if-given-text_limit.false)) in (
      (c.requires.ready.0, (refl, written)),
      record {
        ring = refl;
        book = refl;
        pass_lent = refl;
        seat_lent = refl;
        hand_lent = refl;
        spare_lent = refl;
        pace_lent = refl;
        pass = inl (refl, refl);
        seat = inl (refl, refl, refl);
      },
    )
