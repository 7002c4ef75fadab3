use Rattle.std.proofs.Common.{inl, inr, sym, ◌∙◌, arith}
use Rattle.alog_sink.specs.Opened.{AreNoMembers}
use Rattle.alog_config.proofs.Taking.{taken_no_fan, takes_long}
use Rattle.alog_config.proofs.parts.fan_of.Goals as goal

pub unreachable-requires : goal.unreachable-requires
unreachable-requires g c =
    let members = c.in_ok-members.members.items in
    let t = c.in_ok-members.ensures in
    let long = takes_long c.args.parts.now.items c.args.names.now members _ t in
    let some = c.requires.names.some in
    let few = c.requires.names.few in
    let bad : ¬ AreNoMembers members = λ x. elim x [
      | inl none ↦ omega (arith, long, some, none)
      | inr y ↦ elim y [
        | inl many ↦ omega (arith, long, few, many)
        | inr fan ↦ taken_no_fan c.args.parts.now.items c.args.names.now members _ t c.requires.leaves fan
      ]
    ] in
    elim c.in-BadLimit.is [
      | inl limit ↦ bad (c.in-Err.ensures.bad_limit.0 limit)
      | inr others ↦ elim c.in-Err.ensures.refusals [
        | inl limit ↦ bad (c.in-Err.ensures.bad_limit.0 limit)
        | inr memory ↦ elim others [ inl name ↦ absurd (let e = sym memory ∙ name in cc e) | inr store ↦ absurd (let e = sym memory ∙ store in cc e) ]
      ]
    ]
