use Rattle.std.proofs.Common.{Some, None, Option, inl, refl, sym, ap, subst, ◌∙◌, arith}
use Rattle.alog_core.specs.Accounts.{takes}
use Rattle.alog_hosted.specs.Lent.{HostedView}
use Rattle.alog_hosted.specs.Owed.{IsLastOf}
use Rattle.alog_hosted.specs.declared.owed.Owed.{Owed}
use Rattle.alog_hosted.specs.Workers.{WorkerView}
use Rattle.alog_hosted.proofs.Handling.{ended_now, part_of, same_after, still_worker}
use Rattle.alog_pool.specs.declared.shared.Shared.{Shared}
use Rattle.alog_hosted.proofs.worker.HostedWorker.finish.Goals as goal

pub invariant_of-self : goal.invariant_of-self
invariant_of-self g c =
    let S = g.row.S.Denot in
    let i = c.self.inside in
    let shared = ap (λ (h : HostedView S). h.shared) c.hosted.view_is ∙ sym (ap (λ (v : WorkerView S). v.shared) c.self.view_is ∙ c.requires.of.shared) in
    let part = part_of c.in-Some.owed None (ap (λ (s : Shared). s.loggers) shared) c.in-Some.is
    c.item-item.ensures c.in-None.ensures.turns in
    (still_worker c.self.invariant.0 c.in-None.ensures.places part, c.in-None.ensures.line, c.self.invariant.2, tt)

pub invariant_of-self-in-Some-make_turns : goal.invariant_of-self-in-Some-make_turns
invariant_of-self-in-Some-make_turns g c =
    let S = g.row.S.Denot in
    let i = c.self.inside in
    let shared = ap (λ (h : HostedView S). h.shared) c.hosted.view_is ∙ sym (ap (λ (v : WorkerView S). v.shared) c.self.view_is ∙ c.requires.of.shared) in
    let part = part_of c.in-Some.owed (Some c.in-Some-make_turns.place)
    (ap (λ (s : Shared). s.loggers) shared) c.in-Some.is c.item-item.ensures c.in-Some-make_turns.ensures.turns in (
      still_worker c.self.invariant.0 c.in-Some-make_turns.ensures.places part,
      c.in-Some-make_turns.ensures.line,
      c.self.invariant.2,
      subst (λ (q : Option Owed). IsLastOf (takes i.pass.known.own) q i.block.item) c.in-Some.is c.self.invariant.3,
    )

pub returns-in-None-clause-same : goal.returns-in-None-clause-same
returns-in-None-clause-same g c = same_after c.self.view_is c.in-None.ensures.places

pub returns-in-None-clause-ended : goal.returns-in-None-clause-ended
returns-in-None-clause-ended g c = λ none. (ended_now c.self.view_is c.self.invariant.0.work.faithful 1 (omega (arith, c.requires.half)), refl)

pub returns-in-Some-make_turns-clause-same : goal.returns-in-Some-make_turns-clause-same
returns-in-Some-make_turns-clause-same g c = same_after c.self.view_is c.in-Some-make_turns.ensures.places

pub returns-in-Some-make_turns-clause-pause : goal.returns-in-Some-make_turns-clause-pause
returns-in-Some-make_turns-clause-pause g c =
    (ended_now c.self.view_is c.self.invariant.0.work.faithful 0 (omega (arith, c.requires.half)), inl refl)
