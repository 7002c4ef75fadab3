use Rattle.std.proofs.Common.{◌≡◌, ◌≤◌, List, [], ◌∷◌, inl, inr, refl, sym, ap, subst, ◌∙◌, arith}
use Rattle.alog_core.specs.Accounts.{takes}
use Rattle.alog_hosted.specs.Lent.{HostedView}
use Rattle.alog_hosted.specs.Owed.{half_of, owed_of}
use Rattle.alog_hosted.specs.Workers.{IsWorker, WorkerView}
use Rattle.alog_hosted.proofs.Handling.{ended_took, free_last, free_owes, moved_worker, refused_now, same_after, took_worker}
use Rattle.alog_msg.specs.Block.{BlockFields}
use Rattle.alog_pool.specs.Deeds.{Due}
use Rattle.alog_pool.specs.declared.shared.Shared.{Shared}
use Rattle.alog_pool.proofs.SharedDeeds.{have_none}
use Rattle.alog_pool.proofs.SharedMoves.{popped_moved, refused_moved}
use Rattle.alog_pool.proofs.SharedWorked.{account_of_nothing, moved_gots}
use Rattle.alog_msg.specs.declared.item.Item.{Item}
use Rattle.alog_pool.specs.Accounts.{Moved}
use Rattle.alog_registry.specs.Limit.{HoldsTo}
use Rattle.alog_ring.specs.Known.{IsPassOf}
use Rattle.alog_ring.specs.declared.pop.PopError.TheVariants as pop
use Rattle.alog_hosted.proofs.worker.HostedWorker.take.Goals as goal

pub invariant_of-self : goal.invariant_of-self
invariant_of-self g c =
    let S = g.row.S.Denot in
    let i = c.self.inside in
    let shared = ap (λ (h : HostedView S). h.shared) c.hosted.view_is ∙ sym (ap (λ (v : WorkerView S). v.shared) c.self.view_is ∙ c.requires.of.shared) in
    let free : half_of i.owed ≡ 0 = ap (λ (v : WorkerView S). v.half) c.self.view_is ∙ c.requires.free in
    let w = subst (λ (o : List Due). IsWorker i.shared.value i.pass i.block i.places.items i.tickets.items i.handled i.most o)
    (free_owes i.shared.value.loggers i.owed i.block.item free) c.self.invariant.0 in
    let hand = c.pop_swap_into.new.hand in
    let moved = popped_moved i.pass.known c.pop_swap_into.new.pass.known _ c.in-Ok.ticket hand.item c.in-Ok.ensures.popped in
    let ring = subst (λ (s : Shared). IsPassOf s.ring.ring c.pop_swap_into.new.pass) shared c.pop_swap_into.ensures.ring in
    let fits = subst (λ (s : Shared). HoldsTo s.ring.ring.limit hand) shared c.pop_swap_into.ensures.limit in
    let counted = c.count.ensures.counted i.pass.known c.pop_swap_into.new.pass.known w.work
    (subst (λ (x : Item). Moved i.pass.known c.pop_swap_into.new.pass.known [] ((c.in-Ok.ticket, x) ∷ [])) (sym c.item-item.ensures) moved) in (
      took_worker {after = hand} {ts = c.count.new.tickets.items} {hs = c.count.new.handled} c.in-Ok.ticket w refl ring counted moved fits,
      c.self.invariant.1,
      subst (λ n. i.most ≤ n) (sym c.count.ensures.room) c.self.invariant.2,
      (takes i.pass.known.own, moved_gots i.pass.known c.pop_swap_into.new.pass.known [] ((c.in-Ok.ticket, hand.item) ∷ []) moved),
    )

pub invariant_of-self-in-Ok-flush_all : goal.invariant_of-self-in-Ok-flush_all
invariant_of-self-in-Ok-flush_all g c =
    let S = g.row.S.Denot in
    let i = c.self.inside in
    let shared = ap (λ (h : HostedView S). h.shared) c.hosted.view_is ∙ sym (ap (λ (v : WorkerView S). v.shared) c.self.view_is ∙ c.requires.of.shared) in
    let ring = subst (λ (s : Shared). IsPassOf s.ring.ring c.pop_swap_into.new.pass) shared c.pop_swap_into.ensures.ring in
    let moved = refused_moved i.pass.known c.pop_swap_into.new.pass.known c.in-Err-Idle.field-0 c.in-Err-Idle.ensures.refused in (
      subst (λ (b : BlockFields). IsWorker i.shared.value c.pop_swap_into.new.pass b c.flush_all.new.places.items i.tickets.items i.handled i.most
          (owed_of i.shared.value.loggers i.owed b.item)) (sym c.in-Err-Idle.ensures.left)
          (moved_worker c.self.invariant.0 ring (account_of_nothing c.self.invariant.0.work moved) moved c.flush_all.ensures.places c.flush_all.ensures.turns),
      c.flush_all.ensures.line,
      c.self.invariant.2,
      free_last _ i.owed _ (ap (λ (v : WorkerView S). v.half) c.self.view_is ∙ c.requires.free),
    )

pub returns-in-Ok-flush_all-clause-same : goal.returns-in-Ok-flush_all-clause-same
returns-in-Ok-flush_all-clause-same g c = same_after c.self.view_is c.flush_all.ensures.places

pub returns-in-Ok-flush_all-clause-pause : goal.returns-in-Ok-flush_all-clause-pause
returns-in-Ok-flush_all-clause-pause g c =
    let S = g.row.S.Denot in
    let i = c.self.inside in
    let new = c.pop_swap_into.new.pass in
    let free : half_of i.owed ≡ 0 = ap (λ (v : WorkerView S). v.half) c.self.view_is ∙ c.requires.free in
    let refused = c.in-Err-Idle.ensures.refused in
    let half = c.requires.free in (
      ended_took c.self.view_is [] (refused_moved i.pass.known new.known c.in-Err-Idle.field-0 refused) 0 (omega (arith, free, half)),
      (
        (
          c.in-Err-Idle.field-0-0,
          refused_now c.self.view_is c.self.invariant.0.work.faithful (pop.Idle c.in-Err-Idle.field-0-0) c.in-Err-Idle.field-0 c.in-Err-Idle.field-0-is
              c.in-Err-Idle.ensures.refused,
        ),
        free,
        free_owes i.shared.value.loggers i.owed c.pop_swap_into.new.hand.item free,
        c.in-Ok-flush_all.ensures.flushed,
      ),
    )

pub invariant_of-self-in-Err : goal.invariant_of-self-in-Err
invariant_of-self-in-Err g c =
    let S = g.row.S.Denot in
    let i = c.self.inside in
    let shared = ap (λ (h : HostedView S). h.shared) c.hosted.view_is ∙ sym (ap (λ (v : WorkerView S). v.shared) c.self.view_is ∙ c.requires.of.shared) in
    let ring = subst (λ (s : Shared). IsPassOf s.ring.ring c.pop_swap_into.new.pass) shared c.pop_swap_into.ensures.ring in
    let moved = refused_moved i.pass.known c.pop_swap_into.new.pass.known c.in-Err-Idle.field-0 c.in-Err-Idle.ensures.refused in (
      subst (λ (b : BlockFields). IsWorker i.shared.value c.pop_swap_into.new.pass b c.flush_all.new.places.items i.tickets.items i.handled i.most
          (owed_of i.shared.value.loggers i.owed b.item)) (sym c.in-Err-Idle.ensures.left)
          (moved_worker c.self.invariant.0 ring (account_of_nothing c.self.invariant.0.work moved) moved c.flush_all.ensures.places c.flush_all.ensures.turns),
      c.flush_all.ensures.line,
      c.self.invariant.2,
      free_last _ i.owed _ (ap (λ (v : WorkerView S). v.half) c.self.view_is ∙ c.requires.free),
    )

pub returns-in-Err-clause-same : goal.returns-in-Err-clause-same
returns-in-Err-clause-same g c = same_after c.self.view_is c.flush_all.ensures.places

pub returns-in-Err-clause-pause : goal.returns-in-Err-clause-pause
returns-in-Err-clause-pause g c =
    let S = g.row.S.Denot in
    let i = c.self.inside in
    let free : half_of i.owed ≡ 0 = ap (λ (v : WorkerView S). v.half) c.self.view_is ∙ c.requires.free in
    let half = c.requires.free in (
      ended_took c.self.view_is []
          (refused_moved i.pass.known c.pop_swap_into.new.pass.known c.in-Err-Idle.field-0 c.in-Err-Idle.ensures.refused) 0
          (omega (arith, free, half)),
      inr (
        (
          c.in-Err-Idle.field-0-0,
          refused_now c.self.view_is c.self.invariant.0.work.faithful (pop.Idle c.in-Err-Idle.field-0-0) c.in-Err-Idle.field-0 c.in-Err-Idle.field-0-is
              c.in-Err-Idle.ensures.refused,
        ),
        c.in-Err.ensures.held,
      ),
    )

pub invariant_of-self-in-Err-Empty : goal.invariant_of-self-in-Err-Empty
invariant_of-self-in-Err-Empty g c =
    let S = g.row.S.Denot in
    let i = c.self.inside in
    let shared = ap (λ (h : HostedView S). h.shared) c.hosted.view_is ∙ sym (ap (λ (v : WorkerView S). v.shared) c.self.view_is ∙ c.requires.of.shared) in
    let ring = subst (λ (s : Shared). IsPassOf s.ring.ring c.pop_swap_into.new.pass) shared c.pop_swap_into.ensures.ring in
    let moved = refused_moved i.pass.known c.pop_swap_into.new.pass.known c.in-Err-Empty.field-0 c.in-Err-Empty.ensures.refused in (
      subst (λ (b : BlockFields). IsWorker i.shared.value c.pop_swap_into.new.pass b i.places.items i.tickets.items i.handled i.most
          (owed_of i.shared.value.loggers i.owed b.item)) (sym c.in-Err-Empty.ensures.left)
          (moved_worker c.self.invariant.0 ring (account_of_nothing c.self.invariant.0.work moved) moved refl (have_none 0 i.places.items)),
      c.self.invariant.1,
      c.self.invariant.2,
      free_last _ i.owed _ (ap (λ (v : WorkerView S). v.half) c.self.view_is ∙ c.requires.free),
    )

pub invariant_of-self-in-Err-Busy : goal.invariant_of-self-in-Err-Busy
invariant_of-self-in-Err-Busy g c =
    let S = g.row.S.Denot in
    let i = c.self.inside in
    let shared = ap (λ (h : HostedView S). h.shared) c.hosted.view_is ∙ sym (ap (λ (v : WorkerView S). v.shared) c.self.view_is ∙ c.requires.of.shared) in
    let ring = subst (λ (s : Shared). IsPassOf s.ring.ring c.pop_swap_into.new.pass) shared c.pop_swap_into.ensures.ring in
    let moved = refused_moved i.pass.known c.pop_swap_into.new.pass.known c.in-Err-Busy.field-0 c.in-Err-Busy.ensures.refused in (
      subst (λ (b : BlockFields). IsWorker i.shared.value c.pop_swap_into.new.pass b i.places.items i.tickets.items i.handled i.most
          (owed_of i.shared.value.loggers i.owed b.item)) (sym c.in-Err-Busy.ensures.left)
          (moved_worker c.self.invariant.0 ring (account_of_nothing c.self.invariant.0.work moved) moved refl (have_none 0 i.places.items)),
      c.self.invariant.1,
      c.self.invariant.2,
      free_last _ i.owed _ (ap (λ (v : WorkerView S). v.half) c.self.view_is ∙ c.requires.free),
    )

pub returns-in-Ok-clause-took : goal.returns-in-Ok-clause-took
returns-in-Ok-clause-took g c = λ none.
    let i = c.self.inside in
    let half = c.requires.free in (
      ended_took c.self.view_is ((c.in-Ok.ticket, c.pop_swap_into.new.hand.item) ∷ [])
          (popped_moved i.pass.known c.pop_swap_into.new.pass.known _ c.in-Ok.ticket c.pop_swap_into.new.hand.item c.in-Ok.ensures.popped) 0
          (omega (arith, half)),
      refl,
    )

pub returns-in-Err-Empty : goal.returns-in-Err-Empty
returns-in-Err-Empty g c =
    let S = g.row.S.Denot in
    let i = c.self.inside in
    let free : half_of i.owed ≡ 0 = ap (λ (v : WorkerView S). v.half) c.self.view_is ∙ c.requires.free in
    let half = c.requires.free in
    record {
      same = same_after c.self.view_is refl;
      took = λ none. absurd (cc none);
      pause = (
        ended_took c.self.view_is []
            (refused_moved i.pass.known c.pop_swap_into.new.pass.known c.in-Err-Empty.field-0 c.in-Err-Empty.ensures.refused) 0
            (omega (arith, free, half)),
        (
          inl (
            c.in-Err-Empty.field-0-0,
            refused_now c.self.view_is c.self.invariant.0.work.faithful (pop.Empty c.in-Err-Empty.field-0-0) c.in-Err-Empty.field-0 c.in-Err-Empty.field-0-is
                c.in-Err-Empty.ensures.refused,
          ),
          free,
          free_owes i.shared.value.loggers i.owed c.pop_swap_into.new.hand.item free,
        ),
      );
    }

pub returns-in-Err-Busy : goal.returns-in-Err-Busy
returns-in-Err-Busy g c =
    let S = g.row.S.Denot in
    let i = c.self.inside in
    let free : half_of i.owed ≡ 0 = ap (λ (v : WorkerView S). v.half) c.self.view_is ∙ c.requires.free in
    let half = c.requires.free in
    record {
      same = same_after c.self.view_is refl;
      took = λ none. absurd (cc none);
      pause = (
        ended_took c.self.view_is []
            (refused_moved i.pass.known c.pop_swap_into.new.pass.known c.in-Err-Busy.field-0 c.in-Err-Busy.ensures.refused) 0
            (omega (arith, free, half)),
        (
          inr (
            c.in-Err-Busy.field-0-0,
            refused_now c.self.view_is c.self.invariant.0.work.faithful (pop.Busy c.in-Err-Busy.field-0-0) c.in-Err-Busy.field-0 c.in-Err-Busy.field-0-is
                c.in-Err-Busy.ensures.refused,
          ),
          free,
          free_owes i.shared.value.loggers i.owed c.pop_swap_into.new.hand.item free,
        ),
      );
    }
