use Rattle.std.proofs.Common.{◌≡◌, ◌∷◌, List, ℕ, sym, ap, subst, ◌∙◌, arith}
use Rattle.alog_lane.specs.declared.view.LockedValue.{LockedValue}
use Rattle.alog_lane.specs.Seats.{Known}
use Rattle.alog_lane.specs.Turns.{Turned}
use Rattle.alog_lane.specs.Calls.{TakesTurn}
use Rattle.alog_lane.proofs.Turning.{same_first, may_give_back, turn_taken}
use Rattle.alog_lane.proofs.lane.Lane.turn_once.Goals as goal

pub take_turn-answer-requires-clause-owner : goal.take_turn-answer-requires-clause-owner
take_turn-answer-requires-clause-owner g c =
    let got = c.try_lock.ensures.tried.0 c.if-try_lock-ne-FREE.false
    in let same : got.first ≡ c.args.self.now.first = same_first got.first c.args.self.now.first (sym got.key
    ∙ ap (λ s. s.first) c.seat.view_is ∙ c.requires.seat.first)
    in let M : g.row.T.Denot → Type 0 = λ v. g.T.Turn.may_turn v c.args.item.now c.args.scratch.now
    in (
      got.locked,
      got.taken ∙ ap (λ (l : List (ℕ
          × LockedValue g.row.T.Denot g.row.T-Item.Denot g.row.T-Reply.Denot g.row.T-Scratch.Denot)). (
            0,
            got.locked,
          ) ∷ l) c.seat.invariant.1,
      got.reaches.keeps c.args.item.now c.args.scratch.now
          (subst M (sym same) c.requires.may_turn),
    )

pub store-requires : goal.store-requires
store-requires g c =
    let got = c.try_lock.ensures.tried.0 c.if-try_lock-ne-FREE.false
    in (
      c.take_turn-answer.ensures.table ∙ c.try_lock.ensures.table ∙ ap (λ s. s.table) c.seat.view_is ∙ c.requires.seat.table
          ∙ ap (λ l. l.table) (sym c.self.view_is),
      omega (arith, c.self.inside.sized.0),
      may_give_back g.T.Turn.turns g.T.Turn.may_turn _ _ c.seat.inside.seat.me c.try_lock.new.own.me c.take_turn-answer.new.own.me
          got c.take_turn-answer.ensures.took c.self.inside.table.shared.key.value c.self.inside.table.shared.table_id.slots
          c.take_turn-answer.new.own.id,
    )

pub returns-clause-turn : goal.returns-clause-turn
returns-clause-turn g c =
    let got = c.try_lock.ensures.tried.0 c.if-try_lock-ne-FREE.false
    in let D : Type 0 = Turned g.row.T-Item.Denot g.row.T-Scratch.Denot g.row.T-Reply.Denot
    in let deed : D = record {
      tag = c.args.tag;
      item = c.args.item.now;
      before = c.args.scratch.now;
      reply = c.take_turn-answer.result.1;
      after = c.take_turn-answer.new.scratch;
    }
    in let same : got.first ≡ c.args.self.now.first = same_first got.first c.args.self.now.first (sym got.key
    ∙ ap (λ s. s.first) c.seat.view_is ∙ c.requires.seat.first)
    in let F : g.row.T.Denot → Type 0 = λ v. TakesTurn g.T.Turn.turns v c.seat.inside.seat.me.0.known c.store.new.seat.me.0.known
    deed c.take_turn-answer.result.0
    in let K : Known D → Type 0 = λ k. TakesTurn g.T.Turn.turns c.args.self.now.first k c.store.new.seat.me.0.known deed
    c.take_turn-answer.result.0
    in subst K (ap (λ s. s.known) c.seat.view_is)
    (subst F same (turn_taken g.T.Turn.turns g.T.Turn.may_turn deed c.take_turn-answer.result.0 c.seat.inside.seat.me
    c.try_lock.new.own.me c.take_turn-answer.new.own.me got c.take_turn-answer.ensures.took c.store.new.seat.me
    c.seat.invariant.5 c.store.ensures.2))
