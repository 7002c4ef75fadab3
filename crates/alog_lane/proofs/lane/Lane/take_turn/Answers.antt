use Rattle.std.proofs.Common.{◌≡◌, ℕ, Option, List, ◌∷◌, [], refl, sym, ap, subst, ◌∙◌}
use Rattle.atomic_table.specs.Table.{rest}
use Rattle.alog_lane.specs.declared.view.LockedValue.{LockedValue}
use Rattle.alog_lane.specs.declared.view.Done.{Done}
use Rattle.alog_lane.specs.Turns.{Turned}
use Rattle.alog_lane.specs.Plays.{last_is}
use Rattle.alog_lane.proofs.lane.Lane.take_turn.Goals as goal

pub slot_mut-locked-requires : goal.slot_mut-locked-requires
slot_mut-locked-requires g c = let o = c.requires.owner
    in (c.requires.table ∙ ap (λ l. l.table) (sym c.self.view_is), (o.0, o.1 ∙ ap (λ l. (0, o.0) ∷ rest l) (sym o.1)))

pub returns-clause-took : goal.returns-clause-took
returns-clause-took g c =
    let Slot : Type 0 = LockedValue g.row.T.Denot g.row.T-Item.Denot g.row.T-Reply.Denot g.row.T-Scratch.Denot
    in let old : Slot = c.slot_mut-locked.result.now
    in let new : Slot = record { value = c.turn-reply.new.self; turns = c.index_after-locked.result; last = c.of-4.result }
    in let none_left : rest c.args.own.now.me.1 ≡ [] = ap rest c.requires.owner.1
    in let deed : Turned g.row.T-Item.Denot g.row.T-Scratch.Denot g.row.T-Reply.Denot = record {
      tag = c.args.tag;
      item = c.args.item.now;
      before = c.args.scratch.now;
      reply = c.turn-reply.result;
      after = c.turn-reply.new.scratch;
    }
    in let L : Option (Done g.row.T.Denot g.row.T-Item.Denot g.row.T-Reply.Denot g.row.T-Scratch.Denot) → Type 0 = λ o. last_is o deed
    in record {
      view = refl;
      old = old;
      was = c.slot_mut-locked.ensures.value ∙ ap (λ (l : List (ℕ × Slot)). (0, old) ∷ l) none_left;
      index_is = refl;
      new = new;
      is = ap (λ (l : List (ℕ × Slot)). (0, new) ∷ l) none_left;
      count = c.index_after-locked.ensures;
      last = subst L (sym c.of-4.ensures) (λ i. record {
        tag = c.args.tag;
        item = c.of.ensures i;
        before = c.of-before.ensures i;
        reply = c.of-2.ensures i;
        after = c.of-3.ensures i;
      });
      turn = c.turn-reply.ensures.turned;
      keeps = c.turn-reply.ensures.keeps;
    }
